pub mod States
pub mod Rows
pub mod LowestSeats
pub mod Shares
pub mod Revealed
pub mod Products
