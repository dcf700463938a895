pub mod Horner
pub mod CodeWalk
pub mod Inverses
pub mod Differences
pub mod SeatWalk
