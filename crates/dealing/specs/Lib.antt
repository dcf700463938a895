pub mod Dealing
pub mod Refusals
