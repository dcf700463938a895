pub mod Trusting
