pub mod Stepping
pub mod SoFar
