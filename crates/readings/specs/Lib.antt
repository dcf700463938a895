pub mod Outputs
pub mod Serving
