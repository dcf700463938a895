pub mod Linear
pub mod Value
pub mod Codes
pub mod Commitment
pub mod Interpolation
pub mod LinearLaws
