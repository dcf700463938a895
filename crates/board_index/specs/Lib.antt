pub mod Frames
pub mod State
pub mod Room
pub mod Kept
pub mod Deeds
pub mod KeptLaws
