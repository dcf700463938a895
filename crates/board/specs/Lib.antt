pub mod State
pub mod Posting
