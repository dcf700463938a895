pub mod Candidates
pub mod CandidateLaws
