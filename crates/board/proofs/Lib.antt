pub mod SeatLoops
pub mod Deciding
pub mod StoredCodes
pub mod Testing
pub mod Appending
pub mod Answering
pub mod NextPhase
pub mod Equations
