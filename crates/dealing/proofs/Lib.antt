pub mod CodeLists
pub mod Opening
pub mod Passing
