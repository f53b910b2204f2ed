pub mod Counts
pub mod Holds
pub mod Freeing
pub mod Keeping
