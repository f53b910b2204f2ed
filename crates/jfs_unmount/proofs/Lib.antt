pub mod Marking
pub mod Faults
pub mod Front
pub mod Ended
pub mod Written
pub mod Settled
pub mod Known
pub mod Synced
