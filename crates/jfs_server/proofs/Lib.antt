pub mod Answering
pub mod Making
pub mod Ended
pub mod Marking
pub mod Settling
