pub mod Numbers
pub mod Marking
pub mod Joining
pub mod Lending
pub mod Ending
pub mod Halting
