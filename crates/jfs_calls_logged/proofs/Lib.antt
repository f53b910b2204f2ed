pub mod Found
pub mod Modes
