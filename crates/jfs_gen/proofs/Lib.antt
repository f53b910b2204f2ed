pub mod Digits
pub mod Paths
pub mod Names
pub mod Lines
pub mod Files
