pub mod Windows
pub mod Crashed
