pub mod WithData
pub mod Cut
pub mod Calls
