pub mod Kept
pub mod Zeroed
pub mod Bytes
pub mod Cut
pub mod Done
pub mod Refused
