pub mod Places
pub mod Extents
pub mod Kept
pub mod Mounted
