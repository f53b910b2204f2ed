pub mod Image
pub mod Canonical
pub mod Places
pub mod Files
