pub mod Putting
pub mod Setting
pub mod Files
pub mod Told
pub mod Extents
pub mod Held
