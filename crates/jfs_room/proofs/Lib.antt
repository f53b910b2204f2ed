pub mod Blocks
pub mod Fresh
pub mod Rooms
pub mod Added
