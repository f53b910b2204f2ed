pub mod Kept
pub mod Blocks
pub mod Inodes
pub mod Joined
