pub mod Found
pub mod Parts
pub mod Steps
pub mod Follow
