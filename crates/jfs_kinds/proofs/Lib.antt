pub mod Parts
pub mod Single
pub mod Holding
pub mod Stay
pub mod Logged
pub mod Edits
pub mod Images
