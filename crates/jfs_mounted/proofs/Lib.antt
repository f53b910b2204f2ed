pub mod Marked
pub mod Started
pub mod Whole
pub mod Left
