pub mod Parts
pub mod Marking
pub mod Left
pub mod Moments
