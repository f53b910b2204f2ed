pub mod Trees
pub mod Marks
pub mod Kept
pub mod Changed
pub mod Sums
pub mod Listed
