pub mod Buds
pub mod Pages
pub mod Finds
pub mod Heads
pub mod Same
pub mod Agreed
pub mod Roots
pub mod Counted
