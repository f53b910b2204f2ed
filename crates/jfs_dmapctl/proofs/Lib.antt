pub mod Heads
pub mod Values
pub mod Fronts
pub mod Same
