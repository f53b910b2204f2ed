pub mod Fronts
pub mod Heads
pub mod Maps
pub mod Agreed
pub mod Carried
