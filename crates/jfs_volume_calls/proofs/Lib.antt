pub mod Lift
pub mod Written
pub mod Chained
pub mod Kept
pub mod Maps
