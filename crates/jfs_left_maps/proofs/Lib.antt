pub mod Sizes
pub mod Items
