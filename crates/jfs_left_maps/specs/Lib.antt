-- what the laws say
pub mod Sizes
pub mod Items
