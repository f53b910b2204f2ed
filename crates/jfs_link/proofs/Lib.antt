pub mod PlainTree
pub mod Chain
pub mod Asks
pub mod Whole
pub mod Asked
