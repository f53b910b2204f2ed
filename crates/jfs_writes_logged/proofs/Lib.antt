pub mod File
pub mod Tree
pub mod Grown
pub mod Calls
