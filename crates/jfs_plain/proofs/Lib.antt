pub mod Chained
pub mod Splice
pub mod Refusing
pub mod Short
