pub mod After
pub mod Directory
pub mod Loses
pub mod Frees
pub mod Named
pub mod Calls
