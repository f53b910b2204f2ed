pub mod Counted
pub mod Left
