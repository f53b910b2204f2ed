pub mod Takes
pub mod Settles
pub mod Looks
