pub mod Until
pub mod Ways
