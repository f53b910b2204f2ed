-- what the laws say
pub mod Readings
