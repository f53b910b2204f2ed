-- what the laws say
pub mod Runs
