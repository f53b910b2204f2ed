-- what the law says
pub mod Recovered
