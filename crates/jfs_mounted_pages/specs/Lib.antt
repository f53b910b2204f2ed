-- what the law says
pub mod Mounted
