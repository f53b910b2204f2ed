-- what the law says
pub mod Alike
