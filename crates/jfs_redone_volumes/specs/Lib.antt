-- what the law says
pub mod Redone
