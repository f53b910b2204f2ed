-- what the law says
pub mod Answered
