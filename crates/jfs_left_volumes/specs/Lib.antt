-- what the law says
pub mod Left
