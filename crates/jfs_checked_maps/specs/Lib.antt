-- what the law says
pub mod Past
