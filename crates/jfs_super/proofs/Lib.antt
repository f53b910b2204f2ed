pub mod Powers
pub mod Rules
pub mod ReadBack
