-- what the laws say
pub mod Events
pub mod Window
