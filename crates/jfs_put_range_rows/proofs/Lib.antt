pub mod Looked
pub mod Freed
