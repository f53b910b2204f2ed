pub mod Lists
pub mod Events
pub mod Cuts
pub mod Points
pub mod Window
