pub mod Counts
pub mod Points
pub mod Text
pub mod Stands
pub mod Views
pub mod Leading
pub mod Led
