pub mod Text
pub mod Points
pub mod Start
pub mod Log
pub mod Group
pub mod Written
pub mod Collects
pub mod Commit
