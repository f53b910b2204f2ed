pub mod Freed
pub mod Data
pub mod Played
pub mod Kept
pub mod Quiet
pub mod Crash
