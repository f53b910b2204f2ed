pub mod To
pub mod Newest
pub mod Asked
pub mod Replied
pub mod Entered
pub mod Stopped
pub mod Kept
