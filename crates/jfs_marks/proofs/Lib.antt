pub mod Fitted
pub mod Logged
pub mod NoneTaken
