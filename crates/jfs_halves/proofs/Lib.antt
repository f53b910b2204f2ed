pub mod Joined
pub mod Stepped
pub mod Busy
