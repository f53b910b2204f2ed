pub mod Given
pub mod Stopped
pub mod Joined
pub mod Does
