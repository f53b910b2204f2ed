pub mod Places
pub mod Blocks
pub mod Given
pub mod Contents
pub mod Spotted
pub mod Rising
pub mod Held
pub mod Steps
