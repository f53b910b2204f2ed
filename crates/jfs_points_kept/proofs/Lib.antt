pub mod Low
pub mod Homes
pub mod Places
pub mod Along
pub mod Apart
pub mod Written
pub mod Points
pub mod Syncpoint
