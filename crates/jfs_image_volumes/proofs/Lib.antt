pub mod Shows
pub mod Places
pub mod Read
pub mod Objects
pub mod Volumes
pub mod Next
pub mod Crash
pub mod Enters
