-- what the calls leave
pub mod Refilled
pub mod Stored
pub mod Rooted
pub mod Grown
pub mod Spread
