pub mod Chain
pub mod InPlace
pub mod Turned
pub mod Named
pub mod Again
pub mod Within
