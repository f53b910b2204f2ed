pub mod Spelling
pub mod Units
pub mod Names
