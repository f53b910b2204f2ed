pub mod Looks
pub mod Lists
