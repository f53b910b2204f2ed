pub mod Lists
pub mod Views
pub mod Standing
pub mod Rule
pub mod Told
pub mod Both
pub mod Passes
pub mod Laws
