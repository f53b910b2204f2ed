pub mod Gains
pub mod Links
pub mod Extent
pub mod Makes
pub mod Calls
