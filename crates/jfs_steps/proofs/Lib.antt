pub mod Puts
pub mod Areas
pub mod After
pub mod Sets
pub mod Grows
pub mod LastNames
