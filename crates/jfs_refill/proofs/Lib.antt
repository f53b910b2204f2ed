pub mod Listed
pub mod Dividing
pub mod Rooting
pub mod Growth
pub mod Spreading
