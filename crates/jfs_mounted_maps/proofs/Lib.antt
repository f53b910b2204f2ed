pub mod Rules
pub mod Keepable
pub mod Mounted
