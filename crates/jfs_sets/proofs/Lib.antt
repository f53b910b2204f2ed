pub mod Bits
pub mod Files
