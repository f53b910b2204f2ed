pub mod Replying
pub mod Known
pub mod Going
pub mod Over
