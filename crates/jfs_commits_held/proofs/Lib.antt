pub mod Settled
pub mod Committed
