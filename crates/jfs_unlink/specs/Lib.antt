-- what the clauses say
pub mod Ends
pub mod Gone
pub mod Call
-- libraries below, passed on
pub use Rattle.jfs_loss as loss
