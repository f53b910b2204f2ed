-- what the clauses say
pub mod Records
pub mod Sizes
pub mod Entries
pub mod Limits
pub mod Committed
pub mod FromText
pub mod Redo
pub mod Marks
pub mod Laws
-- for the prover
pub mod Steps
-- libraries below, passed on
pub use Rattle.jfs_logpages as logpages
