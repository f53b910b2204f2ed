-- what the clauses say
pub mod Call
-- libraries below, passed on
pub use Rattle.jfs_steps as steps
