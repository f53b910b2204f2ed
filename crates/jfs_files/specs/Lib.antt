-- what the clauses say
pub mod Outcome
pub mod Written
pub mod Bytes
pub mod Renames
pub mod Meets
pub mod Laws
-- libraries below, passed on
pub use Rattle.jfs_create.specs.bmap
pub use Rattle.jfs_truncate.specs.data_steps
