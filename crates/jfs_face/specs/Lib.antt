-- what the clauses say
pub mod Places
pub mod Items
pub mod MapPages
pub mod Volume
pub mod Marks
pub mod Mounted
pub mod Recovered
pub mod Redo
pub mod Laws
-- libraries below, passed on
pub use Rattle.jfs_recovery as recovery
pub use Rattle.jfs_steps as steps
