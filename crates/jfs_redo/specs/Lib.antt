-- what the clauses say
pub mod Log
pub mod Put
pub mod Plan
pub mod Moments
pub mod Redo
pub mod Mixed
pub mod Partly
pub mod Apart
pub mod Laws
-- libraries below, passed on
pub use Rattle.jfs_mount_maps.specs.mount_rules
pub use Rattle.jfs_records as records
pub use Rattle.jfs_redo_steps as redo_steps
