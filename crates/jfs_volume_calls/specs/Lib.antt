-- what the clauses say
pub mod Together
pub mod Commit
pub mod Syncpoint
pub mod Halts
pub mod Written
-- libraries below, passed on
pub use Rattle.jfs_volume.specs.crash_core
pub use Rattle.jfs_volume.specs.halves
pub use Rattle.jfs_volume.specs.pages
pub use Rattle.jfs_volume.specs.plain
pub use Rattle.jfs_volume.specs.records
pub use Rattle.jfs_volume as volume
