-- what the laws say
pub mod Calls
-- libraries below, passed on
pub use Rattle.jfs_entries_kept as entries_kept
pub use Rattle.jfs_entries_kept.specs.kept_volumes
pub use Rattle.jfs_served as served
