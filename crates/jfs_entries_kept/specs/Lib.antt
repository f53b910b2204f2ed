-- what the laws say
pub mod Entries
pub mod Kept
-- libraries below, passed on
pub use Rattle.jfs_kept_volumes as kept_volumes
pub use Rattle.jfs_kept_volumes.specs.joined_held
pub use Rattle.jfs_kept_volumes.specs.volume_calls
