-- what the laws say
pub mod Kept
pub mod Steps
pub mod Syncpoint
-- libraries below, passed on
pub use Rattle.jfs_kept_volumes as kept_volumes
pub use Rattle.jfs_kept_volumes.specs.pages_held
