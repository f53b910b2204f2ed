-- what the clauses say
pub mod Unmount
pub mod Laws
pub mod Synced
-- libraries below, passed on
pub use Rattle.jfs_mounted as mounted
pub use Rattle.jfs_volume_calls as volume_calls
