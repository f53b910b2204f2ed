-- what the laws say
pub mod Keepable
pub mod Tree
pub mod Kept
pub mod Laws
pub mod Crash
pub mod Rested
pub mod Failed
pub mod Unmounted
-- libraries below, passed on
pub use Rattle.jfs_points_kept as points_kept
pub use Rattle.jfs_crashes_redone as crashes_redone
pub use Rattle.jfs_mounted_maps.specs.mounted_held
pub use Rattle.jfs_mounted_maps as mounted_maps
pub use Rattle.jfs_legal as legal
