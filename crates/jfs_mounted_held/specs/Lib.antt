-- what the law says
pub mod Mounted
-- libraries below, passed on
pub use Rattle.jfs_joined_held as joined_held
pub use Rattle.jfs_mounted_places as mounted_places
pub use Rattle.jfs_shown as shown
pub use Rattle.jfs_unmount.specs.mounted
pub use Rattle.jfs_unmount as unmount
