-- what the clauses say
pub mod Mount
pub mod Laws
pub mod Crashes
-- libraries below, passed on
pub use Rattle.jfs_mount_maps as mount_maps
pub use Rattle.jfs_mount_disk as mount_disk
pub use Rattle.jfs_findings.specs.mount_rules
pub use Rattle.jfs_pages as pages
pub use Rattle.jfs_mount_maps.specs.sets
