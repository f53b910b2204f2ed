-- what the clauses say
pub mod Kind
pub mod Inodes
pub mod Names
pub mod Trees
pub mod Blocks
pub mod Maps
pub mod Findings
pub mod Clean
pub mod Gains
pub mod Laws
-- libraries below, passed on
pub use Rattle.jfs_mount.specs.bmap
pub use Rattle.jfs_mount.specs.dmap
pub use Rattle.jfs_mount.specs.meaning
pub use Rattle.jfs_mount as mount_rules
pub use Rattle.jfs_mount.specs.objects
pub use Rattle.jfs_mount.specs.plain
pub use Rattle.jfs_mount.specs.reader
