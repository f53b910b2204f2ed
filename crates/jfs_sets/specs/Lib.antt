-- what the clauses say
pub mod Sets
-- for the prover
pub mod Parts
-- libraries below, passed on
pub use Rattle.jfs_mount.specs.each
pub use Rattle.jfs_mount.specs.meaning
pub use Rattle.jfs_mount as mount_rules
pub use Rattle.jfs_mount.specs.objects
pub use Rattle.jfs_mount.specs.reader
