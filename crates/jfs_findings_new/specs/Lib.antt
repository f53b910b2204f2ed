-- what the clause says
pub mod Law
-- libraries below, passed on
pub use Rattle.jfs_findings.specs.bmap
pub use Rattle.jfs_findings as findings
pub use Rattle.jfs_new_volume.specs.format
pub use Rattle.jfs_new_volume.specs.meaning
pub use Rattle.jfs_findings.specs.mount_rules
pub use Rattle.jfs_new_volume as new_volume
pub use Rattle.jfs_new_volume.specs.objects
