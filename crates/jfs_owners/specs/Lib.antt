-- how often blocks were counted, and what is counted
pub mod Counts
pub mod Held
pub mod Shared
-- blocks that a count passes over
pub mod Passed
-- libraries below, passed on
pub use Rattle.jfs_findings as findings
pub use Rattle.jfs_findings.specs.meaning
pub use Rattle.jfs_findings.specs.mount_rules
pub use Rattle.jfs_findings.specs.objects
pub use Rattle.jfs_tree as page_tree
pub use Rattle.jfs_findings.specs.plain
