-- what the clauses say
pub mod Counts
pub mod Uses
pub mod Places
pub mod Judged
pub mod Notes
pub mod Found
-- libraries below, passed on
pub use Rattle.jfs_dtree as dtree
pub use Rattle.jfs_object_check as object_check
pub use Rattle.jfs_object_check.specs.objects
pub use Rattle.jfs_object_check.specs.owners
pub use Rattle.jfs_tree as page_tree
pub use Rattle.jfs_object_check.specs.xtree
