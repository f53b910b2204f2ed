-- what the clauses say
pub mod Reached
pub mod Balance
-- libraries below, passed on
pub use Rattle.jfs_meaning.specs.dtree
pub use Rattle.jfs_meaning as meaning
pub use Rattle.jfs_meaning.specs.objects
pub use Rattle.jfs_tree as page_tree
pub use Rattle.jfs_meaning.specs.xtree
