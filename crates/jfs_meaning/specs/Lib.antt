-- what the clauses say
pub mod Readers
pub mod Contents
pub mod Node
pub mod Tree
pub mod Consistent
pub mod Room
pub mod Image
pub mod Laws
-- libraries below, passed on
pub use Rattle.jfs_dtree as dtree
pub use Rattle.jfs_objects as objects
pub use Rattle.jfs_xtree.specs.page_tree
pub use Rattle.jfs_plain as plain
pub use Rattle.jfs_xtree as xtree
