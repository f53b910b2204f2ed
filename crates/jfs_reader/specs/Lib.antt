-- what reading gives, and when it fails
pub mod Reading
pub mod Map
pub mod Whole
pub mod Borrowed
-- libraries below, passed on
pub use Rattle.jfs_meaning.specs.dtree
pub use Rattle.jfs_meaning as meaning
pub use Rattle.jfs_meaning.specs.objects
pub use Rattle.jfs_meaning.specs.page_tree
pub use Rattle.jfs_meaning.specs.plain
pub use Rattle.jfs_meaning.specs.xtree
