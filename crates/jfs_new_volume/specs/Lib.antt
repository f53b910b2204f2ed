-- what the clause says
pub mod Roots
pub mod Law
-- libraries below, passed on
pub use Rattle.jfs_format as format
pub use Rattle.jfs_format.specs.imap
pub use Rattle.jfs_meaning as meaning
pub use Rattle.jfs_meaning.specs.objects
pub use Rattle.jfs_meaning.specs.page_tree
pub use Rattle.jfs_meaning.specs.plain
