-- what the clauses say
pub mod Answer
pub mod Volume
pub mod Way
pub mod Walk
-- libraries below, passed on
pub use Rattle.jfs_bmap as bmap
pub use Rattle.jfs_reader.specs.dtree
pub use Rattle.jfs_imap as imap
pub use Rattle.jfs_reader.specs.meaning
pub use Rattle.jfs_reader.specs.objects
pub use Rattle.jfs_tree as page_tree
pub use Rattle.jfs_reader.specs.plain
pub use Rattle.jfs_reader as reader
