-- what the clauses say
pub mod Subject
pub mod Mount
pub mod Files
pub mod Steps
-- libraries below, passed on
pub use Rattle.jfs_bmap as bmap
pub use Rattle.jfs_bmap.specs.dmap
pub use Rattle.jfs_bmap.specs.dmapctl
pub use Rattle.jfs_each as each
pub use Rattle.jfs_reader.specs.meaning
pub use Rattle.jfs_reader.specs.objects
pub use Rattle.jfs_reader.specs.page_tree
pub use Rattle.jfs_reader.specs.plain
pub use Rattle.jfs_reader as reader
pub use Rattle.jfs_reader.specs.xtree
