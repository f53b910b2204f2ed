-- what the clauses say
pub mod Laws
-- libraries below, passed on
pub use Rattle.jfs_way.specs.bmap
pub use Rattle.jfs_way.specs.meaning
pub use Rattle.jfs_way.specs.objects
pub use Rattle.jfs_way.specs.page_tree
pub use Rattle.jfs_way as way
