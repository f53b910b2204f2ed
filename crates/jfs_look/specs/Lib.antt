-- what the clauses say
pub mod Look
-- libraries below, passed on
pub use Rattle.jfs_way.specs.meaning
pub use Rattle.jfs_tree as page_tree
pub use Rattle.jfs_way as way
