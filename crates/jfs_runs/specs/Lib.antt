pub mod Laws
-- libraries below, passed on
pub use Rattle.jfs_tree as page_tree
