-- what the clauses say
pub mod Readers
pub mod Volume
pub mod Objects
pub mod Owners
pub mod Contents
pub mod Image
pub mod Changes
pub mod Laws
-- libraries below, passed on
pub use Rattle.jfs_tree as page_tree
