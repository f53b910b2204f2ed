-- what the clauses say
pub mod Found
pub mod Inodes
pub mod Compared
-- libraries below, passed on
pub use Rattle.jfs_bmap as bmap
