-- what the clauses say
pub mod Layout
pub mod Root
pub mod Inodes
pub mod Superblock
pub mod Volume
pub mod Answer
pub mod Laws
-- for the prover
pub mod Wrote
pub mod Map
pub mod Leaves
pub mod Areas
pub mod Steps
-- libraries below, passed on
pub use Rattle.jfs_bmap as bmap
pub use Rattle.jfs_imap as imap
