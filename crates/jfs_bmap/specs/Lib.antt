-- what the clauses say
pub mod Set
pub mod States
pub mod Choice
pub mod Refusal
pub mod Pages
pub mod MapFile
pub mod OwnedBlocks
pub mod Laws
-- lemmas and how things are kept: for the prover
pub mod Freed
pub mod Kept
pub mod Overlap
-- libraries below, passed on
pub use Rattle.jfs_dmap as dmap
pub use Rattle.jfs_dmapctl as dmapctl
