-- what the clauses say
pub mod Target
-- libraries below, passed on
pub use Rattle.jfs_xtree as xtree
