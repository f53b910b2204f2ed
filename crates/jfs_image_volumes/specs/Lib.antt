-- what the clauses say
pub mod Stands
pub mod Next
pub mod Crash
pub mod Enters
-- libraries below, passed on
pub use Rattle.jfs_survival as survival
pub use Rattle.jfs_canonical_maps as canonical_maps
