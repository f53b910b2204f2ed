-- what the clauses say
pub mod Entry
pub mod Marks
pub mod Half
pub mod Change
pub mod Both
pub mod Parts
pub mod Log
pub mod Moves
pub mod Laws
-- libraries below, passed on
pub use Rattle.jfs_core as crash_core
