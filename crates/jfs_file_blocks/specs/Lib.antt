-- what the clauses say
pub mod Reserving
-- libraries below, passed on
pub use Rattle.jfs_claim as claim
pub use Rattle.jfs_claim.specs.room
pub use Rattle.jfs_claim.specs.runs
