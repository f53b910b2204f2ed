-- what the clauses say
pub mod Joins
pub mod Link
-- libraries below, passed on
pub use Rattle.jfs_claim as claim
pub use Rattle.jfs_lead_steps as lead_steps
pub use Rattle.jfs_lead_steps.specs.meaning
pub use Rattle.jfs_lead_steps.specs.objects
pub use Rattle.jfs_place as place
pub use Rattle.jfs_claim.specs.room
pub use Rattle.jfs_claim.specs.runs
pub use Rattle.jfs_steps as steps
pub use Rattle.jfs_steps.specs.way
