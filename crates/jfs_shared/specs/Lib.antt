-- what the clauses say
pub mod Base
pub mod Entries
pub mod Faults
pub mod Shared
pub mod Calls
pub mod Both
pub mod Home
pub mod Settled
pub mod Start
pub mod Left
-- libraries below, passed on
pub use Rattle.jfs_kept_history.specs.legal as legal
pub use Rattle.jfs_kept_history as kept_history
