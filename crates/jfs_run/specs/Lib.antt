-- what the clauses say
pub mod Calls
pub mod Run
pub mod Legal
pub mod Left
pub mod Tasks
-- for the prover
pub mod Mounted
pub mod Clients
pub mod Telling
pub mod Serving
pub mod Ending
-- libraries below, passed on
pub use Rattle.jfs_server.specs.shared.specs.kept_history
