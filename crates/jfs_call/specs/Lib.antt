-- what the clauses say
pub mod Does
pub mod Noted
pub mod DoesLent
pub mod Asked
pub mod Changed
pub mod Replied
pub mod Answer
pub mod Lent
-- for the prover, and for laws
pub mod Question
pub mod Needs
-- libraries below, passed on
pub use Rattle.jfs_volume_calls.specs.crash_core
pub use Rattle.jfs_files as files
pub use Rattle.jfs_volume_calls.specs.halves
pub use Rattle.jfs_plain as plain
pub use Rattle.jfs_volume_calls.specs.volume
pub use Rattle.jfs_volume_calls as volume_calls
