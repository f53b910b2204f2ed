-- what the clauses say
pub mod Text
pub mod Room
pub mod Home
pub mod Told
pub mod Start
pub mod Join
pub mod Runs
pub mod Busy
pub mod Stale
pub mod Data
pub mod Written
pub mod Append
pub mod Shown
pub mod MapsHome
pub mod Asked
pub mod Settle
pub mod Settles
pub mod Gone
-- for the prover
pub mod Lent
pub mod Called
-- libraries below, passed on
pub use Rattle.jfs_bmap as bmap
pub use Rattle.jfs_halves.specs.crash_core
pub use Rattle.jfs_marks.specs.data_steps
pub use Rattle.jfs_halves as halves
pub use Rattle.jfs_marks.specs.kinds
pub use Rattle.jfs_map_files as map_files
pub use Rattle.jfs_pages as pages
pub use Rattle.jfs_plain as plain
pub use Rattle.jfs_records as records
