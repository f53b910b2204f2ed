-- what the laws say
pub mod Held
pub mod Called
-- libraries below, passed on
pub use Rattle.jfs_held_calls as held_calls
pub use Rattle.jfs_held_calls.specs.held
pub use Rattle.jfs_volume as volume
pub use Rattle.jfs_entries_within.specs.entered
