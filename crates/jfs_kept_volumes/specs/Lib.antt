-- what the laws say
pub mod Keeper
pub mod Rest
pub mod Kept
pub mod Logs
pub mod Steps
pub mod Reserved
-- libraries below, passed on
pub use Rattle.jfs_commits_held as commits_held
pub use Rattle.jfs_log_window as log_window
pub use Rattle.jfs_pages_held as pages_held
pub use Rattle.jfs_held_maps as held_maps
pub use Rattle.jfs_commits_held.specs.joined_held
pub use Rattle.jfs_commits_held.specs.volume_calls
