-- what the clauses say
pub mod Ends
pub mod Through
pub mod Permits
pub mod Asks
pub mod Renames
pub mod Done
pub mod Steps
pub mod Once
-- libraries below, passed on
pub use Rattle.jfs_rename_steps as rename_steps
pub use Rattle.jfs_unlink as unlink
