-- what the laws say
pub mod Calls
-- libraries below, passed on
pub use Rattle.jfs_names_logged as names_logged
pub use Rattle.jfs_rename as rename
