-- what the laws say
pub mod Found
pub mod Calls
-- libraries below, passed on
pub use Rattle.jfs_logged as logged
