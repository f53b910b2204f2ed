-- what the laws say
pub mod Calls
-- libraries below, passed on
pub use Rattle.jfs_calls_logged as calls_logged
pub use Rattle.jfs_unlink as unlink
