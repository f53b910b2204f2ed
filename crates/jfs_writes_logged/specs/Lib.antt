-- what the laws say
pub mod Calls
-- libraries below, passed on
pub use Rattle.jfs_contents_logged as contents_logged
pub use Rattle.jfs_write as write
