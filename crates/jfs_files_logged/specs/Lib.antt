-- what the law says
pub mod Calls
-- libraries below, passed on
pub use Rattle.jfs_files as files
