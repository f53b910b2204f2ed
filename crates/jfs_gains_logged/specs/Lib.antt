-- what the laws say
pub mod Calls
-- libraries below, passed on
pub use Rattle.jfs_create as create
