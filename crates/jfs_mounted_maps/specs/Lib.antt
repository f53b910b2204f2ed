-- what the laws say
pub mod Keepable
-- libraries below, passed on
pub use Rattle.jfs_mounted_held as mounted_held
