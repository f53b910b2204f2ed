-- what the laws say
pub mod Places
pub mod Mounted
-- libraries below, passed on
pub use Rattle.jfs_held_volumes as held
