-- what the law says
pub mod Committed
-- libraries below, passed on
pub use Rattle.jfs_joined_held as joined_held
pub use Rattle.jfs_volume_calls as volume_calls
