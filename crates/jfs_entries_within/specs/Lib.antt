-- what the laws say
pub mod Within
-- libraries below, passed on
pub use Rattle.jfs_entered as entered
