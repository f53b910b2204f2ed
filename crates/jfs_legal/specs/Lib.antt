-- what the laws say
pub mod History
pub mod Laws
-- libraries below, passed on
pub use Rattle.jfs_served as served
