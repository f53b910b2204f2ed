-- what the clauses say
pub mod Owner
pub mod Laws
pub mod Images
-- libraries below, passed on
pub use Rattle.jfs_objects as objects
