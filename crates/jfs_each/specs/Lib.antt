-- the inodes in use, one after the other
pub mod Each
-- libraries below, passed on
pub use Rattle.jfs_objects as objects
