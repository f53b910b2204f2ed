-- what the law says
pub mod Crashed
-- libraries below, passed on
pub use Rattle.jfs_face as face
pub use Rattle.jfs_recovery as recovery
pub use Rattle.jfs_redo as redo
