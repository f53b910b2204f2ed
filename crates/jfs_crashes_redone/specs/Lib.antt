-- what the law says
pub mod Crashed
-- libraries below, passed on
pub use Rattle.jfs_held_maps as held_maps
pub use Rattle.jfs_redo as redo
