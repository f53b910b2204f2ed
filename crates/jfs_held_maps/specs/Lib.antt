-- what the laws say
pub mod Places
pub mod Maps
-- libraries below, passed on
pub use Rattle.jfs_left_maps as left_maps
pub use Rattle.jfs_mounted_places as mounted_places
