-- what the laws say
pub mod Held
pub mod Changes
pub mod Laws
-- libraries below, passed on
pub use Rattle.jfs_image_volumes.specs.canonical_maps as canonical_maps
pub use Rattle.jfs_image_volumes as image_volumes
pub use Rattle.jfs_image_volumes.specs.survival as survival
