-- what the laws say
pub mod Stands
pub mod Played
pub mod Entry
pub mod Lists
pub mod Busy
pub mod MapMarks
pub mod Enters
pub mod Laws
-- libraries below, passed on
pub use Rattle.jfs_face as face
pub use Rattle.jfs_logged.specs.halves as halves
pub use Rattle.jfs_logged as logged
pub use Rattle.jfs_face.specs.recovery as recovery
