-- what the laws say
pub mod Pages
pub mod Beside
pub mod Called
pub mod Homes
-- libraries below, passed on
pub use Rattle.jfs_joined_held as joined_held
