-- what the laws say
pub mod Logged
pub mod Own
pub mod Kinds
pub mod Stages
pub mod Edits
pub mod Trees
pub mod Written
-- libraries below, passed on
pub use Rattle.jfs_halves as halves
pub use Rattle.jfs_recovery as recovery
