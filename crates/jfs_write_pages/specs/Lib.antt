-- what the clauses say
pub mod Spots
pub mod Pages
pub mod Laws
-- libraries below, passed on
pub use Rattle.jfs_data_steps as data_steps
pub use Rattle.jfs_data_steps.specs.loss
pub use Rattle.jfs_data_steps.specs.objects
pub use Rattle.jfs_written as written
