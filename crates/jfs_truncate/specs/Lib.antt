-- what the clauses say
pub mod Tail
pub mod Call
-- libraries below, passed on
pub use Rattle.jfs_data_steps as data_steps
pub use Rattle.jfs_data_steps.specs.loss
pub use Rattle.jfs_data_steps.specs.objects
pub use Rattle.jfs_read as read
