-- what the clauses say
pub mod Founded
pub mod Standing
pub mod Changes
pub mod Marks
pub mod Behind
pub mod Marking
pub mod Owners
pub mod Notes
-- libraries below, passed on
pub use Rattle.jfs_data_steps as data_steps
pub use Rattle.jfs_imap as imap
pub use Rattle.jfs_data_steps.specs.kinds
pub use Rattle.jfs_data_steps.specs.objects
pub use Rattle.jfs_records as records
pub use Rattle.jfs_data_steps.specs.steps
