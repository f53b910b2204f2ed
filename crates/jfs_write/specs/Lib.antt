-- what the clauses say
pub mod Look
pub mod Data
pub mod Tree
pub mod Make
pub mod Call
-- libraries below, passed on
pub use Rattle.jfs_file_blocks as file_blocks
