-- what the clauses say
pub mod Look
pub mod Take
pub mod Laws
-- libraries below, passed on
pub use Rattle.jfs_room.specs.page_tree
pub use Rattle.jfs_room as room
pub use Rattle.jfs_runs as runs
pub use Rattle.jfs_room.specs.way
