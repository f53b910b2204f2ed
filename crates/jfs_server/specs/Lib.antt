-- what the clauses say
pub mod Served
pub mod Start
pub mod Called
pub mod Stopped
pub mod Client
pub mod Running
-- libraries below, passed on
pub use Rattle.jfs_clients as clients
pub use Rattle.jfs_groups as groups
pub use Rattle.jfs_serving as serving
pub use Rattle.jfs_shared as shared
pub use Rattle.jfs_turns as turns
