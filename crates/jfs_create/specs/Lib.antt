-- what the clauses say
pub mod New
pub mod Extent
pub mod Makes
pub mod Look
pub mod Seat
pub mod Plans
pub mod Reserved
-- libraries below, passed on
pub use Rattle.jfs_bmap as bmap
pub use Rattle.jfs_link.specs.claim
pub use Rattle.jfs_link as link
pub use Rattle.jfs_link.specs.place
pub use Rattle.jfs_link.specs.room
