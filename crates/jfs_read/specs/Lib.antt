-- what the clauses say
pub mod Read
-- libraries below, passed on
pub use Rattle.jfs_way.specs.bmap
pub use Rattle.jfs_way.specs.meaning
pub use Rattle.jfs_way as way
