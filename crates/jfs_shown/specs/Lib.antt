-- what the clauses say
pub mod Shown
pub mod Laws
pub mod Files
-- libraries below, passed on
pub use Rattle.jfs_way.specs.bmap
pub use Rattle.jfs_way.specs.imap
pub use Rattle.jfs_kinds as kinds
pub use Rattle.jfs_map_files as map_files
pub use Rattle.jfs_way.specs.meaning
pub use Rattle.jfs_way.specs.objects
pub use Rattle.jfs_way as way
