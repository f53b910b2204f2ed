-- what the clauses say
pub mod Put
pub mod After
pub mod Laws
pub mod Call
pub mod Gains
pub mod Place
-- libraries below, passed on
pub use Rattle.jfs_way.specs.bmap
pub use Rattle.jfs_way.specs.imap
pub use Rattle.jfs_way.specs.meaning
pub use Rattle.jfs_way.specs.objects
pub use Rattle.jfs_way as way
