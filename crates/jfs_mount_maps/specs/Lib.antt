-- what the clauses say
pub mod Places
pub mod Maps
-- libraries below, passed on
pub use Rattle.jfs_bmap as bmap
pub use Rattle.jfs_imap as imap
pub use Rattle.jfs_sets.specs.mount_rules
pub use Rattle.jfs_sets.specs.reader
pub use Rattle.jfs_sets as sets
pub use Rattle.jfs_claim.specs.way
