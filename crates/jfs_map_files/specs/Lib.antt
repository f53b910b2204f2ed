-- what the clauses say
pub mod Places
pub mod Files
-- libraries below, passed on
pub use Rattle.jfs_bmap as bmap
pub use Rattle.jfs_imap as imap
