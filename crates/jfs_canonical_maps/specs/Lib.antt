-- what the clauses say
pub mod Places
pub mod Images
pub mod Laws
-- libraries below, passed on
pub use Rattle.jfs_face as face
