-- what the clauses say
pub mod Marked
pub mod Laws
-- libraries below, passed on
pub use Rattle.jfs_marks as marks
