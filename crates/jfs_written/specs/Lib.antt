-- what a range of blocks that is written makes of a file's extents, and its laws
pub mod Range
pub mod RangeLaws
pub mod Balance
pub mod Walk
-- libraries below, passed on
pub use Rattle.jfs_xtree as xtree
