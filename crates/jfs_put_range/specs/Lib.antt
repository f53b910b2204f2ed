-- where a range of blocks may lie that is written, what becomes of the tree, and the parts of the call, below the root and at it
pub mod Call
pub mod Way
pub mod Parts
pub mod Tops
-- libraries below, passed on
pub use Rattle.jfs_written as written
