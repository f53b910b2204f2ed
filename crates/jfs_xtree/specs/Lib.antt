-- what a root spells, what the calls do, and how pages are read
pub mod Spells
pub mod Adding
pub mod Node
pub mod Errors
pub mod Laws
pub mod Cutting
pub mod CutParts
pub mod CutMet
pub mod Extents
pub mod Writing
pub mod WriteParts
-- libraries below, passed on
pub use Rattle.jfs_tree as page_tree
