-- what the clauses say
pub mod Parent
pub mod Rules
pub mod Node
pub mod Laws
pub mod Place
pub mod Parts
pub mod Spells
pub mod Room
pub mod Adding
pub mod Errors
pub mod Reach
pub mod Removing
pub mod Leftmost
pub mod Frame
pub mod Replacing
-- libraries below, passed on
pub use Rattle.jfs_tree as page_tree
