-- what the clauses say
pub mod Parts
pub mod Tree
pub mod BlockMap
pub mod InodeMap
pub mod Laws
