-- what the clauses say
pub mod View
pub mod Image
pub mod Held
pub mod Standing
pub mod Opened
pub mod Tree
pub mod Judged
pub mod Tallied
pub mod Room
