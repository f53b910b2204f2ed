-- what the clauses say
pub mod Entries
pub mod Objects
pub mod Moves
