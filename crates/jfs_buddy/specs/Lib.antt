-- what the clauses say
pub mod Tree
pub mod Buddy
pub mod Laws
