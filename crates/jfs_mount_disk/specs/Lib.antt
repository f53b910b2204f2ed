-- what the clauses say
pub mod Begun
