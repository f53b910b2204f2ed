-- what the clauses say
pub mod Ran
