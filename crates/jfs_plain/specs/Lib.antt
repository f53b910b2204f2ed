-- what the clauses say
pub mod Call
pub mod Refusal
pub mod Limits
pub mod Tree
pub mod Moves
pub mod Step
pub mod CallStep
pub mod Plain
pub mod Build
