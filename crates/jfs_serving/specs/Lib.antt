-- what the clauses say
pub mod Calls
pub mod Room
pub mod Called
-- for the prover
pub mod Held
pub mod Gave
