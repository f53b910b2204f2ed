-- what the clauses say
pub mod Image
pub mod Core
pub mod Step
pub mod Sound
pub mod Run
pub mod Law
pub mod Left
-- how a core is kept in memory, and tests that decide the conditions of a step: for the prover
pub mod State
pub mod Decision
