-- what the clauses say
pub mod Dirty
pub mod Kept
pub mod Device
-- lemmas and how things are kept: for the prover
pub mod Pages
pub mod Room
pub mod Steps
pub mod Whole
