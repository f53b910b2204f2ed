-- what the clauses say
pub mod Inodes
-- lemmas and how things are kept: for the prover
pub mod Summary
pub mod Lists
