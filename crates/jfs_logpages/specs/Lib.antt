-- what the clauses say
pub mod Ring
pub mod Group
pub mod Fresh
pub mod Back
pub mod Outcome
pub mod ReadLog
pub mod Records
pub mod Laws
-- lemmas and how things are kept: for the prover
pub mod Marks
pub mod Shown
