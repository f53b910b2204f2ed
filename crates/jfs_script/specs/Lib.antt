-- what the clauses say
pub mod Script
pub mod Lines
pub mod Line
pub mod Words
pub mod Number
pub mod Target
pub mod Text
pub mod History
pub mod Laws
-- how far a script is read: for the prover
pub mod Progress
