-- what the clauses say
pub mod Checked
-- what the steps of a check give; for the prover alone
pub mod Look
pub mod Looked
