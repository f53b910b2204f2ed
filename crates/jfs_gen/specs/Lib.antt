-- what the clauses say
pub mod Workload
pub mod Summary
pub mod Limits
