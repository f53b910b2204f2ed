-- what the clauses say
pub mod Iag
pub mod Control
pub mod Canonical
pub mod Laws
