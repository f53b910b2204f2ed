-- what the clauses say
pub mod Dmap
pub mod Laws
