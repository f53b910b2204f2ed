-- what the clauses say
pub mod Place
