-- what the clauses say
pub mod Super
pub mod Rules
pub mod Geometry
