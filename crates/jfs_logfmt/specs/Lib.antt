-- what the clauses say
pub mod Kinds
pub mod Descriptor
pub mod Text
pub mod Rules
pub mod Written
pub mod Super
