-- what the clauses say
pub mod Name
pub mod Directory
pub mod Text
pub mod Answer
pub mod Spelled
