-- what the clauses say
pub mod Apply
pub mod View
pub mod Laid
