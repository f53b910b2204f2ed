-- what the clauses say
pub mod Control
pub mod MapControl
pub mod Laws
