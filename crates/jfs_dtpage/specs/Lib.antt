-- what the clauses say
pub mod Page
pub mod Slots
pub mod Form
pub mod Order
pub mod Met
pub mod Given
pub mod Fill
