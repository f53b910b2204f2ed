pub mod Fronts
pub mod HeldNode
