pub mod Places
pub mod Nodes
pub mod Enters
pub mod Walks
