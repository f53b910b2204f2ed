pub mod Apart
pub mod Trees
pub mod Stage
pub mod Taken
