mod Files
mod ObjectsFound
mod Maps
pub mod NewClean
