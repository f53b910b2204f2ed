pub mod Places
pub mod Items
pub mod Redone
pub mod Superblock
