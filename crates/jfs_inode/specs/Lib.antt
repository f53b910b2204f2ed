-- what the clauses say
pub mod Inode
pub mod Rules
