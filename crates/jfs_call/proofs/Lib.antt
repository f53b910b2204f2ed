pub mod Answered
pub mod Asked
pub mod Doing
pub mod Joining
pub mod Lending
