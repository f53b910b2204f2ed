pub mod Listed
pub mod Named
pub mod Parts
pub mod Homes
pub mod Loan
