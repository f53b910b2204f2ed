pub mod Range
pub mod Within
pub mod Passed
pub mod Rows
pub mod Order
pub mod Inodes
