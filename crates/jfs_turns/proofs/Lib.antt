pub mod Steps
pub mod Logs
pub mod Marks
pub mod Seats
pub mod Born
pub mod Closing
pub mod Purpose
