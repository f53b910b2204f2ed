-- where blocks of a file are led, and the first broken rule on their ways
pub mod Leading
pub mod Along
