-- what the clauses say
pub mod Field
pub mod Descriptor
pub mod Extent
pub mod Piece
pub mod Bits
pub mod Line
pub mod Rule
pub mod Count
pub mod Broken
