pub mod Noted
pub mod Extents
pub mod Homes
pub mod Small
pub mod InUse
pub mod Used
pub mod Joined
pub mod Behind
