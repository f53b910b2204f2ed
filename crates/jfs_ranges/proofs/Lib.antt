pub mod Overlaid
pub mod Device
pub mod OnTop
