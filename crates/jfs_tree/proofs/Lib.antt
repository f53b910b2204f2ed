pub mod Frame
pub mod Rising
pub mod Between
pub mod Keys
pub mod Steps
pub mod Leaves
pub mod Split
pub mod Growing
pub mod Found
pub mod Judge
pub mod Once
pub mod Replace
mod Rekey
pub mod Roots
pub mod Spelled
pub mod Footprint
pub mod Telling
pub mod Taking
pub mod Finding
pub mod Path
pub mod Adding
pub mod Tops
pub mod RootSteps
pub mod RootCalls
pub mod Moving
pub mod DraftTold
pub mod Within
mod Shrinking
mod Shrank
mod Losing
mod Removed
mod RootLosing
mod RootLost
pub mod Runs
pub mod Adds
pub mod Rooms
pub mod Walked
mod WalkSteps
mod WalkFirst
mod WalkRoot
mod RunsTold
mod DraftEdited
pub mod LinesOnly
pub mod Removes
pub mod Drafts
pub mod Changed
pub mod Filling
pub mod BytesKept
pub mod Putting
pub mod Framing
pub mod Clearing
mod Appending
mod FilledSteps
mod FilledRoots
pub mod Becoming
pub mod Lowered
mod LeastFirst
mod LeastKept
pub mod Refusing
pub mod Neighbours
pub mod Owning
pub mod Linkings
pub mod Ways
