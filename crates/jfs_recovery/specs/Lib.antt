pub mod Face
pub mod Core
pub mod Sound
pub mod Lines
pub mod Mount
pub mod Forward
pub mod Small
pub mod Laws
-- libraries below, passed on
pub use Rattle.jfs_core as crash_core
pub use Rattle.jfs_kinds as kinds
pub use Rattle.jfs_kinds.specs.objects
pub use Rattle.jfs_records as records
