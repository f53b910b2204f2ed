-- what the laws say
pub mod Holds
pub mod Follows
pub mod Step
pub mod Legal
pub mod Torn
pub mod Laws
-- libraries below, passed on
pub use Rattle.jfs_call as call
pub use Rattle.jfs_call.specs.crash_core
pub use Rattle.jfs_call.specs.files
pub use Rattle.jfs_call.specs.halves
pub use Rattle.jfs_call.specs.plain
pub use Rattle.jfs_call.specs.volume
pub use Rattle.jfs_call.specs.volume_calls
pub use Rattle.jfs_shown as shown
pub use Rattle.jfs_unmount as unmount
pub use Rattle.jfs_unmount.specs.mounted
