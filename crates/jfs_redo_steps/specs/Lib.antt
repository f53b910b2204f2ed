pub mod ByPage
pub mod Inodes
pub mod Pages
-- libraries below, passed on
pub use Rattle.jfs_each as each
pub use Rattle.jfs_steps.specs.objects
pub use Rattle.jfs_steps as steps
