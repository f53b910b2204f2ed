-- what the clauses say
pub mod Frees
pub mod Inodes
pub mod Causes
pub mod Loses
-- libraries below, passed on
pub use Rattle.jfs_steps.specs.bmap
pub use Rattle.jfs_steps.specs.imap
pub use Rattle.jfs_lead_steps as lead_steps
pub use Rattle.jfs_lead_steps.specs.meaning
pub use Rattle.jfs_lead_steps.specs.objects
pub use Rattle.jfs_lead_steps.specs.page_tree
pub use Rattle.jfs_plain as plain
pub use Rattle.jfs_steps as steps
pub use Rattle.jfs_steps.specs.way
pub use Rattle.jfs_lead_steps.specs.xtree
