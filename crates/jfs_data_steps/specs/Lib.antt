-- what the clauses say
pub mod After
pub mod File
pub mod Laws
-- libraries below, passed on
pub use Rattle.jfs_kinds as kinds
pub use Rattle.jfs_loss.specs.lead_steps
pub use Rattle.jfs_loss as loss
pub use Rattle.jfs_loss.specs.meaning
pub use Rattle.jfs_loss.specs.objects
pub use Rattle.jfs_loss.specs.page_tree
pub use Rattle.jfs_loss.specs.steps
pub use Rattle.jfs_loss.specs.way
pub use Rattle.jfs_loss.specs.xtree
