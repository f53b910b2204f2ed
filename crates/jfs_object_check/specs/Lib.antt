-- what the clauses say
pub mod Object
pub mod Steps
pub mod Laws
pub mod Thin
pub mod Lines
-- what is counted, for the prover alone
pub mod Tally
-- libraries below, passed on
pub use Rattle.jfs_owners.specs.findings
pub use Rattle.jfs_owners.specs.meaning
pub use Rattle.jfs_owners.specs.mount_rules
pub use Rattle.jfs_owners.specs.objects
pub use Rattle.jfs_owners as owners
pub use Rattle.jfs_owners.specs.plain
pub use Rattle.jfs_xtree as xtree
