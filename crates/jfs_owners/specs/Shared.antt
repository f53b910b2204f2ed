-- Findings of blocks with two owners.
use Rattle.std.specs.Prelude.{◌≡◌, ◌<◌, ◌≤◌, ℕ, true, List}
use Rattle.jfs_bits.specs.Bits.{is_taken}
use Rattle.jfs_findings.specs.mount_rules.specs.Subject.{Subject}
use Rattle.jfs_findings.specs.Blocks.{IsShared}
use Rattle.jfs_findings.specs.declared.finding.Finding.{Finding}
use Rattle.jfs_findings.specs.declared.finding.FindingKind.TheVariants as kinds

-- a finding that says that a block of the file system part has two owners; its page is the block
pub record SaysShared (s : Subject) (f : Finding) : Type 0 where
  pub kind : f.kind ≡ kinds.Shared
  pub is : IsShared s f.value
  pub page : f.page ≡ f.value

-- the same of the blocks from `from` to before `to` whose bits are set
pub record IsMarked (set : List ℕ) (from to : ℕ) (f : Finding) : Type 0 where
  pub kind : f.kind ≡ kinds.Shared
  pub first : from ≤ f.value
  pub last : f.value < to
  pub bit : is_taken set f.value ≡ true
  pub page : f.page ≡ f.value
