-- What is found of one object: inode `n`, which stands on page `at` and spells `o`, on a volume of so many blocks.
use Rattle.std.specs.Prelude.{◌≡◌, ◌≢◌, ℕ, true, List, Some, Err}
use Rattle.jfs_bits.specs.declared.descriptor.Pxd.{Pxd}
use Rattle.jfs_bits.specs.declared.rule.Rule.{Rule}
use Rattle.jfs_bits.specs.Broken.{first_broken}
use Rattle.jfs_inode.specs.declared.read.BadInode.{BadInode}
use Rattle.jfs_inode.specs.Rules.{rows}
use Rattle.jfs_tree.specs.Walk.{Marks, Scale}
use Rattle.jfs_owners.specs.objects.specs.Readers.{Readers}
use Rattle.jfs_owners.specs.objects.specs.Objects.{Object, listed}
use Rattle.jfs_owners.specs.mount_rules.specs.Subject.{page_named}
use Rattle.jfs_owners.specs.findings.specs.Inodes.{blocks_owned, is_past}
use Rattle.jfs_owners.specs.findings.specs.Blocks.{HasRun, IsFirstPast}
use Rattle.jfs_owners.specs.findings.specs.declared.finding.Finding.{Finding}
use Rattle.jfs_owners.specs.findings.specs.declared.finding.FindingKind.{FindingKind}
use Rattle.jfs_owners.specs.findings.specs.declared.finding.FindingKind.TheVariants as kinds

-- A tree, whose root's inode stands on a page, breaks a rule first on this page.
pub record BreaksOn {P E : Type 0} (order : Scale P E) (marks : Marks P E) (at page : ℕ) : Type 0 where
  pub tree_page : ℕ
  pub rule : Rule
  pub breaks : listed order marks ≡ Err (tree_page, rule)
  pub on : page ≡ page_named at tree_page

-- what a finding of each kind says of the object, by its page and its value
abbrev pub SaysOf : Readers → ℕ → (ℕ → List ℕ) → ℕ → ℕ → Object → FindingKind → ℕ → ℕ → Type 0
SaysOf r blocks pages n at o kinds.Aggregate page value = ⊥
SaysOf r blocks pages n at o kinds.Iag page value = ⊥
SaysOf r blocks pages n at o kinds.Inode page value = (page ≡ at) × (value ≡ n) × ((bad : BadInode) × (first_broken (rows o.inode n) ≡ Some bad))
SaysOf r blocks pages n at o kinds.Xtree page value = BreaksOn r.extents_order o.extents at page × (value ≡ 0)
SaysOf r blocks pages n at o kinds.Dtree page value = BreaksOn r.names_order o.names at page × (value ≡ 0)
SaysOf r blocks pages n at o kinds.Shared page value = ⊥
SaysOf r blocks pages n at o kinds.Outside page value = (page ≡ at) × (run : Pxd) × HasRun r o run × IsFirstPast blocks run value
SaysOf r blocks pages n at o kinds.Name page value = ⊥
SaysOf r blocks pages n at o kinds.Links page value = ⊥
SaysOf r blocks pages n at o kinds.Parent page value = ⊥
SaysOf r blocks pages n at o kinds.Nblocks page value = (page ≡ at) × (value ≡ n) × (o.inode.nblocks ≢ blocks_owned r o)
SaysOf r blocks pages n at o kinds.Past page value = (page ≡ at) × (value ≡ n) × (is_past r o ≡ true)
SaysOf r blocks pages n at o kinds.Thin page value = ⊥
SaysOf r blocks pages n at o kinds.Map page value = ⊥
SaysOf r blocks pages n at o kinds.Bmap page value = ⊥

abbrev pub IsOf : Readers → ℕ → (ℕ → List ℕ) → ℕ → ℕ → Object → Finding → Type 0
IsOf r blocks pages n at o f = SaysOf r blocks pages n at o f.kind f.page f.value
