-- The findings of a volume: what is wrong with it. No order of walking is meant: they are a set, and the list of them is that set in order.
use Rattle.std.specs.Prelude.{◌≡◌, ℕ, Bool, true, ◌&&◌, ◌||◌, ◌==◌, nat_lt, List, [], ◌∷◌, Option, Some, None}
use Rattle.std.specs.List.{Contains}
use Rattle.jfs_findings.specs.Kind.{number_of}
use Rattle.jfs_mount.specs.Subject.{Subject}
use Rattle.jfs_mount.specs.Mount.{BadMount, broken_mount}
use Rattle.jfs_findings.specs.Inodes.{BreaksInode, MiscountsBlocks, GoesPast}
use Rattle.jfs_findings.specs.Names.{LeadsNowhere, MiscountsLinks, LosesParent}
use Rattle.jfs_findings.specs.Trees.{BreaksExtents, BreaksNames, IsThin}
use Rattle.jfs_findings.specs.Blocks.{IsShared, OwnsOutside, IsMisMapped}
use Rattle.jfs_findings.specs.Maps.{IsBadInodeMap, IsBadBlockMap}
use Rattle.jfs_findings.specs.declared.finding.Finding.{Finding}
use Rattle.jfs_findings.specs.declared.finding.FindingKind.{FindingKind}
use Rattle.jfs_findings.specs.declared.finding.FindingKind.TheVariants as kinds

-- What a finding of each kind says, by its page and its value. A block that is shared is its own page. For a name the value is the inode that it leads to.
abbrev pub Says : Subject → FindingKind → ℕ → ℕ → Type 0
Says s kinds.Aggregate page value = ⊥
Says s kinds.Iag page value = IsBadInodeMap s page × (value ≡ 0)
Says s kinds.Inode page value = BreaksInode s page value
Says s kinds.Xtree page value = BreaksExtents s page × (value ≡ 0)
Says s kinds.Dtree page value = BreaksNames s page × (value ≡ 0)
Says s kinds.Shared page value = IsShared s value × (page ≡ value)
Says s kinds.Outside page value = OwnsOutside s page value
Says s kinds.Name page value = LeadsNowhere s page value
Says s kinds.Links page value = MiscountsLinks s page value
Says s kinds.Parent page value = LosesParent s page value
Says s kinds.Nblocks page value = MiscountsBlocks s page value
Says s kinds.Past page value = GoesPast s page value
Says s kinds.Thin page value = IsThin s page value
Says s kinds.Map page value = IsMisMapped s page value
Says s kinds.Bmap page value = IsBadBlockMap s page × (value ≡ 0)

-- A rule that a mount looks at is the only finding of a volume that breaks it: the volume isn't read further.
abbrev pub SaysUnless : Option BadMount → Subject → Finding → Type 0
SaysUnless (Some bad) s f = f ≡ record { kind = kinds.Aggregate; page = bad.page; value = bad.value }
SaysUnless None s f = Says s f.kind f.page f.value

abbrev pub IsFinding : Subject → Finding → Type 0
IsFinding s f = SaysUnless (broken_mount s) s f

-- ---- the list

-- by kind, then by page, then by value
abbrev pub is_before : Finding → Finding → Bool
is_before f g = nat_lt (number_of f.kind) (number_of g.kind) || (number_of f.kind == number_of g.kind && (nat_lt f.page g.page || (f.page == g.page && nat_lt f.value g.value)))

-- each comes before the next one, and so stands once
abbrev pub Rise : List Finding → Type 0
Rise [] = Unit {0}
Rise (f ∷ []) = Unit {0}
Rise (f ∷ g ∷ fs) = (is_before f g ≡ true) × Rise (g ∷ fs)

-- the list of all findings, in order
pub record AreFindings (s : Subject) (list : List Finding) : Type 0 where
  pub each : (f : Finding) → Contains list f → IsFinding s f
  pub all : (f : Finding) → IsFinding s f → Contains list f
  pub order : Rise list
