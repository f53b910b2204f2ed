-- A look at each object finds what is wrong with a volume's objects.
use Rattle.std.specs.Prelude.{◌≡◌, ◌⊎◌, ◌+◌, ◌/◌, ℕ, Bool, true, false}
use Rattle.std.specs.List.{Contains}
use Rattle.jfs_owners.specs.objects.specs.Objects.{Object}
use Rattle.jfs_owners.specs.objects.specs.Image.{file_walk}
use Rattle.jfs_owners.specs.mount_rules.specs.Subject.{Subject, blocks, IsObject}
use Rattle.jfs_owners.specs.findings.specs.Trees.{files}
use Rattle.jfs_owners.specs.findings.specs.Findings.{Says}
use Rattle.jfs_owners.specs.findings.specs.declared.finding.Finding.{Finding}
use Rattle.jfs_owners.specs.findings.specs.declared.finding.FindingKind.{FindingKind}
use Rattle.jfs_owners.specs.findings.specs.declared.finding.FindingKind.TheVariants as kinds
use Rattle.jfs_object_check.specs.Object.{IsOf}
use Rattle.jfs_object_check.specs.Steps.{IsBroken}

-- the kinds of findings that a look at one object gives
abbrev pub is_of_objects : FindingKind → Bool
is_of_objects kinds.Aggregate = false
is_of_objects kinds.Iag = false
is_of_objects kinds.Inode = true
is_of_objects kinds.Xtree = true
is_of_objects kinds.Dtree = true
is_of_objects kinds.Shared = false
is_of_objects kinds.Outside = true
is_of_objects kinds.Name = false
is_of_objects kinds.Links = false
is_of_objects kinds.Parent = false
is_of_objects kinds.Nblocks = true
is_of_objects kinds.Past = true
is_of_objects kinds.Thin = false
is_of_objects kinds.Map = false
is_of_objects kinds.Bmap = false

-- a finding of some object, or of one of the aggregate's files that a checker walks through
abbrev pub IsOfSome : Subject → Finding → Type 0
IsOfSome s f = (n : ℕ) × (at : ℕ) × (o : Object) × IsObject s n at o × IsOf s.readers (blocks s) s.page n at o f

abbrev pub IsOfFile : Subject → Finding → Type 0
IsOfFile s f = (k : ℕ) × Contains files k × IsBroken kinds.Xtree s.readers.extents_order (file_walk s.readers s.page k) (11 + k / 8) f

-- The findings of these kinds are exactly those of the objects and of these files.
pub record ObjectsLaw : Type 0 where
  pub objects : (s : Subject) (f : Finding) → IsOfSome s f → Says s f.kind f.page f.value
  pub files : (s : Subject) (f : Finding) → IsOfFile s f → Says s f.kind f.page f.value
  pub all : (s : Subject) (f : Finding) → is_of_objects f.kind ≡ true → Says s f.kind f.page f.value → IsOfSome s f ⊎ IsOfFile s f
