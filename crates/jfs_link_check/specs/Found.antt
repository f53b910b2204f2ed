-- The kinds of findings that names, link counts and parents give.
use Rattle.std.specs.Prelude.{◌≡◌, Bool, true, false}
use Rattle.jfs_object_check.specs.mount_rules.specs.Subject.{Subject}
use Rattle.jfs_object_check.specs.findings.specs.Findings.{Says}
use Rattle.jfs_object_check.specs.findings.specs.declared.finding.Finding.{Finding}
use Rattle.jfs_object_check.specs.findings.specs.declared.finding.FindingKind.{FindingKind}
use Rattle.jfs_object_check.specs.findings.specs.declared.finding.FindingKind.TheVariants as kinds

abbrev pub is_of_names : FindingKind → Bool
is_of_names kinds.Aggregate = false
is_of_names kinds.Iag = false
is_of_names kinds.Inode = false
is_of_names kinds.Xtree = false
is_of_names kinds.Dtree = false
is_of_names kinds.Shared = false
is_of_names kinds.Outside = false
is_of_names kinds.Name = true
is_of_names kinds.Links = true
is_of_names kinds.Parent = true
is_of_names kinds.Nblocks = false
is_of_names kinds.Past = false
is_of_names kinds.Thin = false
is_of_names kinds.Map = false
is_of_names kinds.Bmap = false

-- a finding of one of these kinds
abbrev pub IsOfNames : Subject → Finding → Type 0
IsOfNames s f = (is_of_names f.kind ≡ true) × Says s f.kind f.page f.value
