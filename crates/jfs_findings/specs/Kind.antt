-- The kinds of findings, with their numbers and the names that are printed.
use Rattle.std.specs.Prelude.{ℕ, List, codes}
use Rattle.jfs_findings.specs.declared.finding.FindingKind.{FindingKind}
use Rattle.jfs_findings.specs.declared.finding.FindingKind.TheVariants as kinds

abbrev pub number_of : FindingKind → ℕ
number_of kinds.Aggregate = 1
number_of kinds.Iag = 2
number_of kinds.Inode = 3
number_of kinds.Xtree = 4
number_of kinds.Dtree = 5
number_of kinds.Shared = 6
number_of kinds.Outside = 7
number_of kinds.Name = 8
number_of kinds.Links = 9
number_of kinds.Parent = 10
number_of kinds.Nblocks = 11
number_of kinds.Past = 12
number_of kinds.Thin = 13
number_of kinds.Map = 14
number_of kinds.Bmap = 15

abbrev pub name_of : FindingKind → List ℕ
name_of kinds.Aggregate = codes "aggregate"
name_of kinds.Iag = codes "iag"
name_of kinds.Inode = codes "inode"
name_of kinds.Xtree = codes "xtree"
name_of kinds.Dtree = codes "dtree"
name_of kinds.Shared = codes "shared"
name_of kinds.Outside = codes "outside"
name_of kinds.Name = codes "name"
name_of kinds.Links = codes "links"
name_of kinds.Parent = codes "parent"
name_of kinds.Nblocks = codes "nblocks"
name_of kinds.Past = codes "past"
name_of kinds.Thin = codes "thin"
name_of kinds.Map = codes "map"
name_of kinds.Bmap = codes "bmap"
