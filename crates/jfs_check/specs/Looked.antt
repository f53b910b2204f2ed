-- What is known of a volume once all its inodes in use were looked at.
use Rattle.std.specs.Prelude.{◌≡◌, ◌<◌, ◌⊎◌, ◌*◌, ℕ, List, [], is_some}
use Rattle.jfs_bits.specs.Bits.{is_taken}
use Rattle.jfs_link_check.specs.objects.specs.Owners.{owners}
use Rattle.jfs_findings.specs.mount_rules.specs.Subject.{Subject, volume, object}
use Rattle.jfs_findings.specs.mount_rules.specs.Mount.{iags}
use Rattle.jfs_link_check.specs.owners.specs.Counts.{Counts}
use Rattle.jfs_findings.specs.Gains.{Gains}
use Rattle.jfs_findings.specs.declared.finding.Finding.{Finding}
use Rattle.jfs_link_check.specs.object_check.specs.Laws.{IsOfSome, IsOfFile}
use Rattle.jfs_link_check.specs.object_check.specs.Thin.{IsThinOfSome}
use Rattle.jfs_link_check.specs.Found.{IsOfNames}
use Rattle.jfs_link_check.specs.owners.specs.Shared.{SaysShared}
use Rattle.jfs_map_check.specs.Found.{IsOfBlockMap}
use Rattle.jfs_map_check.specs.Inodes.{IsOfInodeMap}
use Rattle.jfs_check.specs.declared.look.Look.{Look}

-- a finding of one of the aggregate's files, or of an inode in use
abbrev pub IsOfTrees : Subject → Finding → Type 0
IsOfTrees s f = IsOfFile s f ⊎ (IsOfSome s f ⊎ IsThinOfSome s f)

-- a finding of the owners of blocks, or of the pages of the maps
abbrev pub IsOfMaps : Subject → Finding → Type 0
IsOfMaps s f = SaysShared s f ⊎ (IsOfBlockMap s f ⊎ IsOfInodeMap s f)

-- a finding of any part of a check
abbrev pub IsOfAny : Subject → Finding → Type 0
IsOfAny s f = (IsOfTrees s f ⊎ IsOfMaps s f) ⊎ IsOfNames s f

-- a bit for each inode, set where it is in use
abbrev pub AreInUse : Subject → List ℕ → Type 0
AreInUse s set = (n : ℕ) → n < 4096 * iags s → is_taken set n ≡ is_some (object s n)

-- Who owns each block and which inodes are in use is known, and these are the findings.
pub record Looked (s : Subject) (is : Finding → Type 0) (look : Look) : Type 0 where
  pub owners : Counts look.census.owners (owners s.readers (volume s))
  pub used : AreInUse s look.used.items
  pub findings : Gains is [] look.findings.items
