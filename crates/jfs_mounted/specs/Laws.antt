-- The superblock's page alone is another one: the volume keeps its tree.
use Rattle.std.specs.Prelude.{◌≡◌, ◌<◌, ℕ, List}
use Rattle.jfs_super.specs.Rules.{blocks_of}
use Rattle.jfs_super.specs.declared.fields.Super.{Super}
use Rattle.jfs_mount_maps.specs.imap.specs.Inodes.{Inodes}
use Rattle.jfs_mount_maps.specs.bmap.specs.States.{Blocks}
use Rattle.jfs_volume.specs.plain.specs.Moves.{Same}
use Rattle.jfs_findings.specs.meaning.specs.Readers.{readers}
use Rattle.jfs_findings.specs.meaning.specs.Consistent.{IsConsistent}
use Rattle.jfs_findings.specs.meaning.specs.Image.{tree_of, IsConsistentImage}
use Rattle.jfs_findings.specs.meaning.specs.Image as meaning
use Rattle.jfs_findings.specs.mount_rules.specs.Subject.{subject_of}
use Rattle.jfs_mount_maps.specs.way.specs.Volume.{volume_of}
use Rattle.jfs_mount_maps.specs.way.specs.Walk.{tree_in}
use Rattle.jfs_mount_maps.specs.Maps.{blocks_on, inodes_on}

-- These pages and maps are a consistent volume with the image's areas, and have its tree.
pub record KeepsVolume (s : Super) (old new : ℕ → List ℕ) (map : Blocks) (inodes : Inodes) : Type 0 where
  pub consistent : IsConsistent (readers (blocks_of s)) (volume_of new (meaning.volume_of s old).area map inodes)
  pub tree : Same (tree_of s old) (tree_in (blocks_of s) new (meaning.volume_of s old).area map inodes)

-- the pages of the file system part are those of the image, but for page 8
abbrev pub SameButSuper : Super → (ℕ → List ℕ) → (ℕ → List ℕ) → Type 0
SameButSuper s old new = (b : ℕ) → (b ≡ 8 → ⊥) → b < blocks_of s → new b ≡ old b

-- A consistent image whose maps lie in memory: whatever page 8 has, the pages and these maps have its tree. No object of a consistent volume is read from that page.
abbrev pub MarkedLaw : Type 0
MarkedLaw = (s : Super) (old new : ℕ → List ℕ) → IsConsistentImage s old → SameButSuper s old new → KeepsVolume s old new (blocks_on (subject_of s old)) (inodes_on (subject_of s old))
