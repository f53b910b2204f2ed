-- What the pages of a volume mean, by its superblock.
use Rattle.std.specs.Prelude.{ℕ, List}
use Rattle.jfs_super.specs.declared.fields.Super.{Super}
use Rattle.jfs_super.specs.Rules.{blocks_of}
use Rattle.jfs_plain.specs.Tree.{Tree}
use Rattle.jfs_plain.specs.Step.{Room}
use Rattle.jfs_objects.specs.Volume.{Volume}
use Rattle.jfs_objects.specs.Image.{volume_on}
use Rattle.jfs_meaning.specs.Readers.{readers}
use Rattle.jfs_meaning.specs.Tree.{tree_on}
use Rattle.jfs_meaning.specs.Consistent.{IsConsistent}
use Rattle.jfs_meaning.specs.Room.{room_on}

-- the volume whose superblock says how many blocks it has, and where the second inode table and map are
abbrev pub volume_of : Super → (ℕ → List ℕ) → Volume
volume_of s page = volume_on (readers (blocks_of s)) (blocks_of s) s.ait2 s.aim2 page

abbrev pub tree_of : Super → (ℕ → List ℕ) → Tree
tree_of s page = tree_on (readers (blocks_of s)) (volume_of s page)

abbrev pub room_of : Super → (ℕ → List ℕ) → Room
room_of s page = room_on (readers (blocks_of s)) (volume_of s page) (blocks_of s) s.logpxd.len

abbrev pub IsConsistentImage : Super → (ℕ → List ℕ) → Type 0
IsConsistentImage s page = IsConsistent (readers (blocks_of s)) (volume_of s page)
