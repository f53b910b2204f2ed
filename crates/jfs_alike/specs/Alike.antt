-- Volumes that mean the same.
use Rattle.std.specs.Prelude.{◌≡◌, ℕ, true}
use Rattle.jfs_meaning.specs.plain.specs.Moves.{Same}
use Rattle.jfs_meaning.specs.objects.specs.Readers.{Readers}
use Rattle.jfs_meaning.specs.objects.specs.Volume.{Volume}
use Rattle.jfs_meaning.specs.Tree.{tree_on}
use Rattle.jfs_meaning.specs.Room.{free_blocks, fresh_inode}
use Rattle.jfs_meaning.specs.Consistent.{IsConsistent}

-- They have the same inode extents, areas, blocks and inodes in use, and the same pages but for those of the fixed areas and those that aren't in use.
pub record AreAlike (v w : Volume) : Type 0 where
  pub extents : w.extents ≡ v.extents
  pub area : (b : ℕ) → w.area b ≡ v.area b
  pub used : (b : ℕ) → w.used b ≡ v.used b
  pub in_use : (n : ℕ) → w.in_use n ≡ v.in_use n
  pub pages : (b : ℕ) → v.used b ≡ true → v.area b ≡ 0 → w.page b ≡ v.page b

-- What stands on a page that isn't in use, or in a fixed area, says nothing of objects: so both are consistent, and have one tree, the same free blocks and the same inode for a new object.
pub record MeanTheSame (r : Readers) (v w : Volume) : Type 0 where
  pub consistent : IsConsistent r w
  pub tree : Same (tree_on r v) (tree_on r w)
  pub free : (blocks : ℕ) → free_blocks r w blocks ≡ free_blocks r v blocks
  pub inode : (blocks : ℕ) → fresh_inode r w blocks ≡ fresh_inode r v blocks

abbrev pub AlikeLaw : Type 0
AlikeLaw = (r : Readers) (v w : Volume) → IsConsistent r v → AreAlike v w → MeanTheSame r v w
