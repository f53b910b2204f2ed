-- The items of a volume's maps after a crash: each block's bit, and the place of each inode extent.
use Rattle.std.specs.Prelude.{◌≡◌, ◌⊎◌, ◌≤◌, ◌<◌, ℕ, Bool, List}
use Rattle.jfs_bits.specs.declared.descriptor.Pxd.{Pxd}
use Rattle.jfs_iag.specs.Iag.{no_run}
use Rattle.jfs_ranges.specs.declared.edit.Edit.{Edit}
use Rattle.jfs_steps.specs.After.{four_from}
use Rattle.jfs_recovery.specs.objects.specs.Readers.{Readers}
use Rattle.jfs_recovery.specs.Face.{Pages, Item}
use Rattle.jfs_recovery.specs.Core.{Core, count, image}
use Rattle.jfs_recovery.specs.Sound.{IsSound, IsLeft, IsLogImage, window}
use Rattle.jfs_face.specs.Places.{Places, AreInAreas}
use Rattle.jfs_face.specs.Items.{extent_by, places}
use Rattle.jfs_face.specs.Redo.{items_redone}
use Rattle.jfs_face.specs.Volume.{items_on, face_of}

-- An item as a crash left it is what it was after some entry, and redo of a window of the log makes of it what it is after the last one.
pub record IsOfHistory (pl : Places) (core : Core) (low : Pages) (c n : ℕ) (i : Item) : Type 0 where
  pub entry : ℕ
  pub there : entry ≤ count core
  pub left : items_on pl low i ≡ items_on pl (image core entry) i
  pub redone : items_redone pl low (window core c n) i ≡ items_on pl (image core n) i

abbrev pub ItemsLaw : Type 0
ItemsLaw = (r : Readers) (pl : Places) (changes : Pages → List Edit → ℕ → Bool) (core : Core) (low : Pages) (c n : ℕ) → AreInAreas pl → IsSound (face_of r pl changes) core → IsLeft core low → IsLogImage core c n
    → (i : Item) → IsOfHistory pl core low c n i

-- a descriptor of zeros, or of four blocks
abbrev pub IsExtent : Pxd → Type 0
IsExtent p = (p ≡ no_run) ⊎ (p ≡ four_from p.addr)

-- the maps keep no other inode extents
abbrev pub HasFours : Places → Pages → Type 0
HasFours pl s = (e : ℕ) → e < places pl → IsExtent (extent_by (items_on pl s) e)

-- An entry puts four blocks alone: so it is after each one, if it was when the volume was mounted.
abbrev pub FoursLaw : Type 0
FoursLaw = (r : Readers) (pl : Places) (changes : Pages → List Edit → ℕ → Bool) (core : Core) → AreInAreas pl → IsSound (face_of r pl changes) core → HasFours pl core.mounted → (k : ℕ) → k ≤ count core → HasFours pl (image core k)
