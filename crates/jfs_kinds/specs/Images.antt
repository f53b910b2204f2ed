-- Images of which the logged pages are those of a sound one.
use Rattle.std.specs.Prelude.{◌≡◌, ℕ, List, Ok}
use Rattle.jfs_bits.specs.declared.descriptor.Pxd.{Pxd}
use Rattle.jfs_bits.specs.declared.extent.Xad.{Xad}
use Rattle.jfs_objects.specs.Readers.{Readers}
use Rattle.jfs_objects.specs.Volume.{Volume}
use Rattle.jfs_objects.specs.Objects.{listed}
use Rattle.jfs_objects.specs.Owners.{IsSound}
use Rattle.jfs_objects.specs.Image.{file_walk, volume_on}
use Rattle.jfs_kinds.specs.Laws.{KeepsLogged, HasObjects, HasSameOwners}

-- no rule is broken by the tree of inode `k` of the aggregate
abbrev pub IsWholeFile : Readers → (ℕ → List ℕ) → ℕ → Type 0
IsWholeFile r page k = (es : List Xad) × (listed r.extents_order (file_walk r page k) ≡ Ok es)

-- nor by those of the block map's file, the bad blocks' and the inode map's
pub record HasWholeFiles (r : Readers) (page : ℕ → List ℕ) : Type 0 where
  pub block_map : IsWholeFile r page 2
  pub bad_blocks : IsWholeFile r page 4
  pub inode_map : IsWholeFile r page 16

-- sets, places, objects and owners are those of another volume, which is sound as that one is
pub record IsSameVolume (r : Readers) (v w : Volume) : Type 0 where
  pub extents : w.extents ≡ v.extents
  pub area : (b : ℕ) → w.area b ≡ v.area b
  pub used : (b : ℕ) → w.used b ≡ v.used b
  pub in_use : (n : ℕ) → w.in_use n ≡ v.in_use n
  pub objects : HasObjects r v w
  pub owners : HasSameOwners r v w
  pub sound : IsSound r w

-- An image is judged by its logged pages alone: where the maps and the places are read from is logged too.
abbrev pub ImageLaw : Type 0
ImageLaw = (r : Readers) (blocks : ℕ) (table map : Pxd) (old new : ℕ → List ℕ) → IsSound r (volume_on r blocks table map old) → HasWholeFiles r old
    → KeepsLogged r (volume_on r blocks table map old) (volume_on r blocks table map new) → IsSameVolume r (volume_on r blocks table map old) (volume_on r blocks table map new)
