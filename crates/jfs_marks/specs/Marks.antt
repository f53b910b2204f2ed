-- What an entry changes of the inode map.
use Rattle.std.specs.Prelude.{◌≡◌, ◌<◌, ℕ, true, false, length, Option, Some, None}
use Rattle.jfs_bits.specs.declared.descriptor.Pxd.{Pxd}
use Rattle.jfs_bits.specs.Descriptor.{FitsPxd}
use Rattle.jfs_iag.specs.Canonical.{is_there}
use Rattle.jfs_imap.specs.Inodes.{Inodes, extent_at, is_free, with_taken, with_put_back, with_extent, IsLowestPlace}
use Rattle.jfs_marks.specs.declared.marks.InodeMarks.{InodeMarks}

-- an extent may be added: a place is without one
abbrev pub FitsExtent : Inodes → Option Pxd → Type 0
FitsExtent m None = Unit {0}
FitsExtent m (Some at) = ((e : ℕ) × (e < length m.extents) × (is_there (extent_at m e) ≡ false)) × FitsPxd at × (is_there at ≡ true)

-- it is in the lowest place without one
abbrev pub IsExtended : Inodes → Option Pxd → Inodes → Type 0
IsExtended m None n = n ≡ m
IsExtended m (Some at) n = (e : ℕ) × IsLowestPlace m e × (n ≡ with_extent e at m)

-- an inode that is taken is free before
abbrev pub FitsTaken : Inodes → Option ℕ → Type 0
FitsTaken m None = Unit {0}
FitsTaken m (Some n) = is_free m n ≡ true

abbrev pub with_taken_if : Option ℕ → Inodes → Inodes
with_taken_if None m = m
with_taken_if (Some n) m = with_taken n m

abbrev pub with_freed_if : Option ℕ → Inodes → Inodes
with_freed_if None m = m
with_freed_if (Some n) m = with_put_back n m

-- the marks may be made
pub record FitsMarks (m : Inodes) (marks : InodeMarks) : Type 0 where
  pub extent : FitsExtent m marks.extent
  pub taken : (mid : Inodes) → IsExtended m marks.extent mid → FitsTaken mid marks.taken

-- they are made
pub record AreMarked (m : Inodes) (marks : InodeMarks) (n : Inodes) : Type 0 where
  pub mid : Inodes
  pub extended : IsExtended m marks.extent mid
  pub is : n ≡ with_freed_if marks.freed (with_taken_if marks.taken mid)
