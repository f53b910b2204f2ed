-- Edits that change one object each. A file call is a chain of them.
use Rattle.std.specs.Prelude.{◌≡◌, ◌≢◌, ◌<◌, ℕ, ◌+◌, ◌%◌, true, false, ◌==◌, if◌then◌else◌, List, length, get_or, set, Option, Some, None}
use Rattle.jfs_inode.specs.declared.fields.Dinode.{Dinode}
use Rattle.jfs_tree.specs.Edit.{count_in}
use Rattle.jfs_objects.specs.Readers.{Readers}
use Rattle.jfs_objects.specs.Volume.{Volume, home, slot_of}
use Rattle.jfs_objects.specs.Objects.{IsWhole, objects, spelled, is_live}
use Rattle.jfs_objects.specs.Owners.{holds, is_data, owners, bit, extent_has}

-- a map with one place changed
abbrev pub put : {X : Type 0} → ℕ → X → (ℕ → X) → ℕ → X
put m x f n = if n == m then x else f n

-- an inode is put into its slot, and all else stays
pub record PutsInode (old new : ℕ → List ℕ) (extents : List (Option ℕ)) (n : ℕ) (d : Dinode) : Type 0 where
  pub page : ℕ
  pub at : home extents n ≡ Some page
  pub slots : (k : ℕ) → k < 8 → slot_of (new page) k ≡ (if k == n % 8 then d else slot_of (old page) k)
  pub others : (b : ℕ) → b ≢ page → new b ≡ old b

-- blocks are taken that were free, and blocks are freed
pub record Takes (v w : Volume) (taken freed : List ℕ) : Type 0 where
  pub fresh : (b : ℕ) → 0 < count_in b taken → v.used b ≡ false
  pub used : (b : ℕ) → bit (w.used b) + count_in b freed ≡ bit (v.used b) + count_in b taken

-- Data of a file is written in place, or blocks without an owner are.
pub record WritesData (r : Readers) (v w : Volume) (n : ℕ) : Type 0 where
  pub keeps : (b : ℕ) → 0 < owners r v b → is_data r (objects r v n) b ≡ 0 → w.page b ≡ v.page b
  pub extents : w.extents ≡ v.extents
  pub area : w.area ≡ v.area
  pub used : w.used ≡ v.used
  pub in_use : w.in_use ≡ v.in_use

-- An object is set: pages that it has or that are taken are written, and then its inode. Also a new one.
pub record SetsObject (r : Readers) (v w : Volume) (n : ℕ) (after : Dinode) (mid : ℕ → List ℕ) (taken freed : List ℕ) : Type 0 where
  pub live : is_live n after ≡ true
  pub whole : IsWhole r (spelled r mid after)
  pub blocks : (b : ℕ) → holds r (Some (spelled r mid after)) b + count_in b freed ≡ holds r (objects r v n) b + count_in b taken
  pub keeps : (b : ℕ) → holds r (objects r v n) b ≡ 0 → count_in b taken ≡ 0 → mid b ≡ v.page b
  pub puts : PutsInode mid w.page v.extents n after
  pub takes : Takes v w taken freed
  pub extents : w.extents ≡ v.extents
  pub area : w.area ≡ v.area
  pub in_use : (k : ℕ) → w.in_use k ≡ put n true v.in_use k

-- An object goes, and its blocks are free.
pub record DropsObject (r : Readers) (v w : Volume) (n : ℕ) (left : Dinode) (freed : List ℕ) : Type 0 where
  pub dead : is_live n left ≡ false
  pub all : (b : ℕ) → count_in b freed ≡ holds r (objects r v n) b
  pub puts : PutsInode v.page w.page v.extents n left
  pub used : (b : ℕ) → bit (w.used b) + count_in b freed ≡ bit (v.used b)
  pub extents : w.extents ≡ v.extents
  pub area : w.area ≡ v.area
  pub in_use : (k : ℕ) → w.in_use k ≡ put n false v.in_use k

-- An inode extent is added, none of whose inodes is in use. The first one, which has inodes 0 to 3, isn't.
pub record AddsExtent (v w : Volume) (place first : ℕ) : Type 0 where
  pub later : 0 < place
  pub within : place < length v.extents
  pub none : get_or v.extents place None ≡ None
  pub fresh : (b : ℕ) → 0 < extent_has (Some first) b → v.used b ≡ false
  pub used : (b : ℕ) → bit (w.used b) ≡ bit (v.used b) + extent_has (Some first) b
  pub keeps : (b : ℕ) → extent_has (Some first) b ≡ 0 → w.page b ≡ v.page b
  pub empty : (d k : ℕ) → d < 4 → k < 8 → (slot_of (w.page (first + d)) k).nlink ≡ 0
  pub extents : w.extents ≡ set v.extents place (Some first)
  pub area : w.area ≡ v.area
  pub in_use : w.in_use ≡ v.in_use
