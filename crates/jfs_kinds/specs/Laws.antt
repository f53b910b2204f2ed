-- Owners of blocks, where maps agree, and what edits leave of them.
use Rattle.std.specs.Prelude.{◌≡◌, ◌⊎◌, ◌<◌, ℕ, true, false, List, is_some, Option, Some, None}
use Rattle.jfs_inode.specs.declared.fields.Dinode.{Dinode}
use Rattle.jfs_objects.specs.Readers.{Readers}
use Rattle.jfs_objects.specs.Volume.{Volume, home}
use Rattle.jfs_objects.specs.Objects.{Object, objects, spelled, footprint, listed}
use Rattle.jfs_objects.specs.Owners.{Agrees, IsSound, entries, attributes_held, extent_has}
use Rattle.jfs_objects.specs.Contents.{block_of}
use Rattle.jfs_objects.specs.Changes.{WritesData, SetsObject, DropsObject, AddsExtent}
use Rattle.jfs_kinds.specs.Owner.{Owner, is_regular_file, has, has_page, has_data, owner_of, is_logged}
use Rattle.jfs_kinds.specs.Owner.Owner.{Inodes, Tree, Data, Still}

-- Each block has one owner at most, of one kind, and once; it is in use exactly where it has one.
pub record HasOwners (r : Readers) (v : Volume) : Type 0 where
  pub has_it : (b : ℕ) (x : Owner) → owner_of r v b ≡ Some x → has r v x b ≡ 1
  pub alone : (b : ℕ) (x : Owner) → 0 < has r v x b → owner_of r v b ≡ Some x
  pub used : (b : ℕ) → v.used b ≡ is_some (owner_of r v b)

abbrev pub OwnersLaw : Type 0
OwnersLaw = (r : Readers) (v : Volume) → Agrees r v → HasOwners r v

-- ---- what objects have beside their pages

-- the block that holds block `k` of an object
abbrev pub block_at : Readers → Object → ℕ → Option ℕ
block_at r o k = block_of (entries (listed r.extents_order o.extents)) k

-- What a regular file holds stands in its data. Long targets and attributes stand in blocks that nothing writes in place.
pub record HoldsContents (r : Readers) (v : Volume) (n : ℕ) (o : Object) : Type 0 where
  pub file : is_regular_file o ≡ true → (k b : ℕ) → block_at r o k ≡ Some b → owner_of r v b ≡ Some (Data n)
  pub target : is_regular_file o ≡ false → (k b : ℕ) → block_at r o k ≡ Some b → owner_of r v b ≡ Some (Still n)
  pub attributes : (b : ℕ) → 0 < attributes_held o b → owner_of r v b ≡ Some (Still n)

abbrev pub ContentsLaw : Type 0
ContentsLaw = (r : Readers) (v : Volume) → Agrees r v → (n : ℕ) (o : Object) → objects r v n ≡ Some o → HoldsContents r v n o

-- ---- what the log keeps safe

-- The page of each inode and all pages that trees were read from are logged.
pub record IsReadFromLogged (r : Readers) (v : Volume) : Type 0 where
  pub inodes : (n page : ℕ) → home v.extents n ≡ Some page → owner_of r v page ≡ Some Inodes
  pub trees : (n b : ℕ) (o : Object) → objects r v n ≡ Some o → 0 < footprint o b → owner_of r v b ≡ Some (Tree n)

-- extents and areas are those of another volume
pub record HasPlaces (v w : Volume) : Type 0 where
  pub extents : w.extents ≡ v.extents
  pub area : (b : ℕ) → w.area b ≡ v.area b

-- logged pages are
abbrev pub KeepsLogged : Readers → Volume → Volume → Type 0
KeepsLogged r v w = (b : ℕ) → is_logged (owner_of r v b) ≡ true → w.page b ≡ v.page b

abbrev pub HasObjects : Readers → Volume → Volume → Type 0
HasObjects r v w = (n : ℕ) → objects r w n ≡ objects r v n

abbrev pub HasSameOwners : Readers → Volume → Volume → Type 0
HasSameOwners r v w = (b : ℕ) → owner_of r w b ≡ owner_of r v b

-- So logged pages alone give the objects and all owners, whatever the others have.
pub record LoggedLaw : Type 0 where
  pub reads : (r : Readers) (v : Volume) → IsSound r v → IsReadFromLogged r v
  pub objects_stay : (r : Readers) (v w : Volume) → IsSound r v → HasPlaces v w → KeepsLogged r v w → HasObjects r v w
  pub owners_stay : (r : Readers) (v w : Volume) → IsSound r v → HasPlaces v w → KeepsLogged r v w → HasSameOwners r v w

-- Places and objects alone say who owns a block, whether maps agree or not.
abbrev pub SameOwnersLaw : Type 0
SameOwnersLaw = (r : Readers) (v w : Volume) → HasPlaces v w → HasObjects r v w → HasSameOwners r v w

-- ---- edits

-- each owner has a block as often as before
abbrev pub KeepsOwner : Readers → Volume → Volume → ℕ → Type 0
KeepsOwner r v w b = (x : Owner) → has r w x b ≡ has r v x b

-- a block that stays in use keeps its owner
abbrev pub OwnersStay : Readers → Volume → Volume → Type 0
OwnersStay r v w = (b : ℕ) → v.used b ≡ true → w.used b ≡ true → owner_of r w b ≡ owner_of r v b

-- So no owner takes another's block: an owner stays, or goes, or comes to a block that had none.
abbrev pub MayOwn : Readers → Volume → Volume → Type 0
MayOwn r v w = (b : ℕ) → (owner_of r w b ≡ owner_of r v b) ⊎ (owner_of r w b ≡ None) ⊎ (owner_of r v b ≡ None)

-- the later of two edits takes no block that the first one freed
abbrev pub TakesNoneFreed : Volume → Volume → Volume → Type 0
TakesNoneFreed v w u = (b : ℕ) → v.used b ≡ true → u.used b ≡ true → w.used b ≡ true

-- Where maps agree before and after, a block has the same owner exactly where each owner has it as often as before.
pub record KeptLaw : Type 0 where
  pub kept : (r : Readers) (v w : Volume) → Agrees r v → Agrees r w → (b : ℕ) → KeepsOwner r v w b → owner_of r w b ≡ owner_of r v b
  pub keeps : (r : Readers) (v w : Volume) → Agrees r v → Agrees r w → (b : ℕ) → owner_of r w b ≡ owner_of r v b → KeepsOwner r v w b
  pub chained : (r : Readers) (v w u : Volume) → OwnersStay r v w → OwnersStay r w u → TakesNoneFreed v w u → OwnersStay r v u
  pub may_own : (r : Readers) (v w : Volume) → Agrees r v → Agrees r w → OwnersStay r v w → MayOwn r v w

-- the owner is an object's, of whatever kind
abbrev pub IsOwnerIn : ℕ → Option Owner → Type 0
IsOwnerIn n x = (x ≡ Some (Tree n)) ⊎ (x ≡ Some (Data n)) ⊎ (x ≡ Some (Still n))

-- An object that is set keeps the kinds of its blocks, as far as they stay in use: no tree page becomes data, and no data a tree page, an attribute or a target.
pub record KeepsKinds (r : Readers) (v w : Volume) (old new : Option Object) : Type 0 where
  pub pages : (b : ℕ) → v.used b ≡ true → w.used b ≡ true → has_page r new b ≡ has_page r old b
  pub file_data : (b : ℕ) → v.used b ≡ true → w.used b ≡ true → has_data r new b ≡ has_data r old b

-- Each edit of one object leaves the owners of blocks that stay in use. Writing data leaves all of them, and all logged pages; what comes into use is the object's that is set, or the inode extent's that is added.
pub record EditLaw : Type 0 where
  pub writes : (r : Readers) (v w : Volume) (n : ℕ) → IsSound r v → WritesData r v w n → KeepsLogged r v w × HasSameOwners r v w
  pub sets : (r : Readers) (v w : Volume) (n : ℕ) (after : Dinode) (mid : ℕ → List ℕ) (taken freed : List ℕ) → IsSound r v → SetsObject r v w n after mid taken freed
      → KeepsKinds r v w (objects r v n) (Some (spelled r mid after)) → OwnersStay r v w
  pub takes : (r : Readers) (v w : Volume) (n : ℕ) (after : Dinode) (mid : ℕ → List ℕ) (taken freed : List ℕ) → IsSound r v → SetsObject r v w n after mid taken freed
      → (b : ℕ) → v.used b ≡ false → w.used b ≡ true → IsOwnerIn n (owner_of r w b)
  pub drops : (r : Readers) (v w : Volume) (n : ℕ) (left : Dinode) (freed : List ℕ) → IsSound r v → DropsObject r v w n left freed → OwnersStay r v w
  pub adds : (r : Readers) (v w : Volume) (place first : ℕ) → IsSound r v → AddsExtent v w place first → OwnersStay r v w
  pub comes : (r : Readers) (v w : Volume) (place first : ℕ) → IsSound r v → AddsExtent v w place first → (b : ℕ) → 0 < extent_has (Some first) b → owner_of r w b ≡ Some Inodes
