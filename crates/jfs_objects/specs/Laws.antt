-- What edits do to the objects of a volume.
use Rattle.std.specs.Prelude.{◌≡◌, ◌≢◌, ◌<◌, ◌≤◌, ℕ, true, List, Option, Some, None}
use Rattle.jfs_inode.specs.declared.fields.Dinode.{Dinode}
use Rattle.jfs_objects.specs.Readers.{Readers}
use Rattle.jfs_objects.specs.Volume.{Volume}
use Rattle.jfs_objects.specs.Objects.{Object, objects, spelled, footprint}
use Rattle.jfs_objects.specs.Owners.{Agrees, IsSound, fixed, holds}
use Rattle.jfs_objects.specs.Contents.{contents, contents_of}
use Rattle.jfs_objects.specs.Changes.{put, WritesData, SetsObject, DropsObject, AddsExtent}

-- The frame law: what an inode spells is the same where the pages of its footprint are.
abbrev pub FrameLaw : Type 0
FrameLaw = (r : Readers) (old new : ℕ → List ℕ) (d : Dinode) → ((b : ℕ) → 0 < footprint (spelled r old d) b → new b ≡ old b) → spelled r new d ≡ spelled r old d

-- Where maps agree, a block has one owner at most: no two objects have it, none has it twice, and none has one of the fixed areas or of the inode extents.
pub record IsOwnedOnce (r : Readers) (v : Volume) : Type 0 where
  pub alone : (n m b : ℕ) → m ≢ n → 0 < holds r (objects r v n) b → holds r (objects r v m) b ≡ 0
  pub once : (n b : ℕ) → holds r (objects r v n) b ≤ 1
  pub apart : (n b : ℕ) → 0 < holds r (objects r v n) b → fixed v b ≡ 0
  pub in_use : (n b : ℕ) → 0 < holds r (objects r v n) b → v.used b ≡ true

abbrev pub OwnedOnceLaw : Type 0
OwnedOnceLaw = (r : Readers) (v : Volume) → Agrees r v → IsOwnedOnce r v

-- One object is another one, or goes, or comes: maps agree again, all other objects and their contents are as they were, and a block that stays in use keeps its owner.
pub record ChangesOne (r : Readers) (v w : Volume) (n : ℕ) (x : Option Object) : Type 0 where
  pub sound : IsSound r w
  pub objects_are : (k : ℕ) → objects r w k ≡ put n x (objects r v) k
  pub contents_stay : (m k : ℕ) → m ≢ n → contents r w m k ≡ contents r v m k
  pub owners_stay : (b k : ℕ) → v.used b ≡ true → w.used b ≡ true → holds r (objects r w k) b ≡ holds r (objects r v k) b

-- An object that is set spells what its pages spelled before its inode was put, and its contents are those of that moment.
abbrev pub SetLaw : Type 0
SetLaw = (r : Readers) (v w : Volume) (n : ℕ) (after : Dinode) (mid : ℕ → List ℕ) (taken freed : List ℕ) → IsSound r v → SetsObject r v w n after mid taken freed
    → ChangesOne r v w n (Some (spelled r mid after)) × ((k : ℕ) → contents r w n k ≡ contents_of r mid (Some (spelled r mid after)) k)

abbrev pub DropLaw : Type 0
DropLaw = (r : Readers) (v w : Volume) (n : ℕ) (left : Dinode) (freed : List ℕ) → IsSound r v → DropsObject r v w n left freed → ChangesOne r v w n None

-- No object changes, and maps agree.
pub record ChangesNone (r : Readers) (v w : Volume) : Type 0 where
  pub sound : IsSound r w
  pub objects_stay : (k : ℕ) → objects r w k ≡ objects r v k

-- A new inode extent changes no object and no contents.
abbrev pub ExtentLaw : Type 0
ExtentLaw = (r : Readers) (v w : Volume) (place first : ℕ) → IsSound r v → AddsExtent v w place first → ChangesNone r v w × ((m k : ℕ) → contents r w m k ≡ contents r v m k)

-- Data that is written changes no object, and no other object's contents.
abbrev pub DataLaw : Type 0
DataLaw = (r : Readers) (v w : Volume) (n : ℕ) → IsSound r v → WritesData r v w n → ChangesNone r v w × ((m k : ℕ) → m ≢ n → contents r w m k ≡ contents r v m k)
