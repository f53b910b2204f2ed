-- What holds of a volume whose blocks get data, before a transaction and after it.
use Rattle.std.specs.Prelude.{◌≡◌, ◌≢◌, ◌⊎◌, ◌<◌, ℕ, true, false, List, length, Some, Ok}
use Rattle.jfs_bits.specs.declared.descriptor.Moment.{Moment}
use Rattle.jfs_bits.specs.declared.extent.Xad.{Xad}
use Rattle.jfs_inode.specs.declared.fields.Dinode.{Dinode}
use Rattle.jfs_ranges.specs.declared.edit.Edit.{Edit}
use Rattle.jfs_loss.specs.plain.specs.Moves.{Same}
use Rattle.jfs_loss.specs.objects.specs.Readers.{Readers}
use Rattle.jfs_loss.specs.objects.specs.Volume.{Volume}
use Rattle.jfs_loss.specs.objects.specs.Objects.{Object, objects, spelled, listed}
use Rattle.jfs_loss.specs.objects.specs.Owners.{IsSound, is_data}
use Rattle.jfs_loss.specs.objects.specs.Contents.{contents, contents_of}
use Rattle.jfs_loss.specs.objects.specs.Changes.{put, WritesData, SetsObject}
use Rattle.jfs_loss.specs.objects.specs.Laws.{ChangesNone, ChangesOne}
use Rattle.jfs_kinds.specs.Laws.{KeepsLogged, HasSameOwners}
use Rattle.jfs_loss.specs.meaning.specs.Readers.{readers}
use Rattle.jfs_loss.specs.meaning.specs.Contents.{byte_in, is_regular}
use Rattle.jfs_loss.specs.meaning.specs.Node.{node_of}
use Rattle.jfs_loss.specs.meaning.specs.Tree.{tree_on}
use Rattle.jfs_loss.specs.meaning.specs.Consistent.{IsConsistent}
use Rattle.jfs_loss.specs.meaning.specs.Laws.{ChangesOneNode, ChangesContents}
use Rattle.jfs_loss.specs.steps.specs.After.{extents_after}
use Rattle.jfs_loss.specs.steps.specs.Call.{LeavesAreas}
use Rattle.jfs_loss.specs.steps.specs.Gains.{after_set}
use Rattle.jfs_data_steps.specs.declared.pages.DataPage.{DataPage}
use Rattle.jfs_data_steps.specs.After.{is_put, AreWholePages, put_data, with_data, after_writes, LeavesPage}
use Rattle.jfs_data_steps.specs.File.{resized, bytes_held, refilled}

-- a block that isn't among those that are put keeps its bytes
abbrev pub OthersLaw : Type 0
OthersLaw = (ds : List DataPage) (pages : ℕ → List ℕ) (b : ℕ) → is_put b ds ≡ false → put_data ds pages b ≡ pages b

-- ---- before the transaction

-- Data of an object may be put into blocks that are its data, or that aren't in use.
abbrev pub MayPut : Readers → Volume → ℕ → List DataPage → Type 0
MayPut r v n ds = (b : ℕ) → is_put b ds ≡ true → (v.used b ≡ false) ⊎ (0 < is_data r (objects r v n) b)

-- The data is a regular file's: each block that it goes into is the file's own, or isn't in use.
pub record PutsOwn (blocks : ℕ) (v : Volume) (ds : List DataPage) : Type 0 where
  pub inode : ℕ
  pub file : Object
  pub there : objects (readers blocks) v inode ≡ Some file
  pub regular : is_regular file.inode ≡ true
  pub may : MayPut (readers blocks) v inode ds

-- Nothing changes but what the object's own data holds: no object, no owner and no logged page, and no other object's contents.
pub record PutsAlone (r : Readers) (v w : Volume) (n : ℕ) : Type 0 where
  pub writes : WritesData r v w n
  pub none : ChangesNone r v w
  pub contents_stay : (m k : ℕ) → m ≢ n → contents r w m k ≡ contents r v m k
  pub tree : ChangesContents r v w n
  pub logged : KeepsLogged r v w
  pub owners : HasSameOwners r v w

abbrev pub BeforeLaw : Type 0
BeforeLaw = (r : Readers) (v : Volume) (n : ℕ) (ds : List DataPage) → IsSound r v → MayPut r v n ds → PutsAlone r v (with_data ds v) n

-- ---- after it

-- A transaction sets an object, and data was put before: into blocks that are its data afterwards, and were before or were free. The transaction tells no block that is the object's data then.
pub record SetsWithData (blocks : ℕ) (v : Volume) (n : ℕ) (set : Dinode) (mid : ℕ → List ℕ) (taken freed : List ℕ) (ds : List DataPage) (tx : List Edit) : Type 0 where
  pub sets : SetsObject (readers blocks) v (after_set blocks tx n v) n set mid taken freed
  pub extents_stay : extents_after tx v.extents ≡ v.extents
  pub pages : (b : ℕ) → b < blocks → length (v.page b) ≡ 4096
  pub whole : AreWholePages ds
  pub before : MayPut (readers blocks) v n ds
  pub after : (b : ℕ) → is_put b ds ≡ true → 0 < is_data (readers blocks) (Some (spelled (readers blocks) mid set)) b
  pub untold : (b : ℕ) → 0 < is_data (readers blocks) (Some (spelled (readers blocks) mid set)) b → LeavesPage b tx

-- The volume after both: this object is another one, whose blocks hold what they held before and what was put into them; all other objects, contents and nodes are as they were, so are the fixed areas, and maps agree.
pub record IsSetWithData (r : Readers) (v w : Volume) (n : ℕ) (o : Object) (ds : List DataPage) : Type 0 where
  pub one : ChangesOne r v w n (Some o)
  pub contents_are : (k : ℕ) → contents r w n k ≡ contents_of r (put_data ds v.page) (Some o) k
  pub tree : ChangesOneNode r v w n (node_of r (put_data ds v.page) o) (byte_in r (put_data ds v.page) (Some o))
  pub areas : LeavesAreas v w

abbrev pub SetLaw : Type 0
SetLaw = (blocks : ℕ) (v : Volume) (n : ℕ) (set : Dinode) (mid : ℕ → List ℕ) (taken freed : List ℕ) (ds : List DataPage) (tx : List Edit) → IsSound (readers blocks) v → SetsWithData blocks v n set mid taken freed ds tx
    → PutsAlone (readers blocks) v (with_data ds v) n × IsSetWithData (readers blocks) v (after_writes blocks ds tx v) n (spelled (readers blocks) mid set) ds

-- ---- a regular file

-- Its inode gets another root, size and number of blocks, and is written now; its tree names these extents then.
pub record SetsFile (blocks : ℕ) (v : Volume) (n : ℕ) (d : Dinode) (root : List ℕ) (size own : ℕ) (now : Moment) (es : List Xad) (mid : ℕ → List ℕ) (taken freed : List ℕ) (ds : List DataPage) (tx : List Edit) : Type 0 where
  pub was : objects (readers blocks) v n ≡ Some (spelled (readers blocks) v.page d)
  pub regular : is_regular d ≡ true
  pub extents : listed (readers blocks).extents_order (spelled (readers blocks) mid (resized d root size own now)).extents ≡ Ok es
  pub sets : SetsWithData blocks v n (resized d root size own now) mid taken freed ds tx

-- The volume after both is consistent, and of its tree this file alone has changed: it has this size, the bytes of these blocks, and is written now. The fixed areas are as they were.
pub record IsFileSet (blocks : ℕ) (v w : Volume) (n : ℕ) (size : ℕ) (bytes : ℕ → ℕ) (now : Moment) : Type 0 where
  pub same : Same (refilled n size bytes now (tree_on (readers blocks) v)) (tree_on (readers blocks) w)
  pub consistent : IsConsistent (readers blocks) w
  pub areas : LeavesAreas v w

abbrev pub FileLaw : Type 0
FileLaw = (blocks : ℕ) (v : Volume) (n : ℕ) (d : Dinode) (root : List ℕ) (size own : ℕ) (now : Moment) (es : List Xad) (mid : ℕ → List ℕ) (taken freed : List ℕ) (ds : List DataPage) (tx : List Edit)
    → IsConsistent (readers blocks) v → SetsFile blocks v n d root size own now es mid taken freed ds tx
    → IsFileSet blocks v (after_writes blocks ds tx v) n size (bytes_held (put_data ds v.page) es size) now

-- Before the transaction the volume with the data alone is consistent too, and of its tree this file's bytes alone may differ.
pub record IsFilePut (blocks : ℕ) (v w : Volume) (n : ℕ) (bytes : ℕ → ℕ) : Type 0 where
  pub same : Same (record (tree_on (readers blocks) v) { bytes = put n bytes (tree_on (readers blocks) v).bytes }) (tree_on (readers blocks) w)
  pub consistent : IsConsistent (readers blocks) w

abbrev pub FileBeforeLaw : Type 0
FileBeforeLaw = (blocks : ℕ) (v : Volume) (n : ℕ) (d : Dinode) (es : List Xad) (ds : List DataPage) → IsConsistent (readers blocks) v → objects (readers blocks) v n ≡ Some (spelled (readers blocks) v.page d) → is_regular d ≡ true
    → listed (readers blocks).extents_order (spelled (readers blocks) v.page d).extents ≡ Ok es → MayPut (readers blocks) v n ds → IsFilePut blocks v (with_data ds v) n (bytes_held (put_data ds v.page) es d.size)
