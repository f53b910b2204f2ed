-- How the room of a mounted volume follows from its two maps in memory. What is said is said of volumes whose maps agree: so a block is owned in the map exactly where it has an owner.
use Rattle.std.specs.Prelude.{◌≡◌, ◌≢◌, ◌↔◌, ℕ, ◌*◌, Bool, true, false, ◌&&◌, IsTrue, if◌then◌else◌, List, length, Option, Some, None}
use Rattle.jfs_bits.specs.declared.descriptor.Pxd.{Pxd}
use Rattle.jfs_super.specs.Geometry.{file_limit_of}
use Rattle.jfs_iag.specs.Canonical.{is_there}
use Rattle.jfs_way.specs.imap.specs.Inodes.{Inodes, IsPick, with_extent}
use Rattle.jfs_way.specs.imap.specs.declared.inode_map.Pick.{Pick}
use Rattle.jfs_way.specs.imap.specs.declared.inode_map.Pick.TheVariants.{Number, NeedsExtent, NoInodes}
use Rattle.jfs_way.specs.bmap.specs.Set.{HasFreeRun}
use Rattle.jfs_way.specs.bmap.specs.States.{Blocks, Reserved, state_of, is_used, all_settled, unowned_count}
use Rattle.jfs_way.specs.dtree.specs.Room.{is_deep}
use Rattle.jfs_way.specs.plain.specs.Step.{Room}
use Rattle.jfs_way.specs.objects.specs.Readers.{Readers}
use Rattle.jfs_way.specs.objects.specs.Volume.{Volume}
use Rattle.jfs_way.specs.objects.specs.Objects.{Object, objects, has_names}
use Rattle.jfs_way.specs.objects.specs.Owners.{Agrees}
use Rattle.jfs_way.specs.meaning.specs.Readers.{readers, root_of}
use Rattle.jfs_way.specs.meaning.specs.Consistent.{IsConsistent}
use Rattle.jfs_way.specs.meaning.specs.Room.{free_blocks, has_run, fresh_inode, room_on}
use Rattle.jfs_way.specs.Volume.{volume_of}
use Rattle.jfs_way.specs.Walk.{IsHeld, IsShown, IsThere, tree_in}
use Rattle.jfs_way.specs.declared.object.Held.{Held}

-- what is said of a volume whose maps agree, of its block map and its inode map
abbrev pub WhereMapsAgree : (Readers → Volume → Blocks → Inodes → Type 0) → Type 0
WhereMapsAgree fact = (r : Readers) (page : ℕ → List ℕ) (area : ℕ → ℕ) (map : Blocks) (inodes : Inodes) → Agrees r (volume_of page area map inodes) → fact r (volume_of page area map inodes) map inodes

-- how many blocks the map tells of
abbrev pub blocks_in : Blocks → ℕ
blocks_in map = length map.states

-- ---- blocks

abbrev pub FreeLaw : Type 0
FreeLaw = WhereMapsAgree (λ r v map inodes. free_blocks r v (blocks_in map) ≡ unowned_count map)

-- no entry is being made that took blocks
abbrev pub NoneReserved : Blocks → Type 0
NoneReserved map = (b : ℕ) → state_of map b ≢ Reserved

-- there is an aligned run of four free blocks, once all busy blocks are settled
abbrev pub TellsRun : Blocks → Bool → Type 0
TellsRun map run = IsTrue run ↔ HasFreeRun (is_used (all_settled map)) 2

-- A run that the map tells has no owners, whatever is reserved; and where no block is reserved, the map tells of a run exactly where there is one without owners.
pub record RunIsThere (r : Readers) (v : Volume) (map : Blocks) (run : Bool) : Type 0 where
  pub told : run ≡ true → has_run r v (blocks_in map) ≡ true
  pub same : NoneReserved map → has_run r v (blocks_in map) ≡ run

abbrev pub RunLaw : Type 0
RunLaw = WhereMapsAgree (λ r v map inodes. (run : Bool) → TellsRun map run → RunIsThere r v map run)

-- ---- inodes

-- the inode that a new object gets by a pick, and by whether there is a run for one more extent: each place of an extent stands for 32 numbers
abbrev pub picked : Pick → Bool → Option ℕ
picked (Number n) run = Some n
picked (NeedsExtent place) run = if run then Some (32 * place) else None
picked NoInodes run = None

abbrev pub FreshLaw : Type 0
FreshLaw = WhereMapsAgree (λ r v map inodes. (blocks : ℕ) (pick : Pick) → IsPick inodes pick → fresh_inode r v blocks ≡ picked pick (has_run r v blocks))

-- Once the extent that a pick needs is there, its first inode is picked: the number that the room gave before.
abbrev pub AddedLaw : Type 0
AddedLaw = (inodes : Inodes) (place : ℕ) (at : Pxd) → IsPick inodes (NeedsExtent place) → is_there at ≡ true → IsPick (with_extent place at inodes) (Number (32 * place))

-- ---- directories

-- whatever the maps are: what an object's root tells, where it is a directory
abbrev pub deep_by_root : ℕ → (ℕ → List ℕ) → Option Object → List ℕ → Bool
deep_by_root blocks page None name = false
deep_by_root blocks page (Some o) name = has_names o.inode && is_deep blocks page (root_of o.inode) name

abbrev pub DeepLaw : Type 0
DeepLaw = (blocks log_pages : ℕ) (v : Volume) (dir : ℕ) (name : List ℕ) → (room_on (readers blocks) v blocks log_pages).deep dir name ≡ deep_by_root blocks v.page (objects (readers blocks) v dir) name

-- of a directory that a walk gave: its root stands in the inode at hand
abbrev pub HeldLaw : Type 0
HeldLaw = (blocks log_pages : ℕ) (page : ℕ → List ℕ) (area : ℕ → ℕ) (map : Blocks) (inodes : Inodes) (o : Held) (name : List ℕ) → IsConsistent (readers blocks) (volume_of page area map inodes)
    → IsHeld blocks inodes o → IsShown page o → IsThere (tree_in blocks page area map inodes) o.number
    → (room_on (readers blocks) (volume_of page area map inodes) blocks log_pages).deep o.number name ≡ (has_names o.inode && is_deep blocks page (root_of o.inode) name)

-- ---- all of it

-- the room that the maps and the directories' roots give
abbrev pub room_by_maps : ℕ → Volume → Blocks → Pick → Bool → Room
room_by_maps log_pages v map pick run = record {
  limit = file_limit_of log_pages;
  free = unowned_count map;
  deep = λ dir name. deep_by_root (blocks_in map) v.page (objects (readers (blocks_in map)) v dir) name;
  inode = picked pick run;
}

abbrev pub RoomLaw : Type 0
RoomLaw = (page : ℕ → List ℕ) (area : ℕ → ℕ) (map : Blocks) (inodes : Inodes) → let r = readers (blocks_in map) in let v = volume_of page area map inodes in
    Agrees r v → NoneReserved map → (pick : Pick) (run : Bool) → IsPick inodes pick → TellsRun map run → (log_pages : ℕ) → room_on r v (blocks_in map) log_pages ≡ room_by_maps log_pages v map pick run
