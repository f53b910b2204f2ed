-- What is looked at before an object is made, in the order of the causes: the place, the links of its directory, the space, the inode, and the room of the directory's tree.
use Rattle.std.specs.Prelude.{◌≡◌, ◌⊎◌, ℕ, Bool, true, false, List, Some, Result, Ok, Err}
use Rattle.jfs_bits.specs.declared.descriptor.Moment.{Moment}
use Rattle.jfs_imap.specs.Inodes.{Inodes}
use Rattle.jfs_bmap.specs.States.{Blocks, unowned_count}
use Rattle.jfs_dtree.specs.Room.{deep_on_way}
use Rattle.jfs_plain.specs.Tree.{Tree, new_place, place_at}
use Rattle.jfs_plain.specs.Step.{Room, is_full, is_short, links_of}
use Rattle.jfs_plain.specs.declared.refusal.Refusal.{Refusal}
use Rattle.jfs_plain.specs.declared.refusal.Refusal.TheVariants.{TooManyLinks, TooDeep}
use Rattle.jfs_link.specs.meaning.specs.Consistent.{IsConsistent}
use Rattle.jfs_link.specs.meaning.specs.Readers.{readers, root_of}
use Rattle.jfs_link.specs.meaning.specs.Room.{room_on}
use Rattle.jfs_link.specs.room.specs.Laws.{blocks_in}
use Rattle.jfs_link.specs.claim.specs.Look.{space_for, LooksFor, IsAtRest}
use Rattle.jfs_link.specs.claim.specs.declared.look.FreshInode.{FreshInode}
use Rattle.jfs_link.specs.way.specs.Answer.{is_open}
use Rattle.jfs_link.specs.way.specs.Volume.{volume_of, PlacesWithin}
use Rattle.jfs_link.specs.way.specs.Walk.{IsThere, tree_in}
use Rattle.jfs_link.specs.way.specs.declared.object.Held.{Held}
use Rattle.jfs_link.specs.steps.specs.Place.{last_of, new_place_of}
use Rattle.jfs_create.specs.Makes.{plain_of}
use Rattle.jfs_create.specs.declared.looks.Seen.{Seen}
use Rattle.jfs_create.specs.declared.new.NewObject.{NewObject}
use Rattle.jfs_create.specs.declared.new.NewObject.TheVariants.{File, Directory, Link}

-- only a directory in it raises a directory's links
abbrev pub too_many : NewObject → ℕ → Bool
too_many (File mode) links = false
too_many (Directory mode) links = is_full links
too_many (Link target) links = false

-- ---- on any volume

-- the object may be made in the directory
pub record Passes (blocks : ℕ) (pages : ℕ → List ℕ) (map : Blocks) (inodes : Inodes) (path : List (List ℕ)) (object : NewObject) (seen : Seen) : Type 0 where
  pub place : new_place_of blocks pages inodes path ≡ Ok seen.dir
  pub links : too_many object seen.dir.inode.nlink ≡ false
  pub space : space_for (unowned_count map) 12 ≡ Ok tt
  pub inode : LooksFor map inodes (Ok seen.fresh)
  pub deep : deep_on_way blocks pages (root_of seen.dir.inode) (last_of path) ≡ false

-- Why it may not: each cause where none before it holds.
abbrev pub BarredInode : ℕ → (ℕ → List ℕ) → Blocks → Inodes → List (List ℕ) → Held → Refusal → Type 0
BarredInode blocks pages map inodes path dir why = LooksFor map inodes (Err why)
    ⊎ ((fresh : FreshInode) × LooksFor map inodes (Ok fresh) × (deep_on_way blocks pages (root_of dir.inode) (last_of path) ≡ true) × (why ≡ TooDeep dir.number))

abbrev pub BarredSpace : ℕ → (ℕ → List ℕ) → Blocks → Inodes → List (List ℕ) → Held → Refusal → Type 0
BarredSpace blocks pages map inodes path dir why = (space_for (unowned_count map) 12 ≡ Err why) ⊎ ((space_for (unowned_count map) 12 ≡ Ok tt) × BarredInode blocks pages map inodes path dir why)

abbrev pub BarredIn : ℕ → (ℕ → List ℕ) → Blocks → Inodes → List (List ℕ) → NewObject → Held → Refusal → Type 0
BarredIn blocks pages map inodes path object dir why = ((too_many object dir.inode.nlink ≡ true) × (why ≡ TooManyLinks))
    ⊎ ((too_many object dir.inode.nlink ≡ false) × BarredSpace blocks pages map inodes path dir why)

abbrev pub Barred : ℕ → (ℕ → List ℕ) → Blocks → Inodes → List (List ℕ) → NewObject → Refusal → Type 0
Barred blocks pages map inodes path object why = (is_open why ≡ true) ⊎ ((new_place_of blocks pages inodes path ≡ Err why)
    ⊎ ((dir : Held) × (new_place_of blocks pages inodes path ≡ Ok dir) × BarredIn blocks pages map inodes path object dir why))

-- ---- on a consistent volume

-- What is said of the tree and the room of a consistent volume of so many blocks, all of which the block map knows, with inode extents within it, where no call has reserved blocks; whatever the fixed
-- areas and the log are.
abbrev pub InRoom : ℕ → (ℕ → List ℕ) → Blocks → Inodes → (Room → Tree → Type 0) → Type 0
InRoom blocks pages map inodes fact = blocks_in map ≡ blocks → IsAtRest map inodes → PlacesWithin blocks inodes → (area : ℕ → ℕ) → IsConsistent (readers blocks) (volume_of pages area map inodes) → (log_pages : ℕ)
    → fact (room_on (readers blocks) (volume_of pages area map inodes) blocks log_pages) (tree_in blocks pages area map inodes)

-- the causes of the plain step aren't there
pub record IsFree (object : NewObject) (room : Room) (t : Tree) (path : List (List ℕ)) (seen : Seen) : Type 0 where
  pub place : new_place t path ≡ Ok (place_at seen.dir.number (last_of path))
  pub there : IsThere t seen.dir.number
  pub links : too_many object (links_of t seen.dir.number) ≡ false
  pub space : is_short room 12 ≡ false
  pub inode : room.inode ≡ Some seen.fresh.number
  pub deep : room.deep seen.dir.number (last_of path) ≡ false

-- a refusal is the plain step's, or it is open
abbrev pub LooksAs : NewObject → List (List ℕ) → Moment → Room → Tree → Result Seen Refusal → Type 0
LooksAs object path now room t (Ok seen) = IsFree object room t path seen
LooksAs object path now room t (Err why) = (plain_of object room t path now ≡ Err why) ⊎ (is_open why ≡ true)
