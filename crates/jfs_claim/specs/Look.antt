-- What is looked at before a call reserves anything: the space, and the inode of a new object.
use Rattle.std.specs.Prelude.{◌≡◌, ◌≤◌, ℕ, ◌+◌, ◌*◌, ◌^◌, Bool, true, false, ◌&&◌, nat_lt, if◌then◌else◌, List, length, Some, None, Result, Ok, Err}
use Rattle.jfs_imap.specs.Inodes.{Inodes, IsPick}
use Rattle.jfs_imap.specs.declared.inode_map.Pick.{Pick}
use Rattle.jfs_imap.specs.declared.inode_map.Pick.TheVariants.{Number, NeedsExtent, NoInodes as NoneFree}
use Rattle.jfs_room.specs.bmap.specs.States.{Blocks}
use Rattle.jfs_plain.specs.Step.{Room, is_short}
use Rattle.jfs_plain.specs.declared.refusal.Refusal.{Refusal}
use Rattle.jfs_plain.specs.declared.refusal.Refusal.TheVariants.{NoSpace, NoInodes}
use Rattle.jfs_room.specs.objects.specs.Owners.{Agrees}
use Rattle.jfs_room.specs.meaning.specs.Readers.{readers}
use Rattle.jfs_room.specs.meaning.specs.Room.{room_on}
use Rattle.jfs_room.specs.way.specs.Volume.{volume_of}
use Rattle.jfs_room.specs.Laws.{blocks_in, NoneReserved, TellsRun}
use Rattle.jfs_claim.specs.declared.look.FreshInode.{FreshInode}

-- ---- by the maps in memory

-- So many blocks have no owner. They are too few where a call may need more, with the 64 that are always kept.
abbrev pub space_for : ℕ → ℕ → Result (Unit {0}) Refusal
space_for free need = if nat_lt free (need + 64) then Err (NoSpace free) else Ok tt

-- The number for a new object, by what the inode map picks and by whether there is a run for one more extent. A place stands for 32 numbers, which have 32 bits.
abbrev pub inode_by : Pick → Bool → Result FreshInode Refusal
inode_by (Number n) run = Ok (record { number = n; needs_extent = false })
inode_by (NeedsExtent place) run = if nat_lt place (2 ^ 27) && run then Ok (record { number = 32 * place; needs_extent = true }) else Err NoInodes
inode_by NoneFree run = Err NoInodes

-- there is a run where there is one once all busy blocks are settled
abbrev pub LooksFor : Blocks → Inodes → Result FreshInode Refusal → Type 0
LooksFor map inodes result = (pick : Pick) × (run : Bool) × IsPick inodes pick × TellsRun map run × (result ≡ inode_by pick run)

-- ---- by the room of the volume

abbrev pub room_of : (ℕ → List ℕ) → (ℕ → ℕ) → Blocks → Inodes → ℕ → Room
room_of page area map inodes log_pages = room_on (readers (blocks_in map)) (volume_of page area map inodes) (blocks_in map) log_pages

-- what is said of the room of each volume whose maps agree, that has this block map
abbrev pub WhateverInodes : Blocks → (Room → Type 0) → Type 0
WhateverInodes map fact = (page : ℕ → List ℕ) (area : ℕ → ℕ) (inodes : Inodes) → Agrees (readers (blocks_in map)) (volume_of page area map inodes) → (log_pages : ℕ) → fact (room_of page area map inodes log_pages)

-- No entry is being made that took blocks, and there are no more places for extents than numbers of inodes allow (an inode map is made with at most 2 ^ 23).
pub record IsAtRest (map : Blocks) (inodes : Inodes) : Type 0 where
  pub none : NoneReserved map
  pub places : length inodes.extents ≤ 2 ^ 27

-- what is said of the room of each volume whose maps agree and are at rest, that has these maps
abbrev pub IfAtRest : Blocks → Inodes → (Room → Type 0) → Type 0
IfAtRest map inodes fact = IsAtRest map inodes → (page : ℕ → List ℕ) (area : ℕ → ℕ) → Agrees (readers (blocks_in map)) (volume_of page area map inodes) → (log_pages : ℕ) → fact (room_of page area map inodes log_pages)

-- it is refused where the room is too short, with its free blocks
abbrev pub TellsSpace : Room → ℕ → Result (Unit {0}) Refusal → Type 0
TellsSpace room need (Ok it) = is_short room need ≡ false
TellsSpace room need (Err why) = (is_short room need ≡ true) × (why ≡ NoSpace room.free)

-- it is the inode that the room has for a new object, and refused where it has none
abbrev pub TellsInode : Room → Result FreshInode Refusal → Type 0
TellsInode room (Ok fresh) = room.inode ≡ Some fresh.number
TellsInode room (Err why) = (room.inode ≡ None) × (why ≡ NoInodes)
