-- What a write does, and what stops it.
use Rattle.std.specs.Prelude.{◌≡◌, ◌⊎◌, ◌≤◌, ◌<◌, ℕ, ◌+◌, ◌/◌, true, List, [], ◌++◌, length, Option, None, Result, Ok, Err}
use Rattle.jfs_super.specs.Geometry.{file_limit_of}
use Rattle.jfs_bits.specs.declared.descriptor.Moment.{Moment}
use Rattle.jfs_bits.specs.declared.descriptor.Pxd.{Pxd}
use Rattle.jfs_bits.specs.declared.extent.Xad.{Xad}
use Rattle.jfs_bits.specs.declared.rule.Rule.TheVariants as rules
use Rattle.jfs_disk.specs.declared.disk.Fault.{Fault}
use Rattle.jfs_ranges.specs.declared.edit.Edit.{Edit}
use Rattle.jfs_imap.specs.Inodes.{Inodes}
use Rattle.jfs_bmap.specs.Choice.{IsReservation, AreLowestBlocks}
use Rattle.jfs_bmap.specs.States.{Blocks, Reserved, is_used, free_count, unowned_count, all_settled, put_state}
use Rattle.jfs_tree.specs.Fresh.{blocks_of}
use Rattle.jfs_tree.specs.Spells.{no_page}
use Rattle.jfs_xtree.specs.Spells.{page_nodes, root_node}
use Rattle.jfs_put_range.specs.Call.{IsNinth}
use Rattle.jfs_tree.specs.declared.form.TreeError.TheVariants.{Bad}
use Rattle.jfs_plain.specs.Tree.{Tree, and_then, walk, root}
use Rattle.jfs_plain.specs.Step.{Room, Outcome, need_of_bytes, write}
use Rattle.jfs_plain.specs.CallStep.{LeavesRest}
use Rattle.jfs_plain.specs.declared.call.Call.{Call}
use Rattle.jfs_plain.specs.declared.call.Call.TheVariants as calls
use Rattle.jfs_plain.specs.declared.refusal.Refusal.{Refusal}
use Rattle.jfs_plain.specs.declared.refusal.Refusal.TheVariants.{Damaged}
use Rattle.jfs_plain.specs.declared.reply.Reply.TheVariants.{Done}
use Rattle.jfs_link.specs.meaning.specs.Consistent.{IsConsistent}
use Rattle.jfs_link.specs.meaning.specs.Readers.{readers, root_of}
use Rattle.jfs_link.specs.meaning.specs.Room.{room_on}
use Rattle.jfs_link.specs.meaning.specs.Tree.{tree_on}
use Rattle.jfs_file_blocks.specs.room.specs.Laws.{blocks_in, NoneReserved}
use Rattle.jfs_file_blocks.specs.claim.specs.Look.{space_for}
use Rattle.jfs_file_blocks.specs.claim.specs.Take.{AreFresh}
use Rattle.jfs_file_blocks.specs.Reserving.{total}
use Rattle.jfs_file_blocks.specs.declared.reserve.FileWant.{FileWant}
use Rattle.jfs_read.specs.way.specs.Answer.{is_open, CarriesCause, Follows}
use Rattle.jfs_read.specs.way.specs.Volume.{volume_of, PlacesWithin}
use Rattle.jfs_read.specs.way.specs.Walk.{IfConsistent, IsOf, tree_in}
use Rattle.jfs_read.specs.way.specs.Way.{path_of}
use Rattle.jfs_read.specs.way.specs.declared.object.Held.{Held}
use Rattle.jfs_link.specs.steps.specs.Call.{IsDone}
use Rattle.jfs_link.specs.steps.specs.Laws.{IsFair, TakesAndFrees}
use Rattle.jfs_link.specs.Link.{ReservesFree}
use Rattle.jfs_write_pages.specs.data_steps.specs.After.{EachOnce, with_data, after_writes}
use Rattle.jfs_write_pages.specs.data_steps.specs.Laws.{PutsOwn}
use Rattle.jfs_write_pages.specs.Spots.{placed, extents_for}
use Rattle.jfs_write_pages.specs.declared.spot.Spot.{Spot}
use Rattle.jfs_write.specs.Look.{why_kept, unless, spelled_at, want_for, spots_at}
use Rattle.jfs_write.specs.Tree.{RefusesExtents}
use Rattle.jfs_write.specs.Make.{Makes}
use Rattle.jfs_write.specs.declared.answer.Stop.{Stop}
use Rattle.jfs_write.specs.declared.answer.Stop.TheVariants.{Refused, NeedsLog}
use Rattle.jfs_write.specs.declared.make.Written.{Written}

-- the count of faults rises only with a fault, which carries the part and the count that it raised
abbrev pub CarriesStop : {T : Type 0} → Fault → Fault → Result T Stop → Type 0
CarriesStop before now (Ok it) = now ≡ before
CarriesStop before now (Err (Refused why)) = CarriesCause before now why
CarriesStop before now (Err NeedsLog) = now ≡ before

-- ---- the blocks

-- What a write may take: first blocks for what the file holds, by the rule of a reservation; then blocks for pages of its tree, each the lowest free one.
pub record MayTake (before : Blocks) (want : FileWant) (runs free : List Pxd) : Type 0 where
  pub chosen : IsReservation (is_used before) want.hint want.blocks runs
  pub lowest : AreLowestBlocks (is_used (put_state Reserved runs before)) free
  pub number : length free ≡ want.pages
  pub fresh : AreFresh before (total want) (blocks_of (runs ++ free))

-- Busy blocks alone stand between the write and its blocks: too few are free; and where no block is reserved, and as many have no owner, there are enough once the busy ones are settled.
pub record BusyAlone (before : Blocks) (want : FileWant) : Type 0 where
  pub few : free_count before < total want
  pub settled : NoneReserved before → total want ≤ unowned_count before → total want ≤ free_count (all_settled before)

-- Blocks that were free, each once, are reserved beside those before. A commit is due only where too few blocks are free; then, and after a refusal, nothing has changed.
abbrev pub MapAfter : Blocks → Blocks → Result Written Stop → Type 0
MapAfter before now (Ok out) = (taken : List ℕ) × ReservesFree before now taken
MapAfter before now (Err (Refused why)) = now ≡ before
MapAfter before now (Err NeedsLog) = (now ≡ before) × ((want : FileWant) × (total want ≤ 32) × BusyAlone before want)

-- exactly the blocks that the edits take are reserved, and the edits free none
abbrev pub TakesReserved : Blocks → Blocks → List Edit → Type 0
TakesReserved before now tx = (taken : List ℕ) × TakesAndFrees tx taken [] × ReservesFree before now taken

-- ---- a file that a call holds, on any volume

-- The write is made: what it wants was free, and exactly the blocks that its edits take are reserved beside those before.
pub record MakesReserved (blocks : ℕ) (pages : ℕ → List ℕ) (at : Held) (size offset : ℕ) (bytes : List ℕ) (es : List Xad) (spots : List (Option Spot)) (now : Moment) (before after : Blocks) (out : Written) : Type 0 where
  pub runs : List Pxd
  pub free : List Pxd
  pub left : List Pxd
  pub may : MayTake before (want_for es spots) runs free
  pub makes : Makes blocks pages at size offset bytes es spots runs free left now out
  pub wanted : total (want_for es spots) ≤ free_count before
  pub reserves : TakesReserved before after out.tx

-- the file's tree doesn't take the extents
pub record LacksPlace (blocks : ℕ) (pages : ℕ → List ℕ) (at : Held) (offset : ℕ) (es : List Xad) (spots : List (Option Spot)) (before : Blocks) (why : Refusal) : Type 0 where
  pub runs : List Pxd
  pub free : List Pxd
  pub may : MayTake before (want_for es spots) runs free
  pub refused : RefusesExtents blocks pages at.page (extents_for (placed (offset / 4096) spots (blocks_of runs))) (root_of at.inode) (blocks_of free) why

abbrev pub NotMade : ℕ → (ℕ → List ℕ) → Held → ℕ → List Xad → List (Option Spot) → Blocks → Stop → Type 0
NotMade blocks pages at offset es spots before (Refused why) = (is_open why ≡ true) ⊎ LacksPlace blocks pages at offset es spots before why
NotMade blocks pages at offset es spots before NeedsLog = BusyAlone before (want_for es spots)

-- Bytes are put into the file, whose tree spells these extents.
pub record WritesAt (blocks : ℕ) (pages : ℕ → List ℕ) (at : Held) (size offset : ℕ) (bytes : List ℕ) (now : Moment) (before after : Blocks) (out : Written) : Type 0 where
  pub es : List Xad
  pub spelled : spelled_at blocks pages at ≡ Ok es
  pub made : MakesReserved blocks pages at size offset bytes es (spots_at es offset (length bytes)) now before after out

-- They aren't: its tree breaks a rule, or doesn't take the extents, or the blocks that it wants aren't free.
abbrev pub StoppedAt : ℕ → (ℕ → List ℕ) → Held → ℕ → ℕ → Blocks → Stop → Type 0
StoppedAt blocks pages at offset count before (Refused why) = (is_open why ≡ true) ⊎ ((spelled_at blocks pages at ≡ Err why)
    ⊎ ((es : List Xad) × (spelled_at blocks pages at ≡ Ok es) × NotMade blocks pages at offset es (spots_at es offset count) before (Refused why)))
StoppedAt blocks pages at offset count before NeedsLog = (es : List Xad) × (spelled_at blocks pages at ≡ Ok es) × BusyAlone before (want_for es (spots_at es offset count))

-- ---- the whole call, on any volume

-- The file at the end of a path, where so many bytes may be put from an offset on: each cause in its turn.
abbrev pub if_space : Result (Unit {0}) Refusal → Held → Result Held Refusal
if_space (Ok it) at = Ok at
if_space (Err why) at = Err why

abbrev pub allowed_at : Blocks → ℕ → ℕ → ℕ → Held → Result Held Refusal
allowed_at map offset count limit at = and_then (unless (why_kept at.inode (offset + count) limit) at) (if_space (space_for (unowned_count map) (need_of_bytes offset count)))

abbrev pub allowed_of : ℕ → (ℕ → List ℕ) → Blocks → Inodes → List (List ℕ) → ℕ → ℕ → ℕ → Result Held Refusal
allowed_of blocks pages map inodes path offset count limit = and_then (path_of blocks pages inodes path) (allowed_at map offset count limit)

pub record IsWritten (blocks : ℕ) (pages : ℕ → List ℕ) (inodes : Inodes) (path : List (List ℕ)) (offset : ℕ) (bytes : List ℕ) (limit : ℕ) (now : Moment) (before after : Blocks) (out : Written) : Type 0 where
  pub at : Held
  pub allowed : allowed_of blocks pages before inodes path offset (length bytes) limit ≡ Ok at
  pub writes : WritesAt blocks pages at at.inode.size offset bytes now before after out

abbrev pub IsStopped : ℕ → (ℕ → List ℕ) → Inodes → List (List ℕ) → ℕ → ℕ → ℕ → Blocks → Stop → Type 0
IsStopped blocks pages inodes path offset count limit before (Refused why) = (is_open why ≡ true) ⊎ ((allowed_of blocks pages before inodes path offset count limit ≡ Err why)
    ⊎ ((at : Held) × (allowed_of blocks pages before inodes path offset count limit ≡ Ok at) × StoppedAt blocks pages at offset count before (Refused why)))
IsStopped blocks pages inodes path offset count limit before NeedsLog = (at : Held) × (allowed_of blocks pages before inodes path offset count limit ≡ Ok at) × StoppedAt blocks pages at offset count before NeedsLog

-- ---- on a consistent volume

-- What is said of the tree and the room of a consistent volume of so many blocks, all of which the block map knows, with inode extents within it, whose log gives this limit of a file's size; whatever the fixed areas are.
abbrev pub InRoom : ℕ → (ℕ → List ℕ) → Blocks → Inodes → ℕ → (Room → Tree → Type 0) → Type 0
InRoom blocks pages map inodes limit fact = blocks_in map ≡ blocks → PlacesWithin blocks inodes → (area : ℕ → ℕ) → IsConsistent (readers blocks) (volume_of pages area map inodes) → (log_pages : ℕ) → limit ≡ file_limit_of log_pages
    → fact (room_on (readers blocks) (volume_of pages area map inodes) blocks log_pages) (tree_in blocks pages area map inodes)

-- The file's tree has 8 levels, and fewer than two of its root's slots are free: then it can be refused with rule `deep`, at the page of its inode.
abbrev pub IsDeep : ℕ → (ℕ → List ℕ) → Inodes → List (List ℕ) → Refusal → Type 0
IsDeep blocks pages inodes path why = (at : Held) × (path_of blocks pages inodes path ≡ Ok at) × (why ≡ Damaged at.page rules.Deep) × IsNinth (page_nodes blocks pages) (root_node blocks (root_of at.inode)) (root_of at.inode) (Bad no_page rules.Deep)

-- The data is put, the transaction follows, and both take the plain step; a refusal is the plain step's, or it is open, or the file's tree is too deep; and where a commit is due, the plain step isn't refused.
abbrev pub StepsInRoom : ℕ → (ℕ → List ℕ) → Blocks → Inodes → ℕ → List (List ℕ) → (Room → Tree → Outcome) → Result Written Stop → Type 0
StepsInRoom blocks pages map inodes limit path plain (Ok out) = blocks_in map ≡ blocks → PlacesWithin blocks inodes → (area : ℕ → ℕ) → IsConsistent (readers blocks) (volume_of pages area map inodes) → (log_pages : ℕ) → limit ≡ file_limit_of log_pages
    → IsDone blocks (volume_of pages area map inodes) (after_writes blocks out.blocks out.tx (volume_of pages area map inodes)) (plain (room_on (readers blocks) (volume_of pages area map inodes) blocks log_pages))
StepsInRoom blocks pages map inodes limit path plain (Err (Refused why)) = InRoom blocks pages map inodes limit (λ room t. (plain room t ≡ Err why) ⊎ ((is_open why ≡ true) ⊎ IsDeep blocks pages inodes path why))
StepsInRoom blocks pages map inodes limit path plain (Err NeedsLog) = InRoom blocks pages map inodes limit (λ room t. (u : Tree) × (plain room t ≡ Ok (Done, u)))

-- The data alone, before the transaction, leaves all objects, and all bytes but those that the call writes over; and the volume is consistent then. It goes into the file's own blocks, and such as aren't in use, into each once. The transaction takes blocks that weren't in use, each once, and frees none.
pub record StartsIn (blocks : ℕ) (pages : ℕ → List ℕ) (area : ℕ → ℕ) (map : Blocks) (inodes : Inodes) (call : Call) (out : Written) : Type 0 where
  pub leaves : LeavesRest (tree_in blocks pages area map inodes) call (tree_on (readers blocks) (with_data out.blocks (volume_of pages area map inodes)))
  pub consistent : IsConsistent (readers blocks) (with_data out.blocks (volume_of pages area map inodes))
  pub own : PutsOwn blocks (volume_of pages area map inodes) out.blocks
  pub once : EachOnce out.blocks
  pub fair : IsFair out.tx (volume_of pages area map inodes).used

abbrev pub StartsOn : ℕ → (ℕ → List ℕ) → Blocks → Inodes → Call → Written → Type 0
StartsOn blocks pages map inodes call out = blocks_in map ≡ blocks → PlacesWithin blocks inodes → (area : ℕ → ℕ) → IsConsistent (readers blocks) (volume_of pages area map inodes) → StartsIn blocks pages area map inodes call out

abbrev pub StartsWrite : ℕ → (ℕ → List ℕ) → Blocks → Inodes → List (List ℕ) → ℕ → List ℕ → Written → Type 0
StartsWrite blocks pages map inodes path offset bytes out = StartsOn blocks pages map inodes (calls.Write path offset bytes) out

abbrev pub StartsFill : ℕ → (ℕ → List ℕ) → Blocks → Inodes → List (List ℕ) → ℕ → ℕ → ℕ → Written → Type 0
StartsFill blocks pages map inodes path offset count byte out = StartsOn blocks pages map inodes (calls.Fill path offset count byte) out

-- What is looked at before anything is reserved: the file at the end of the path, which may be written to, and whether there is space; a refusal is the plain step's, or it is open.
pub record Passes (blocks : ℕ) (pages : ℕ → List ℕ) (map : Blocks) (inodes : Inodes) (path : List (List ℕ)) (offset count limit : ℕ) (at : Held) : Type 0 where
  pub walks : IfConsistent blocks pages inodes (λ t. Follows {X = ℕ} {Y = Held} (IsOf t) (walk t root path) (Ok at))
  pub walked : path_of blocks pages inodes path ≡ Ok at
  pub allowed : why_kept at.inode (offset + count) limit ≡ None
  pub space : space_for (unowned_count map) (need_of_bytes offset count) ≡ Ok tt

abbrev pub LooksAs : ℕ → (ℕ → List ℕ) → Blocks → Inodes → List (List ℕ) → ℕ → ℕ → ℕ → Result Held Refusal → Type 0
LooksAs blocks pages map inodes path offset count limit (Ok at) = Passes blocks pages map inodes path offset count limit at
LooksAs blocks pages map inodes path offset count limit (Err why) = InRoom blocks pages map inodes limit (λ room t. (bytes : List ℕ) → length bytes ≡ count → (now : Moment) → (write room t path offset bytes now ≡ Err why) ⊎ (is_open why ≡ true))
