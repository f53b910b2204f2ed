-- What a file call answers, said once for all calls.
use Rattle.std.specs.Prelude.{◌≡◌, ◌⊎◌, ◌<◌, ◌≤◌, ℕ, true, false, nat_lt, if◌then◌else◌, List, Ok, Err}
use Rattle.jfs_disk.specs.declared.disk.Fault.{Fault}
use Rattle.jfs_super.specs.Geometry.{file_limit_of}
use Rattle.jfs_create.specs.bmap.specs.States.{Blocks, Free, Reserved, state_of, changed, all_settled}
use Rattle.jfs_ranges.specs.declared.edit.Edit.{Edit}
use Rattle.jfs_plain.specs.declared.call.Call.{Call}
use Rattle.jfs_plain.specs.declared.call.Call.TheVariants as calls
use Rattle.jfs_plain.specs.Tree.{Tree}
use Rattle.jfs_plain.specs.Step.{Room, Outcome}
use Rattle.jfs_plain.specs.declared.refusal.Refusal.{Refusal}
use Rattle.jfs_plain.specs.declared.reply.Reply.{Reply}
use Rattle.jfs_plain.specs.declared.reply.Reply.TheVariants.{Refused}
use Rattle.jfs_truncate.specs.objects.specs.Volume.{Volume}
use Rattle.jfs_look.specs.meaning.specs.Readers.{readers}
use Rattle.jfs_look.specs.meaning.specs.Tree.{tree_on}
use Rattle.jfs_look.specs.meaning.specs.Room.{room_on}
use Rattle.jfs_look.specs.meaning.specs.Consistent.{IsConsistent}
use Rattle.jfs_look.specs.way.specs.Answer.{is_open, CarriesCause}
use Rattle.jfs_look.specs.way.specs.Volume.{volume_of, PlacesWithin}
use Rattle.jfs_chmod.specs.steps.specs.After.{takes}
use Rattle.jfs_chmod.specs.steps.specs.Call.{IsDone}
use Rattle.jfs_truncate.specs.data_steps.specs.After.{after_writes}
use Rattle.jfs_create.specs.claim.specs.Look.{IsAtRest, LooksFor}
use Rattle.jfs_create.specs.claim.specs.Take.{Lacks, HasFree}
use Rattle.jfs_create.specs.claim.specs.declared.look.FreshInode.{FreshInode}
use Rattle.jfs_create.specs.claim.specs.declared.reserve.Want.{Want}
use Rattle.jfs_create.specs.Reserved.{want_with}
use Rattle.jfs_create.specs.link.specs.Link.{want_of_name, ReservesFree}
use Rattle.jfs_map_files.specs.declared.maps.Maps.{Maps}
use Rattle.jfs_files.specs.declared.outcome.FileOutcome.{FileOutcome}
use Rattle.jfs_files.specs.declared.outcome.FileOutcome.TheVariants.{Changed, Same, NeedsLog}

-- ---- faults

-- the count of faults rises only with a reply that carries the part and the count that it raised
abbrev pub CarriesReply : Fault → Fault → Reply → Type 0
CarriesReply before now (Refused why) = CarriesCause before now why
CarriesReply before now _ = now ≡ before

abbrev pub CarriesOutcome : Fault → Fault → FileOutcome → Type 0
CarriesOutcome before now (Same reply) = CarriesReply before now reply
CarriesOutcome before now _ = now ≡ before

-- ---- the maps after a call

-- exactly the blocks that the edits take are reserved beside those before
abbrev pub reserved_by : List Edit → Blocks → Blocks
reserved_by tx map = changed (λ b s. if nat_lt 0 (takes tx b) then Reserved else s) map

-- Each of them was free, and is taken once. Nothing else of the maps changes.
pub record TakesFree (old new : Maps) (tx : List Edit) : Type 0 where
  pub free : (b : ℕ) → 0 < takes tx b → state_of old.blocks b ≡ Free
  pub once : (b : ℕ) → takes tx b ≤ 1
  pub now_is : new ≡ record old { blocks = reserved_by tx old.blocks }

abbrev pub MapsAfter : Maps → Maps → FileOutcome → Type 0
MapsAfter old new (Changed tx blocks) = TakesFree old new tx
MapsAfter old new _ = new ≡ old

-- Of every view: without a transaction nothing changes; with one, blocks that were free are reserved, each once, and nothing else changes.
abbrev pub ReservesAlone : Maps → Maps → Type 0
ReservesAlone old new = (taken : List ℕ) × ReservesFree old.blocks new.blocks taken × (new ≡ record old { blocks = new.blocks })

abbrev pub KeepsMaps : Maps → Maps → FileOutcome → Type 0
KeepsMaps old new (Changed tx blocks) = (new ≡ old) ⊎ ReservesAlone old new
KeepsMaps old new _ = new ≡ old

-- ---- on a consistent volume

-- the volume that a view's pages and the maps are
abbrev pub volume_in : (ℕ → List ℕ) → (ℕ → ℕ) → Maps → Volume
volume_in page area maps = volume_of page area maps.blocks maps.inodes

-- Between calls no block is reserved, and inode extents lie within the file system part.
pub record AreBetweenCalls (blocks : ℕ) (maps : Maps) : Type 0 where
  pub rest : IsAtRest maps.blocks maps.inodes
  pub within : PlacesWithin blocks maps.inodes

-- what is said of the consistent volume that the pages and such maps are, and of its room
abbrev pub IfMounted : ℕ → (ℕ → List ℕ) → Maps → (Volume → Room → Type 0) → Type 0
IfMounted blocks pages maps fact = AreBetweenCalls blocks maps → (area : ℕ → ℕ) → IsConsistent (readers blocks) (volume_in pages area maps) → (log_pages : ℕ) → maps.file_limit ≡ file_limit_of log_pages
    → fact (volume_in pages area maps) (room_on (readers blocks) (volume_in pages area maps) blocks log_pages)

-- It is the plain step's reply, which leaves the tree; or it is refused for a fault or want of memory.
abbrev pub IsReply : Tree → Outcome → Reply → Type 0
IsReply t plain (Refused why) = (plain ≡ Err why) ⊎ (is_open why ≡ true)
IsReply t plain reply = plain ≡ Ok (reply, t)

-- What a call wants reserved: a link or a rename eight blocks, one by one; a new object these, and a run of four before them where its inode needs an extent; a write or a fill 32 at most; no other call wants any.
abbrev pub nothing : Want
nothing = record { run = false; blocks = 0 }

abbrev pub WantsInode : Maps → Want → Type 0
WantsInode maps want = (fresh : FreshInode) × LooksFor maps.blocks maps.inodes (Ok fresh) × (want ≡ want_with fresh.needs_extent)

abbrev pub WantsBytes : Want → Type 0
WantsBytes want = (want.run ≡ false) × (want.blocks ≤ 32)

abbrev pub Wants : Maps → Call → Want → Type 0
Wants maps (calls.Mkdir path mode) want = WantsInode maps want
Wants maps (calls.Create path mode) want = WantsInode maps want
Wants maps (calls.Symlink path target) want = WantsInode maps want
Wants maps (calls.Link from to) want = want ≡ want_of_name
Wants maps (calls.Rename from to) want = want ≡ want_of_name
Wants maps (calls.Write path offset new) want = WantsBytes want
Wants maps (calls.Fill path offset count byte) want = WantsBytes want
Wants maps _ want = want ≡ nothing

-- Busy blocks alone stand between a call and its blocks: what it wants isn't free, and is once they are settled.
abbrev pub IsBusyFor : Blocks → Want → Type 0
IsBusyFor map want = Lacks map want × HasFree (all_settled map) want

-- The plain step is taken, whose tree the volume has once the data is written and the transaction follows; or the reply is the plain step's; or busy blocks stand in between.
abbrev pub AnswersAs : ℕ → Blocks → Volume → (Want → Type 0) → (Tree → Outcome) → FileOutcome → Type 0
AnswersAs blocks map v wants plain (Changed tx written) = IsDone blocks v (after_writes blocks written tx v) plain
AnswersAs blocks map v wants plain (Same reply) = IsReply (tree_on (readers blocks) v) (plain (tree_on (readers blocks) v)) reply
AnswersAs blocks map v wants plain NeedsLog = (want : Want) × wants want × IsBusyFor map want

-- the same, or it is refused for a cause that the plain step doesn't know
abbrev pub AnswersOr : (Refusal → Type 0) → ℕ → Blocks → Volume → (Want → Type 0) → (Tree → Outcome) → FileOutcome → Type 0
AnswersOr bars blocks map v wants plain (Same (Refused why)) = IsReply (tree_on (readers blocks) v) (plain (tree_on (readers blocks) v)) (Refused why) ⊎ bars why
AnswersOr bars blocks map v wants plain outcome = AnswersAs blocks map v wants plain outcome
