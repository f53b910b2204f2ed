-- The entry of a file call joins by what the call answered.
use Rattle.std.specs.Prelude.{◌≡◌, ◌⊎◌, ◌∷◌, ◌++◌, ◌&&◌, ◌||◌, [], ℕ, Bool, true, false, not, List, length, Some, is_some, Result, Ok, Err}
use Rattle.std.specs.List.{AllByRecursion}
use Rattle.jfs_bits.specs.declared.descriptor.Moment.{Moment}
use Rattle.jfs_bits.specs.declared.descriptor.Pxd.{Pxd}
use Rattle.jfs_disk.specs.Image.{page_of}
use Rattle.jfs_disk.specs.declared.disk.Fault.{Fault}
use Rattle.jfs_bmap.specs.States.{Blocks, AreReserved, is_owned, is_in_list}
use Rattle.jfs_ranges.specs.View.{AreWhole}
use Rattle.jfs_ranges.specs.declared.edit.Edit.{Edit}
use Rattle.jfs_ranges.specs.declared.view.ViewError.{ViewError}
use Rattle.jfs_ranges.specs.declared.view.ViewError.TheVariants.{Read, Memory}
use Rattle.jfs_imap.specs.Inodes.{Inodes}
use Rattle.jfs_marks.specs.data_steps.specs.After.{EachOnce}
use Rattle.jfs_marks.specs.data_steps.specs.declared.pages.DataPage.{DataPage}
use Rattle.jfs_halves.specs.crash_core.specs.Image.{pages_after}
use Rattle.jfs_pages.specs.Device.{IsFault, IsSame}
use Rattle.jfs_pages.specs.declared.dirty.Dirty.{Dirty}
use Rattle.jfs_pages.specs.Dirty.{dirty_of}
use Rattle.jfs_plain.specs.declared.call.Entry.{Entry}
use Rattle.jfs_records.specs.declared.note.Note.{Note}
use Rattle.jfs_records.specs.Limits.{IsLoggable}
use Rattle.jfs_records.specs.Records.{noted}
use Rattle.jfs_records.specs.Sizes.{entry_size}
use Rattle.jfs_marks.specs.Behind.{frees_behind}
use Rattle.jfs_marks.specs.Marking.{AreMarksOf}
use Rattle.jfs_marks.specs.Marks.{FitsMarks}
use Rattle.jfs_marks.specs.declared.marks.InodeMarks.{InodeMarks}
use Rattle.jfs_marks.specs.Notes.{notes_on}
use Rattle.jfs_marks.specs.declared.marking.Marking.TheVariants.{Fits, Unfit as Unmarked}
use Rattle.jfs_halves.specs.Entry.{Happened}
use Rattle.jfs_halves.specs.Half.{VolumeHalf}
use Rattle.jfs_halves.specs.Parts.{Parts, OfEachHalf}
use Rattle.jfs_halves.specs.Change.{Enters, SameStates, after}
use Rattle.jfs_halves.specs.Moves.{Moves}
use Rattle.jfs_volume.specs.Append.{Adds, IsWritable, entered, unreserved}
use Rattle.jfs_volume.specs.Data.{put_pages, IsPartlyPut}
use Rattle.jfs_volume.specs.Gone.{gone_freed}
use Rattle.jfs_volume.specs.Room.{has_room}
use Rattle.jfs_volume.specs.Runs.{taken_in}
use Rattle.jfs_volume.specs.Written.{writes, StopsWriting}
use Rattle.jfs_volume.specs.declared.calling.Beside.{Beside}
use Rattle.jfs_volume.specs.declared.calling.Called.{Called}
use Rattle.jfs_volume.specs.declared.calling.Called.TheVariants.{Entered, NoRoom, NoMemory, Failed, Unfit}

-- none of these pages is dirty
abbrev pub are_clean : List DataPage → List Dirty → Bool
are_clean [] dirty = true
are_clean (d ∷ ds) dirty = not (is_some (dirty_of dirty d.block)) && are_clean ds dirty

-- each of them is to go into a block of these runs, or into one that has an owner: so into no busy one
abbrev pub have_places : Blocks → List Pxd → List DataPage → Bool
have_places map taken [] = true
have_places map taken (d ∷ ds) = (is_in_list taken d.block || is_owned map d.block) && have_places map taken ds

-- It joins with its transaction, which can be logged and for which the log had room, and with the marks of that transaction; and then the volume shows the pages after data and transaction. None of the pages that are written is dirty.
pub record JoinsWith (tells : Type 0) (entry : Entry) (tx : List Edit) (put : List DataPage) (number : ℕ) (old new : Parts) : Type 0 where
  pub notes : List Note
  pub marks : InodeMarks
  pub each : length tx ≡ length notes
  pub notes_are : tells → notes ≡ notes_on (length old.map.states) (page_of old.view) tx
  pub loggable : AllByRecursion (IsLoggable (length old.map.states)) (noted tx notes)
  pub room : has_room old.text (entry_size (noted tx notes)) ≡ true
  pub marks_are : tells → AreMarksOf (length old.map.states) (page_of old.view) old.inodes tx put (Fits marks)
  -- where it frees a block that it took, it does so behind the take
  pub behind : frees_behind tx ≡ true
  -- it frees the block of each page that it gives up
  pub gone : gone_freed tx tx ≡ true
  pub adds : Adds entry (noted tx notes) marks old new
  pub number_is : number ≡ new.appended
  pub clean : are_clean put old.dirty ≡ true
  pub whole : tells → AreWhole old.blocks old.view
  pub shows : tells → new.view ≡ pages_after 0 tx (put_pages put old.view)
  pub faults : new.faults ≡ old.faults

-- the entry of a call in the history, behind the data that is written for it
abbrev pub happened : Entry → Moment → List Edit → List Note → List DataPage → Inodes → VolumeHalf → Happened
happened entry now tx notes put inodes half = entered entry now (noted tx notes) inodes (after half (writes put))

-- It joins so, and these are the changes of a half that it stands for: the data is written, and then the entry joins. What was reserved for it is no change of the half; and no block that is written is busy or dirty.
pub record IsJoined (tells crashes : Type 0) (entry : Entry) (tx : List Edit) (put : List DataPage) (number : ℕ) (old new : Parts) : Type 0 where
  pub joins : JoinsWith tells entry tx put number old new
  pub writable : IsWritable put (unreserved tx old)
  pub moves : (now : Moment) → OfEachHalf tells crashes (unreserved tx old)
      (λ seen asked half. Moves seen asked (unreserved tx old) new half (writes put ++ Enters (happened entry now tx joins.notes put new.inodes half) ∷ []))

-- It doesn't join: nothing changes but pages that were read or written, and what is reserved.
pub record JoinsNot (old new : Parts) : Type 0 where
  pub parts : new ≡ record old { view = new.view; disk = new.disk; past = new.past; faults = new.faults; map = new.map; halted = new.halted }

-- what was reserved for it is free again
pub record GivesBack (tx : List Edit) (old new : Parts) : Type 0 where
  pub reserved : AreReserved old.map (taken_in tx)
  pub joins_not : JoinsNot old new
  pub map : SameStates new.map (unreserved tx old).map

-- or it stays reserved, where memory lacks for looking at it, or where it wasn't reserved
pub record MayGiveBack (tx : List Edit) (old new : Parts) : Type 0 where
  pub joins_not : JoinsNot old new
  pub map : (AreReserved old.map (taken_in tx) × SameStates new.map (unreserved tx old).map) ⊎ SameStates new.map old.map

-- Nothing failed, so the volume goes on, and shows what it did; and nothing was written, so the disk is as it was.
pub record GoesOn (tells crashes : Type 0) (old new : Parts) : Type 0 where
  pub halted : new.halted ≡ old.halted
  pub view : tells → new.view ≡ old.view
  pub faults : new.faults ≡ old.faults
  pub disk : IsSame tells crashes old.disk new.disk old.past new.past

-- a read failed: the same, but for the count of faults
pub record StopsReading (tells crashes : Type 0) (old new : Parts) : Type 0 where
  pub halted : new.halted ≡ old.halted
  pub view : tells → new.view ≡ old.view
  pub disk : IsSame tells crashes old.disk new.disk old.past new.past

-- A write of data failed, and the volume halts: the data was put in part. Of a half that the parts stand for, once what was reserved is free again, it changes a front of the data, and then the write of the next one fails.
pub record StopsPutting (tells crashes : Type 0) (tx : List Edit) (put : List DataPage) (fault : Fault) (old new : Parts) : Type 0 where
  pub halted : new.halted ≡ Some fault
  pub view : tells → EachOnce put → IsPartlyPut put old.view new.view
  pub moves : OfEachHalf tells crashes (unreserved tx old) (λ seen asked half. StopsWriting seen asked put (unreserved tx old) new half fault)

-- a read failed, or a write of data
pub record FailsBy (tells crashes : Type 0) (tx : List Edit) (put : List DataPage) (fault : Fault) (old new : Parts) : Type 0 where
  pub is_fault : IsFault old.faults new.faults fault
  pub fails : StopsReading tells crashes old new ⊎ StopsPutting tells crashes tx put fault old new

-- the log has no room for its records, as these pages give them, with all that waits
pub record LacksRoom (tells : Type 0) (tx : List Edit) (old : Parts) : Type 0 where
  pub notes : List Note
  pub each : length tx ≡ length notes
  pub notes_are : tells → notes ≡ notes_on (length old.map.states) (page_of old.view) tx
  pub full : has_room old.text (entry_size (noted tx notes)) ≡ false

-- Of a transaction, on these pages and this inode map, what no entry of it can have: records that a log can have, frees in their order, and marks of the inode map. Of a disk that doesn't tell, no pages say which records and marks.
pub data IsUnfitBeside (tells : Type 0) (blocks : ℕ) (pages : ℕ → List ℕ) (inodes : Inodes) (tx : List Edit) (put : List DataPage) : Type 0 where
  not_logged : (tells → AllByRecursion (IsLoggable blocks) (noted tx (notes_on blocks pages tx)) → ⊥) → IsUnfitBeside tells blocks pages inodes tx put
  frees_early : frees_behind tx ≡ false → IsUnfitBeside tells blocks pages inodes tx put
  keeps_gone : gone_freed tx tx ≡ false → IsUnfitBeside tells blocks pages inodes tx put
  not_marked : (tells → AreMarksOf blocks pages inodes tx put Unmarked) → IsUnfitBeside tells blocks pages inodes tx put

-- It is none that a file call makes on a consistent volume: a block that it takes isn't reserved, a page that is written is dirty or goes into a block that it doesn't take and nobody owns, or the entry can't have what it needs.
pub data IsUnfit (tells : Type 0) (tx : List Edit) (put : List DataPage) (old : Parts) : Type 0 where
  takes_unreserved : (AreReserved old.map (taken_in tx) → ⊥) → IsUnfit tells tx put old
  puts_dirty : are_clean put old.dirty ≡ false → IsUnfit tells tx put old
  puts_astray : have_places old.map (taken_in tx) put ≡ false → IsUnfit tells tx put old
  unfit_beside : IsUnfitBeside tells (length old.map.states) (page_of old.view) old.inodes tx put → IsUnfit tells tx put old

abbrev pub CallIs : (tells crashes : Type 0) → Entry → List Edit → List DataPage → Parts → Parts → Called → Type 0
CallIs tells crashes entry tx put old new (Entered number) = IsJoined tells crashes entry tx put number old new
CallIs tells crashes entry tx put old new NoRoom = GivesBack tx old new × GoesOn tells crashes old new × LacksRoom tells tx old
CallIs tells crashes entry tx put old new NoMemory = MayGiveBack tx old new × GoesOn tells crashes old new
CallIs tells crashes entry tx put old new (Failed fault) = GivesBack tx old new × FailsBy tells crashes tx put fault old new
CallIs tells crashes entry tx put old new Unfit = MayGiveBack tx old new × GoesOn tells crashes old new × IsUnfit tells tx put old

-- ---- its steps, for the prover alone

-- it doesn't join, and what was reserved for it still is
pub record StaysOut (old new : Parts) : Type 0 where
  pub joins_not : JoinsNot old new
  pub map : SameStates new.map old.map

abbrev pub ReservedIs : (tells crashes : Type 0) → Entry → List Edit → List DataPage → Parts → Parts → Called → Type 0
ReservedIs tells crashes entry tx put old new (Entered number) = IsJoined tells crashes entry tx put number old new
ReservedIs tells crashes entry tx put old new NoRoom = StaysOut old new × GoesOn tells crashes old new × LacksRoom tells tx old
ReservedIs tells crashes entry tx put old new NoMemory = StaysOut old new × GoesOn tells crashes old new
ReservedIs tells crashes entry tx put old new (Failed fault) = StaysOut old new × FailsBy tells crashes tx put fault old (unreserved tx new)
ReservedIs tells crashes entry tx put old new Unfit = StaysOut old new × GoesOn tells crashes old new × IsUnfit tells tx put old

-- pages were read, and nothing else changes
pub record IsRead (tells crashes : Type 0) (old new : Parts) : Type 0 where
  pub parts : new ≡ record old { view = new.view; disk = new.disk; past = new.past; faults = new.faults }
  pub view : tells → new.view ≡ old.view
  pub disk : IsSame tells crashes old.disk new.disk old.past new.past

-- why a read leaves none
abbrev pub called_of : ViewError → Called
called_of (Read fault) = Failed fault
called_of Memory = NoMemory

-- no entry joins, the count rises with a fault alone, and what is unfit has this cause
abbrev pub IsErrorOf : Type 0 → ℕ → ℕ → Called → Type 0
IsErrorOf unfit before now (Entered number) = ⊥
IsErrorOf unfit before now NoRoom = ⊥
IsErrorOf unfit before now NoMemory = now ≡ before
IsErrorOf unfit before now (Failed fault) = IsFault before now fault
IsErrorOf unfit before now Unfit = (now ≡ before) × unfit

abbrev pub NotesOf : (tells : Type 0) → ℕ → (ℕ → List ℕ) → List Edit → ℕ → ℕ → Result (List Note) Called → Type 0
NotesOf tells blocks pages tx before now (Ok notes) = (now ≡ before) × (length tx ≡ length notes) × (tells → notes ≡ notes_on blocks pages tx)
NotesOf tells blocks pages tx before now (Err called) = IsErrorOf ⊥ before now called

pub record AreFit (tells : Type 0) (blocks : ℕ) (pages : ℕ → List ℕ) (inodes : Inodes) (tx : List Edit) (put : List DataPage) (marks : InodeMarks) : Type 0 where
  pub fits : FitsMarks inodes marks
  pub are : tells → AreMarksOf blocks pages inodes tx put (Fits marks)

abbrev pub MarksOf : (tells : Type 0) → ℕ → (ℕ → List ℕ) → Inodes → List Edit → List DataPage → ℕ → ℕ → Result InodeMarks Called → Type 0
MarksOf tells blocks pages inodes tx put before now (Ok marks) = (now ≡ before) × AreFit tells blocks pages inodes tx put marks
MarksOf tells blocks pages inodes tx put before now (Err called) = IsErrorOf (tells → AreMarksOf blocks pages inodes tx put Unmarked) before now called

pub record FitsBeside (tells : Type 0) (blocks : ℕ) (pages : ℕ → List ℕ) (inodes : Inodes) (tx : List Edit) (put : List DataPage) (beside : Beside) : Type 0 where
  pub each : length tx ≡ length beside.notes
  pub notes_are : tells → beside.notes ≡ notes_on blocks pages tx
  pub loggable : AllByRecursion (IsLoggable blocks) (noted tx beside.notes)
  pub behind : frees_behind tx ≡ true
  pub gone : gone_freed tx tx ≡ true
  pub marks : AreFit tells blocks pages inodes tx put beside.marks

abbrev pub BesideOf : (tells : Type 0) → ℕ → (ℕ → List ℕ) → Inodes → List Edit → List DataPage → ℕ → ℕ → Result Beside Called → Type 0
BesideOf tells blocks pages inodes tx put before now (Ok beside) = (now ≡ before) × FitsBeside tells blocks pages inodes tx put beside
BesideOf tells blocks pages inodes tx put before now (Err called) = IsErrorOf (IsUnfitBeside tells blocks pages inodes tx put) before now called
