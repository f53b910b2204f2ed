-- An entry with a transaction joins.
use Rattle.std.specs.Prelude.{◌≡◌, ◌≤◌, ◌∷◌, ◌++◌, ◌+◌, [], ℕ, suc, Bool, true, false, List, length, Some, None}
use Rattle.jfs_bits.specs.declared.descriptor.Moment.{Moment}
use Rattle.jfs_disk.specs.declared.disk.Fault.{Fault}
use Rattle.jfs_ranges.specs.declared.edit.Edit.{Edit}
use Rattle.jfs_ranges.specs.Apply.{touches_tx}
use Rattle.jfs_bmap.specs.States.{Free, put_state, state_of, is_busy_state}
use Rattle.jfs_imap.specs.Inodes.{Inodes}
use Rattle.jfs_plain.specs.declared.call.Entry.{Entry}
use Rattle.jfs_halves.specs.crash_core.specs.Image.{pages_after}
use Rattle.jfs_records.specs.Records.{Noted, tx_of}
use Rattle.jfs_records.specs.Entries.{entry as item_of, item_records}
use Rattle.jfs_logpages.specs.Records.{log_text, ends_of}
use Rattle.jfs_logpages.specs.Ring.{ends_with}
use Rattle.jfs_halves.specs.Entry.{Happened}
use Rattle.jfs_halves.specs.Marks.{map_after}
use Rattle.jfs_halves.specs.Half.{VolumeHalf}
use Rattle.jfs_halves.specs.Parts.{Parts, Text}
use Rattle.jfs_halves.specs.Change.{Enters, SameStates, after}
use Rattle.jfs_halves.specs.Moves.{Moves}
use Rattle.jfs_pages.specs.Device.{IsFault, IsSame}
use Rattle.jfs_pages.specs.Dirty.{dirty_of, touched_by}
use Rattle.jfs_volume.specs.Runs.{taken_in, freed_in, pages_freed}
use Rattle.jfs_marks.specs.data_steps.specs.After.{EachOnce, is_put}
use Rattle.jfs_marks.specs.data_steps.specs.declared.pages.DataPage.{DataPage}
use Rattle.jfs_volume.specs.Written.{writes, StopsWriting}
use Rattle.jfs_volume.specs.Data.{put_pages, IsPartlyPut}
use Rattle.jfs_volume.specs.Stale.{stale_after}
use Rattle.jfs_marks.specs.Marks.{AreMarked}
use Rattle.jfs_marks.specs.declared.marks.InodeMarks.{InodeMarks}
use Rattle.jfs_logfmt.specs.declared.log_record.Record.{Record}
use Rattle.jfs_volume.specs.declared.draft.Draft.{Draft}
use Rattle.jfs_volume.specs.declared.joined.Joined.{Joined}
use Rattle.jfs_volume.specs.declared.joined.Joined.TheVariants.{Entered, NoRoom, NoMemory, Unread, Failed}

-- a call of a client that is answered, with its transaction and with what it leaves: it has a COMMIT in the log, also where no byte changes
abbrev pub entered : Entry → Moment → List Noted → Inodes → VolumeHalf → Happened
entered entry now noted inodes half = record {
  client = entry.client;
  line = entry.line;
  call = entry.call;
  lazy = entry.lazy;
  now = now;
  reply = entry.reply;
  noted = noted;
  logs = true;
  after = record {
    pages = pages_after 0 (tx_of noted) half.shown.pages;
    map = map_after (suc (length half.history)) (tx_of noted) half.shown.map;
    inodes = inodes;
  };
}

-- blocks that are to be written aren't busy, and no entry holds changes of them in memory
abbrev pub IsWritable : List DataPage → Parts → Type 0
IsWritable pages p = (b : ℕ) → is_put b pages ≡ true → (dirty_of p.dirty b ≡ None) × (is_busy_state (state_of p.map b) ≡ false)

-- the parts before blocks were reserved for a transaction: those that it takes are free
abbrev pub unreserved : List Edit → Parts → Parts
unreserved tx p = record p { map = put_state Free (taken_in tx) p.map }

-- the text with the records of entry n behind it
abbrev pub text_with : ℕ → List Noted → Text → Text
text_with n noted text = let rs = item_records text.ring (text.place + length text.bytes) (item_of n noted) in record text {
  bytes = text.bytes ++ log_text rs;
  ends = ends_with (length text.bytes) text.ends (ends_of 0 rs);
  last = n;
}

-- where its records will stand
abbrev pub entry_records : List Noted → Parts → List Record
entry_records noted p = item_records p.text.ring (p.text.place + length p.text.bytes) (item_of (p.appended + 1) noted)

-- what the next entry adds is made
pub record IsDraft (noted : List Noted) (p : Parts) (draft : Draft) : Type 0 where
  pub bytes : draft.text.bytes.items ≡ log_text (entry_records noted p)
  pub ends : draft.text.ends.items ≡ ends_of 0 (entry_records noted p)
  pub last : draft.text.last ≡ p.appended + 1
  pub pages : draft.pages.items ≡ pages_freed (p.appended + 1) (tx_of noted)
  pub taken : draft.taken ≡ taken_in (tx_of noted)
  pub freed : draft.freed ≡ freed_in (tx_of noted)

-- it has a transaction's runs and the pages that it frees, and the map has memory for those that go
pub record HasRuns (tx : List Edit) (p : Parts) (draft : Draft) : Type 0 where
  pub taken : draft.taken ≡ taken_in tx
  pub freed : draft.freed ≡ freed_in tx
  pub spare : length draft.freed ≤ p.map.spare
  pub last : draft.text.last ≡ p.appended + 1
  pub pages : draft.pages.items ≡ pages_freed (p.appended + 1) tx

-- What an entry adds, also where the disk tells nothing.
pub record Adds (entry : Entry) (noted : List Noted) (marks : InodeMarks) (old new : Parts) : Type 0 where
  pub parts : new ≡ record old {
    view = new.view;
    dirty = new.dirty;
    disk = new.disk;
    past = new.past;
    faults = new.faults;
    map = new.map;
    inodes = new.inodes;
    files = stale_after (taken_in (tx_of noted)) (freed_in (tx_of noted)) marks old.files;
    appended = old.appended + 1;
    entries = old.entries ++ entry ∷ [];
    text = text_with (old.appended + 1) noted old.text;
    freed = old.freed ++ pages_freed (old.appended + 1) (tx_of noted);
  }
  pub dirty : (q : ℕ) → dirty_of new.dirty q ≡ touched_by (touches_tx q (tx_of noted)) q (old.appended + 1) (dirty_of old.dirty q)
  pub map : SameStates new.map (map_after (old.appended + 1) (tx_of noted) (put_state Free (taken_in (tx_of noted)) old.map))
  pub inodes : AreMarked old.inodes marks new.inodes

abbrev pub AddsEntry : Entry → List Noted → InodeMarks → Parts → Parts → Joined → Type 0
AddsEntry entry noted marks old new (Entered number) = Adds entry noted marks old new × (number ≡ old.appended + 1)
AddsEntry entry noted marks old new NoRoom = Unit {0}
AddsEntry entry noted marks old new NoMemory = Unit {0}
AddsEntry entry noted marks old new (Unread fault) = Unit {0}
AddsEntry entry noted marks old new (Failed fault) = Unit {0}

-- The data is written, and then the entry joins, and its number is told; or nothing changes; or the write of a block failed. What was reserved for it is no change of the half.
abbrev pub Appends : (seen asked : Bool) → Entry → Moment → List Noted → List DataPage → Parts → Parts → VolumeHalf → Joined → Type 0
Appends seen asked entry now noted pages old new half (Entered number) =
    Moves seen asked (unreserved (tx_of noted) old) new half (writes pages ++ Enters (entered entry now noted new.inodes (after half (writes pages))) ∷ []) × (number ≡ suc (length half.history))
Appends seen asked entry now noted pages old new half NoRoom = Moves seen asked (unreserved (tx_of noted) old) (unreserved (tx_of noted) new) half []
Appends seen asked entry now noted pages old new half NoMemory = Moves seen asked (unreserved (tx_of noted) old) (unreserved (tx_of noted) new) half []
Appends seen asked entry now noted pages old new half (Unread fault) = Moves seen asked (unreserved (tx_of noted) old) (unreserved (tx_of noted) new) half []
Appends seen asked entry now noted pages old new half (Failed fault) = StopsWriting seen asked pages (unreserved (tx_of noted) old) (unreserved (tx_of noted) new) half fault

-- What the volume shows then: its pages after the data and the transaction; or with the data put in part, where the write of a block failed.
abbrev pub ShowsEntry : List DataPage → List Edit → Parts → Parts → Joined → Type 0
ShowsEntry pages tx old new (Entered number) = new.view ≡ pages_after 0 tx (put_pages pages old.view)
ShowsEntry pages tx old new NoRoom = new.view ≡ old.view
ShowsEntry pages tx old new NoMemory = new.view ≡ old.view
ShowsEntry pages tx old new (Unread fault) = new.view ≡ old.view
ShowsEntry pages tx old new (Failed fault) = EachOnce pages → IsPartlyPut pages old.view new.view

-- the parts stay as they were, but for pages that were read and memory for the map
pub record Stays (old new : Parts) : Type 0 where
  pub parts : new ≡ record old { view = new.view; disk = new.disk; past = new.past; faults = new.faults; map = new.map }
  pub map : SameStates new.map old.map

-- the parts stay as they were, but for memory for the map
pub record KeepsStates (old new : Parts) : Type 0 where
  pub parts : new ≡ record old { map = new.map }
  pub map : SameStates new.map old.map

-- The parts stay as they were, but for pages that were read or written, and memory for the map; and the volume has halted at this fault.
pub record Fails (fault : Fault) (old new : Parts) : Type 0 where
  pub parts : new ≡ record old { view = new.view; disk = new.disk; past = new.past; faults = new.faults; map = new.map; halted = Some fault }
  pub map : SameStates new.map old.map

-- they stay so, and the disk is as it was
pub record StaysAll (tells crashes : Type 0) (old new : Parts) : Type 0 where
  pub stays : Stays old new
  pub disk : IsSame tells crashes old.disk new.disk old.past new.past

-- where the entry didn't join
abbrev pub StaysUnless : (tells crashes : Type 0) → Joined → Parts → Parts → Type 0
StaysUnless tells crashes (Entered number) old new = Unit {0}
StaysUnless tells crashes NoRoom old new = new ≡ old
StaysUnless tells crashes NoMemory old new = StaysAll tells crashes old new
StaysUnless tells crashes (Unread fault) old new = StaysAll tells crashes old new
StaysUnless tells crashes (Failed fault) old new = Fails fault old new

-- No room is told exactly where the log has none.
abbrev pub TellsRoom : Bool → Joined → Type 0
TellsRoom room (Entered number) = room ≡ true
TellsRoom room NoRoom = room ≡ false
TellsRoom room NoMemory = room ≡ true
TellsRoom room (Unread fault) = room ≡ true
TellsRoom room (Failed fault) = room ≡ true

-- the count of faults rises alone with a page that can't be read, or a block that can't be written
abbrev pub TellsFault : ℕ → ℕ → Joined → Type 0
TellsFault before now (Entered number) = now ≡ before
TellsFault before now NoRoom = now ≡ before
TellsFault before now NoMemory = now ≡ before
TellsFault before now (Unread fault) = IsFault before now fault
TellsFault before now (Failed fault) = IsFault before now fault
