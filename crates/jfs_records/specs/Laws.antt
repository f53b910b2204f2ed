-- What holds of the text of entries.
use Rattle.std.specs.Prelude.{◌≡◌, ◌≤◌, ◌<◌, ◌+◌, ◌*◌, ◌^◌, ℕ, ⊤, Bool, List, ◌∷◌, ◌-◌, ◌/◌, ◌++◌, length, map, take}
use Rattle.std.specs.List.{AllByRecursion}
use Rattle.jfs_bits.specs.declared.descriptor.Pxd.{Pxd}
use Rattle.jfs_ranges.specs.declared.edit.Edit.{Edit}
use Rattle.jfs_ranges.specs.declared.edit.Edit.TheVariants.{Free}
use Rattle.jfs_logpages.specs.Back.{Met, FromSync}
use Rattle.jfs_records.specs.Entries.{Item, entry, point, log_records, item_size, text_size}
use Rattle.jfs_records.specs.Limits.{CanLog, IsLoggable, ItemsFit}
use Rattle.jfs_records.specs.Records.{Noted, records_of}
use Rattle.jfs_records.specs.Redo.{HasCells}
use Rattle.jfs_records.specs.Sizes.{bytes_of, count_of, entry_size}
use Rattle.jfs_records.specs.declared.note.Note.{Note}
use Rattle.jfs_logpages.specs.Records.{log_text, ends_of, AreWhole, BeginsAt}
use Rattle.jfs_disk.specs.Image.{Image}
use Rattle.jfs_logpages.specs.Ring.{Reads, ReadsPrefix}
use Rattle.jfs_logfmt.specs.declared.log_record.Record.{Record}
use Rattle.jfs_records.specs.Committed.{committed, entries_of}

-- ---- sizes

-- The text of an entry has so many bytes, wherever it stands. The bytes of edits add up, and the number of records is at most the sum: so the
-- bounds of parts give a bound of the whole.
abbrev pub SizesAddUp : Type 0
SizesAddUp =
    ((number : ℕ) (tx : List Noted) → item_size (entry number tx) ≡ entry_size tx)
    × ((tx more : List Edit) → bytes_of (tx ++ more) ≡ bytes_of tx + bytes_of more)
    × ((tx more : List Noted) → count_of (tx ++ more) ≤ count_of tx + count_of more)

-- runs of one object that are freed one after the other take a record for each 8,191 of them
abbrev pub freed : Note → Pxd → Noted
freed note run = record { edit = Free run; note = note }

abbrev pub RunsShareRecords : Type 0
RunsShareRecords = (note : Note) (runs : List Pxd) → 8191 * count_of (map (freed note) runs) ≤ 8190 + length runs

-- ---- reading back

-- what can be logged gives records that break no rule, and are read back as they are written
abbrev pub LoggedAreWhole : Type 0
LoggedAreWhole = (blocks : ℕ) → blocks ≤ 2 ^ 23 →
    ((tx : List Noted) → AllByRecursion (IsLoggable blocks) tx → AreWhole blocks (records_of tx))
    × ((ring at : ℕ) (is : List Item) → 0 < ring → ring < 2 ^ 16 → ItemsFit blocks is → AreWhole blocks (log_records ring at is))

-- The committed transactions of the records of entries are those of the entries, in order, wherever the text stands; and of a front of the records those of a front of the entries.
abbrev pub EntriesAreReadBack : Type 0
EntriesAreReadBack = (ring at : ℕ) (is : List Item) →
    (committed (log_records ring at is) ≡ entries_of is)
    × (length (log_text (log_records ring at is)) ≡ text_size is)
    × ((k : ℕ) → (n : ℕ) × (n ≤ length (entries_of is)) × (committed (take k (log_records ring at is)) ≡ take n (entries_of is)))

-- what a reading found: the records from the place on that the newest SYNCPT gives say so many of the first entries
pub record FindsEntries (ring first blocks : ℕ) (text : List ℕ) (is : List Item) : Type 0 where
  pub m : Met
  pub ms : List Met
  pub found : FromSync ring first blocks text m ms
  pub number : ℕ
  pub most : number ≤ length (entries_of is)
  pub are : committed (map (λ x. x.is) (m ∷ ms)) ≡ take number (entries_of is)

-- A window of the ring that ends with a front of the records of items, the first of which is where redo begins: it breaks no rule, and is read as a front of the entries.
abbrev pub FrontsAreRead : Type 0
FrontsAreRead = (ring first blocks k : ℕ) (front : List ℕ) (is : List Item) → 0 < ring → ring < 2 ^ 16 → blocks ≤ 2 ^ 23 → ItemsFit blocks is →
    BeginsAt ring (4080 * first + length front) (take k (log_records ring (4080 * first + length front) is)) →
    FindsEntries ring first blocks (front ++ log_text (take k (log_records ring (4080 * first + length front) is))) is

-- ---- a crash while a group is written

-- Where redo begins among the records of items, of which the last ones may be cut off: behind some of the items, whose records are all there.
pub record BeginsWithin (ring at : ℕ) (rs : List Record) (items : List Item) : Type 0 where
  pub pre : List Item
  pub post : List Item
  pub parts : items ≡ pre ++ post
  pub some : ℕ
  pub are : rs ≡ log_records ring at pre ++ take some (log_records ring (at + text_size pre) post)
  pub begins : BeginsAt ring (at + text_size pre) (take some (log_records ring (at + text_size pre) post))

-- The ring reads as a text whose records from the newest SYNCPT's address on say so many of the entries behind that address;
-- together with those before it these are all entries that were written whole, and so many of the group's.
pub record FindsFront (ring blocks : ℕ) (log : Image) (is js : List Item) : Type 0 where
  pub first : ℕ
  pub text : List ℕ
  pub reads : Reads ring log first text
  pub m : Met
  pub ms : List Met
  pub found : FromSync ring first blocks text m ms
  pub pre : List Item
  pub post : List Item
  pub parts : is ++ js ≡ pre ++ post
  pub number : ℕ
  pub are : committed (map (λ x. x.is) (m ∷ ms)) ≡ take number (entries_of post)
  pub new : ℕ
  pub most : new ≤ length (entries_of js)
  pub all : entries_of pre ++ take number (entries_of post) ≡ entries_of is ++ take new (entries_of js)

-- At each moment while a group is written behind items: redo finds all entries of these that its SYNCPT doesn't spare it, and a front of the group's.
abbrev pub CrashesFindFronts : Type 0
CrashesFindFronts = (ring blocks high : ℕ) (log : Image) (front : List ℕ) (is js : List Item) → 0 < ring → ring < 2 ^ 16 → blocks ≤ 2 ^ 23 → ItemsFit blocks (is ++ js) →
    4080 * (high + 1 - ring / 2) ≤ length front →
    ((k : ℕ) → BeginsWithin ring (length front) (log_records ring (length front) is ++ take k (log_records ring (length front + text_size is) js)) (is ++ js)) →
    ReadsPrefix ring (front ++ log_text (log_records ring (length front) is)) (log_text (log_records ring (length front + text_size is) js)) (ends_of 0 (log_records ring (length front + text_size is) js)) high log →
    FindsFront ring blocks log is js

-- a SYNCPT that gives itself
abbrev pub IsOwn : Item → Type 0
IsOwn (entry number tx) = ⊤
IsOwn (point sync) = sync ≡ 0

-- where the first item is a SYNCPT and each gives itself, redo begins within the items, however many of the group's records there are
abbrev pub OwnPointsBegin : Type 0
OwnPointsBegin = (ring at : ℕ) (is js : List Item) → AllByRecursion IsOwn ((point 0 ∷ is) ++ js) → (k : ℕ)
    → BeginsWithin ring at (log_records ring at (point 0 ∷ is) ++ take k (log_records ring (at + text_size (point 0 ∷ is)) js)) ((point 0 ∷ is) ++ js)

-- what can be logged has whole cells
abbrev pub LoggedHaveCells : Type 0
LoggedHaveCells = (blocks : ℕ) (new_page : Bool) (e : Edit) → CanLog blocks new_page e → HasCells e
