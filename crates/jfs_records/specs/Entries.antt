-- The records of entries, from a position of the log on: how many bytes stand before, counted from page number 0 of the ring on. An address follows from it.
use Rattle.std.specs.Prelude.{ℕ, ◌+◌, List, [], ◌∷◌, ◌++◌}
use Rattle.jfs_logfmt.specs.declared.log_record.Record.{Record}
use Rattle.jfs_logfmt.specs.declared.log_record.Record.TheVariants as records
use Rattle.jfs_logpages.specs.Back.{address_at}
use Rattle.jfs_logpages.specs.Records.{size_of, sizes_of}
use Rattle.jfs_records.specs.Records.{Noted, records_of}

-- a record of this entry, and the address of the one before it
abbrev pub stamped : ℕ → ℕ → Record → Record
stamped tid back (records.Redo _ _ fileset inode kind new_page at ranges) = records.Redo tid back fileset inode kind new_page at ranges
stamped tid back (records.NoRedo _ _ fileset inode kind at) = records.NoRedo tid back fileset inode kind at
stamped tid back (records.Update _ _ fileset inode alloc list) = records.Update tid back fileset inode alloc list
stamped tid back (records.Commit _ _) = records.Commit tid back
stamped tid back (records.SyncPt sync) = records.SyncPt sync

-- records of one entry from a place on, the COMMIT last
abbrev pub chained : ℕ → ℕ → ℕ → ℕ → List Record → List Record
chained ring tid back at [] = records.Commit tid back ∷ []
chained ring tid back at (r ∷ rs) = stamped tid back r ∷ chained ring tid (address_at ring 0 (at + size_of r)) (at + size_of r) rs

-- what stands in the log: an entry with its number, or a SYNCPT
pub data Item : Type 0 where
  entry : ℕ → List Noted → Item
  point : ℕ → Item

abbrev pub item_records : ℕ → ℕ → Item → List Record
item_records ring at (entry tid tx) = chained ring tid 0 at (records_of tx)
item_records ring at (point sync) = records.SyncPt sync ∷ []

abbrev pub item_size : Item → ℕ
item_size (entry tid tx) = sizes_of (records_of tx) + 36
item_size (point sync) = 36

abbrev pub text_size : List Item → ℕ
text_size [] = 0
text_size (i ∷ is) = item_size i + text_size is

abbrev pub log_records : ℕ → ℕ → List Item → List Record
log_records ring at [] = []
log_records ring at (i ∷ is) = item_records ring at i ++ log_records ring (at + item_size i) is
