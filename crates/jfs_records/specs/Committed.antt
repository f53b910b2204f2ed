-- What records say that a redo does.
use Rattle.std.specs.Prelude.{ℕ, Bool, true, false, List, [], ◌∷◌, ◌++◌, map, if◌then◌else◌}
use Rattle.jfs_bits.specs.declared.descriptor.Pxd.{Pxd}
use Rattle.jfs_bits.specs.declared.list.LineRange.{LineRange}
use Rattle.jfs_bits.specs.declared.rule.PageKind.{PageKind}
use Rattle.jfs_ranges.specs.declared.edit.Edit.{Edit}
use Rattle.jfs_ranges.specs.declared.edit.Edit.TheVariants.{Lines, NoRedo, Alloc, Free}
use Rattle.jfs_logfmt.specs.declared.log_record.Record.{Record}
use Rattle.jfs_logfmt.specs.declared.log_record.Record.TheVariants as records
use Rattle.jfs_records.specs.Records.{tx_of}
use Rattle.jfs_records.specs.Entries.{Item, entry, point}

abbrev pub lines_of : ℕ → PageKind → LineRange → Edit
lines_of page kind r = Lines page kind r.first r.bytes

abbrev pub marks_of : Bool → Pxd → Edit
marks_of true at = Alloc at
marks_of false at = Free at

-- the edits of a record, in order
abbrev pub edits_of : Record → List Edit
edits_of (records.Redo tid back fileset inode kind new_page at ranges) = map (lines_of at.addr kind) ranges
edits_of (records.NoRedo tid back fileset inode kind at) = NoRedo at.addr ∷ []
edits_of (records.Update tid back fileset inode alloc list) = map (marks_of alloc) list
edits_of (records.Commit tid back) = []
edits_of (records.SyncPt sync) = []

abbrev pub all_edits : List Record → List Edit
all_edits [] = []
all_edits (r ∷ rs) = edits_of r ++ all_edits rs

abbrev pub is_commit : Record → Bool
is_commit (records.Redo _ _ _ _ _ _ _ _) = false
is_commit (records.NoRedo _ _ _ _ _ _) = false
is_commit (records.Update _ _ _ _ _ _) = false
is_commit (records.Commit _ _) = true
is_commit (records.SyncPt _) = false

-- The committed transactions of records, the oldest first; `begun` are the edits since the last COMMIT. What no COMMIT ends is none.
abbrev pub transactions : List Edit → List Record → List (List Edit)
transactions begun [] = []
transactions begun (r ∷ rs) = if is_commit r then begun ∷ transactions [] rs else transactions (begun ++ edits_of r) rs

abbrev pub committed : List Record → List (List Edit)
committed rs = transactions [] rs

-- the transactions that stand in the log, as the history has them
abbrev pub entries_of : List Item → List (List Edit)
entries_of [] = []
entries_of (entry tid tx ∷ is) = tx_of tx ∷ entries_of is
entries_of (point sync ∷ is) = entries_of is
