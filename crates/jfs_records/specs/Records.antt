-- The records of a transaction, before they have the number of their entry and addresses.
use Rattle.std.specs.Prelude.{ℕ, ◌+◌, ◌^◌, ◌==◌, ◌&&◌, nat_lt, Bool, true, false, List, [], ◌∷◌, ◌++◌, length, map, if◌then◌else◌}
use Rattle.jfs_bits.specs.declared.descriptor.Pxd.{Pxd}
use Rattle.jfs_bits.specs.declared.list.LineRange.{LineRange}
use Rattle.jfs_ranges.specs.declared.edit.Edit.{Edit}
use Rattle.jfs_ranges.specs.declared.edit.Edit.TheVariants.{Lines, NoRedo, Alloc, Free}
use Rattle.jfs_logfmt.specs.declared.log_record.Record.{Record}
use Rattle.jfs_logfmt.specs.declared.log_record.Record.TheVariants as records
use Rattle.jfs_logfmt.specs.Kinds.{page_number, page_type, page_blocks, map_number}
use Rattle.jfs_logfmt.specs.Written.{body_text}
use Rattle.jfs_records.specs.declared.note.Note.{Note}

-- an edit, and what its record names beside it
pub record Noted : Type 0 where
  pub edit : Edit
  pub note : Note

-- edits with their notes
abbrev pub noted : List Edit → List Note → List Noted
noted [] notes = []
noted (e ∷ es) [] = []
noted (e ∷ es) (n ∷ ns) = record { edit = e; note = n } ∷ noted es ns

-- the plain edits, as the history has them
abbrev pub tx_of : List Noted → List Edit
tx_of tx = map (λ (n : Noted). n.edit) tx

-- the record of one edit
abbrev pub record_for : Note → Edit → Record
record_for note (Lines page kind first bytes) =
    records.Redo 0 0 note.fileset note.inode kind note.new_page (record { len = page_blocks (page_type kind note.new_page); addr = page }) (record { first = first; bytes = bytes } ∷ [])
record_for note (NoRedo page) = records.NoRedo 0 0 note.fileset note.inode note.kind (record { len = 1; addr = page })
record_for note (Alloc at) = records.Update 0 0 note.fileset note.inode true (at ∷ [])
record_for note (Free at) = records.Update 0 0 note.fileset note.inode false (at ∷ [])

abbrev pub record_of : Noted → Record
record_of n = record_for n.note n.edit

-- ---- records of the same page, or of the same map, become one as long as its data has fewer than 2 ^ 16 bytes

abbrev pub ranges_in : Record → List LineRange
ranges_in (records.Redo _ _ _ _ _ _ _ ranges) = ranges
ranges_in (records.NoRedo _ _ _ _ _ _) = []
ranges_in (records.Update _ _ _ _ _ _) = []
ranges_in (records.Commit _ _) = []
ranges_in (records.SyncPt _) = []

abbrev pub list_in : Record → List Pxd
list_in (records.Redo _ _ _ _ _ _ _ _) = []
list_in (records.NoRedo _ _ _ _ _ _) = []
list_in (records.Update _ _ _ _ _ list) = list
list_in (records.Commit _ _) = []
list_in (records.SyncPt _) = []

-- the same page, of one block, with the same owner
abbrev pub is_page_of : ℕ → ℕ → ℕ → Pxd → Record → Bool
is_page_of fileset inode number at (records.Redo _ _ fileset' inode' kind' new' at' _) =
    fileset == fileset' && (inode == inode' && (number == page_number (page_type kind' new') && (at.len == 1 && (at'.len == 1 && at.addr == at'.addr))))
is_page_of fileset inode number at (records.NoRedo _ _ _ _ _ _) = false
is_page_of fileset inode number at (records.Update _ _ _ _ _ _) = false
is_page_of fileset inode number at (records.Commit _ _) = false
is_page_of fileset inode number at (records.SyncPt _) = false

abbrev pub is_map_of : ℕ → ℕ → Bool → Record → Bool
is_map_of fileset inode alloc (records.Redo _ _ _ _ _ _ _ _) = false
is_map_of fileset inode alloc (records.NoRedo _ _ _ _ _ _) = false
is_map_of fileset inode alloc (records.Update _ _ fileset' inode' alloc' _) = fileset == fileset' && (inode == inode' && map_number alloc == map_number alloc')
is_map_of fileset inode alloc (records.Commit _ _) = false
is_map_of fileset inode alloc (records.SyncPt _) = false

abbrev pub is_alike : Record → Record → Bool
is_alike (records.Redo _ _ fileset inode kind new_page at _) s = is_page_of fileset inode (page_number (page_type kind new_page)) at s
is_alike (records.NoRedo _ _ _ _ _ _) s = false
is_alike (records.Update _ _ fileset inode alloc _) s = is_map_of fileset inode alloc s
is_alike (records.Commit _ _) s = false
is_alike (records.SyncPt _) s = false

-- data of both in one record
abbrev pub joins : Record → Record → Bool
joins r s = nat_lt (length (body_text r) + length (body_text s)) (2 ^ 16) && is_alike r s

abbrev pub join : Record → Record → Record
join (records.Redo tid back fileset inode kind new_page at ranges) s = records.Redo tid back fileset inode kind new_page at (ranges ++ ranges_in s)
join (records.NoRedo tid back fileset inode kind at) s = records.NoRedo tid back fileset inode kind at
join (records.Update tid back fileset inode alloc list) s = records.Update tid back fileset inode alloc (list ++ list_in s)
join (records.Commit tid back) s = records.Commit tid back
join (records.SyncPt sync) s = records.SyncPt sync

-- from the front, each takes of the next ones what it can; the order stays
abbrev pub grouped : Record → List Record → List Record
grouped r [] = r ∷ []
grouped r (s ∷ ss) = if joins r s then grouped (join r s) ss else r ∷ grouped s ss

abbrev pub gathered : List Record → List Record
gathered [] = []
gathered (r ∷ rs) = grouped r rs

abbrev pub records_of : List Noted → List Record
records_of tx = gathered (map record_of tx)
