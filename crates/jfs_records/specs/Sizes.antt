-- How much text a transaction takes in the log.
use Rattle.std.specs.Prelude.{ℕ, ◌+◌, ◌*◌, List, [], ◌∷◌, length}
use Rattle.jfs_ranges.specs.declared.edit.Edit.{Edit}
use Rattle.jfs_ranges.specs.declared.edit.Edit.TheVariants.{Lines, NoRedo, Alloc, Free}
use Rattle.jfs_records.specs.Records.{Noted, records_of, tx_of}

-- the bytes that an edit has in its record's data: its lines, and 4 that say where they stand; or 8 for a run of blocks
abbrev pub edit_bytes : Edit → ℕ
edit_bytes (Lines page kind first bytes) = length bytes + 4
edit_bytes (NoRedo page) = 0
edit_bytes (Alloc run) = 8
edit_bytes (Free run) = 8

abbrev pub bytes_of : List Edit → ℕ
bytes_of [] = 0
bytes_of (e ∷ es) = edit_bytes e + bytes_of es

-- the number of a transaction's records
abbrev pub count_of : List Noted → ℕ
count_of tx = length (records_of tx)

-- the data, and 36 bytes for each record and for the COMMIT
abbrev pub entry_size : List Noted → ℕ
entry_size tx = bytes_of (tx_of tx) + 36 * count_of tx + 36
