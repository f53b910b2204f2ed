-- For the prover: a transaction's records, while its edits are gone through.
use Rattle.std.specs.Prelude.{◌≡◌, ◌<◌, ℕ, ◌+◌, ◌-◌, ◌*◌, ◌^◌, min, List, [], ◌∷◌, ◌++◌, length}
use Rattle.jfs_ranges.specs.declared.edit.Edit.{Edit}
use Rattle.jfs_logfmt.specs.declared.log_record.Record.{Record}
use Rattle.jfs_logfmt.specs.Written.{body_text}
use Rattle.jfs_records.specs.declared.note.Note.{Note}
use Rattle.jfs_records.specs.Records.{record_for, is_alike, grouped}

-- the bytes of records' data
abbrev pub data_of : List Record → ℕ
data_of [] = 0
data_of (r ∷ rs) = length (body_text r) + data_of rs

-- a record that began with this edit: others join it as they join that edit's, and its data has so many bytes
pub record IsOpen (first : Edit) (owner : Note) (bytes : ℕ) (r : Record) : Type 0 where
  pub alike : (s : Record) → is_alike r s ≡ is_alike (record_for owner first) s
  pub bytes_are : bytes ≡ min (length (body_text r)) (2 ^ 64 - 1)

-- the size so far, where the last record is open and these records of edits are to come
pub record IsMeasured (first : Edit) (owner : Note) (bytes size : ℕ) (rest : List Record) (whole : ℕ) : Type 0 where
  pub r : Record
  pub open_record : IsOpen first owner bytes r
  pub sum : min (size + (data_of rest + 36 * (length (grouped r rest) - 1))) (2 ^ 64 - 1) ≡ min whole (2 ^ 64 - 1)
  pub fits : size < 2 ^ 64

-- the records so far, of which the last is open, where these records of edits are to come
pub record IsGrouped (first : Edit) (owner : Note) (bytes : ℕ) (closed : List Record) (last : Record) (rest whole : List Record) : Type 0 where
  pub open_record : IsOpen first owner bytes last
  pub list : closed ++ grouped last rest ≡ whole
