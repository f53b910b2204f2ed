-- Which bytes spell which record. (JFS Log.)
use Rattle.std.specs.Prelude.{◌≡◌, ℕ, zero, suc, ◌+◌, ◌*◌, List, [], ◌∷◌, ◌++◌, length, false}
use Rattle.jfs_bits.specs.declared.descriptor.Pxd.{Pxd}
use Rattle.jfs_bits.specs.declared.list.LineRange.{LineRange}
use Rattle.jfs_bits.specs.Field.{field_of}
use Rattle.jfs_bits.specs.Descriptor.{pxd_of}
use Rattle.jfs_logfmt.specs.declared.descriptor.Descriptor.{Descriptor}
use Rattle.jfs_logfmt.specs.declared.kind.RecordType.{RecordType}
use Rattle.jfs_logfmt.specs.declared.kind.RecordType.TheVariants as types
use Rattle.jfs_logfmt.specs.declared.log_record.Record.{Record}
use Rattle.jfs_logfmt.specs.declared.log_record.Record.TheVariants as records
use Rattle.jfs_logfmt.specs.Kinds.{type_number, page_number, page_type, map_number}
use Rattle.jfs_bits.specs.Line.{l2_line, line_size}
use Rattle.jfs_logfmt.specs.Descriptor.{descriptor_of}

-- a range of lines: its bytes, and then its first line and its number of lines, of so many bytes each
pub record IsRangeText (size : ℕ) (text : List ℕ) (r : LineRange) : Type 0 where
  pub place : List ℕ
  pub parts : text ≡ r.bytes ++ place
  pub four : length place ≡ 4
  pub first : field_of place 0 2 ≡ r.first
  pub lines : length r.bytes ≡ field_of place 2 2 * size

-- one range after the other
abbrev pub SpellsRanges : ℕ → List ℕ → List LineRange → Type 0
SpellsRanges size body [] = body ≡ []
SpellsRanges size body (r ∷ rs) = (text : List ℕ) × (rest : List ℕ) × (body ≡ text ++ rest) × IsRangeText size text r × SpellsRanges size rest rs

-- so many runs of blocks, one after the other from `at` on
abbrev pub runs_of : List ℕ → ℕ → ℕ → List Pxd
runs_of body at zero = []
runs_of body at (suc n) = pxd_of body at ∷ runs_of body (at + 8) n

abbrev pub IsOf : Descriptor → RecordType → ℕ → ℕ → Type 0
IsOf d of tid back = (d.number ≡ type_number of) × (d.tid ≡ tid) × (d.back ≡ back)

abbrev pub IsOwned : Descriptor → ℕ → ℕ → Type 0
IsOwned d fileset inode = (d.fileset ≡ fileset) × (d.inode ≡ inode)

-- what the descriptor and the data before it say, by the record's type
abbrev pub Says : Descriptor → List ℕ → Record → Type 0
Says d body (records.Commit tid back) = IsOf d types.Commit tid back × (body ≡ [])
Says d body (records.SyncPt sync) = (d.number ≡ type_number types.SyncPt) × (d.fileset ≡ sync) × (body ≡ [])
Says d body (records.NoRedo tid back fileset inode kind at) =
    IsOf d types.NoRedoPage tid back × IsOwned d fileset inode × (d.kind ≡ page_number (page_type kind false)) × (d.at ≡ at) × (body ≡ [])
Says d body (records.Redo tid back fileset inode kind new_page at ranges) =
    IsOf d types.RedoPage tid back × IsOwned d fileset inode × (d.kind ≡ page_number (page_type kind new_page)) × (d.count ≡ l2_line kind)
    × (d.at ≡ at) × SpellsRanges (line_size kind) body ranges
Says d body (records.Update tid back fileset inode alloc list) =
    IsOf d types.UpdateMap tid back × IsOwned d fileset inode × (d.kind ≡ map_number alloc) × (d.count ≡ length list)
    × (length body ≡ 8 * length list) × (runs_of body 0 (length list) ≡ list)

-- data, and then 36 bytes that have its length
pub record Spells (text : List ℕ) (r : Record) : Type 0 where
  pub body : List ℕ
  pub tail : List ℕ
  pub parts : text ≡ body ++ tail
  pub size : length tail ≡ 36
  pub long : field_of tail 10 2 ≡ length body
  pub says : Says (descriptor_of tail) body r

-- a text spells one record at most
abbrev pub SpellsOneAtMost : Type 0
SpellsOneAtMost = (text : List ℕ) (r s : Record) → Spells text r → Spells text s → r ≡ s
