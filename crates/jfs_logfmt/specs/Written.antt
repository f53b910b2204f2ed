-- The text that is written of a record: zeros where nothing is used.
use Rattle.std.specs.Prelude.{◌≡◌, ℕ, ◌+◌, ◌*◌, ◌/◌, ◌^◌, ◌<◌, ⊤, List, [], ◌++◌, length, flat_map, false}
use Rattle.std.specs.List.{AllByRecursion}
use Rattle.byteorder.specs.Endian.{little_bytes}
use Rattle.jfs_bits.specs.declared.descriptor.Pxd.{Pxd}
use Rattle.jfs_bits.specs.declared.list.LineRange.{LineRange}
use Rattle.jfs_bits.specs.Descriptor.{pxd_bytes, FitsPxd}
use Rattle.jfs_logfmt.specs.declared.descriptor.Descriptor.{Descriptor}
use Rattle.jfs_logfmt.specs.declared.kind.RecordType.{RecordType}
use Rattle.jfs_logfmt.specs.declared.kind.RecordType.TheVariants as types
use Rattle.jfs_logfmt.specs.declared.log_record.Record.{Record}
use Rattle.jfs_logfmt.specs.declared.log_record.Record.TheVariants as records
use Rattle.jfs_logfmt.specs.Kinds.{type_number, page_number, page_type, map_number}
use Rattle.jfs_bits.specs.Line.{l2_line, line_size}
use Rattle.jfs_logfmt.specs.Descriptor.{descriptor_bytes}
use Rattle.jfs_logfmt.specs.Text.{Spells}

-- a range's bytes, its first line and its number of lines
abbrev pub range_text : ℕ → LineRange → List ℕ
range_text size r = r.bytes ++ (little_bytes 2 r.first ++ little_bytes 2 (length r.bytes / size))

abbrev pub body_text : Record → List ℕ
body_text (records.Redo tid back fileset inode kind new_page at ranges) = flat_map (range_text (line_size kind)) ranges
body_text (records.Update tid back fileset inode alloc list) = flat_map pxd_bytes list
body_text (records.NoRedo tid back fileset inode kind at) = []
body_text (records.Commit tid back) = []
body_text (records.SyncPt sync) = []

abbrev no_page : Pxd
no_page = record { len = 0; addr = 0 }

-- a descriptor with nothing but its head
abbrev pub head_of : RecordType → ℕ → ℕ → ℕ → Descriptor
head_of of tid back length = record { tid = tid; back = back; number = type_number of; length = length; fileset = 0; inode = 0; kind = 0; count = 0; at = no_page }

abbrev pub described : Record → ℕ → Descriptor
described (records.Redo tid back fileset inode kind new_page at ranges) length =
    record (head_of types.RedoPage tid back length) { fileset = fileset; inode = inode; kind = page_number (page_type kind new_page); count = l2_line kind; at = at }
described (records.NoRedo tid back fileset inode kind at) length =
    record (head_of types.NoRedoPage tid back length) { fileset = fileset; inode = inode; kind = page_number (page_type kind false); at = at }
described (records.Update tid back fileset inode alloc list) size =
    record (head_of types.UpdateMap tid back size) { fileset = fileset; inode = inode; kind = map_number alloc; count = length list }
described (records.Commit tid back) length = head_of types.Commit tid back length
described (records.SyncPt sync) length = record (head_of types.SyncPt 0 0 length) { fileset = sync }

-- data, and then the descriptor with its length
abbrev pub text_of : Record → List ℕ
text_of r = body_text r ++ descriptor_bytes (described r (length (body_text r)))

-- what has a place in these bytes: whole lines, from a line with a number of 16 bits on
pub record FitsRange (size : ℕ) (r : LineRange) : Type 0 where
  pub first : r.first < 2 ^ 16
  pub whole : length r.bytes ≡ length r.bytes / size * size
  pub bytes : length r.bytes < 2 ^ 16

-- a record whose numbers and lists fit
abbrev pub Fits : Record → Type 0
Fits (records.Redo tid back fileset inode kind new_page at ranges) =
    FitsPxd at × AllByRecursion (FitsRange (line_size kind)) ranges × (length (flat_map (range_text (line_size kind)) ranges) < 2 ^ 16)
Fits (records.NoRedo tid back fileset inode kind at) = FitsPxd at
Fits (records.Update tid back fileset inode alloc list) = AllByRecursion FitsPxd list × (length list < 2 ^ 13)
Fits (records.Commit tid back) = ⊤
Fits (records.SyncPt sync) = ⊤

-- the record's numbers have 32 bits each, which their types say in the code
abbrev pub HasNumbers : Record → Type 0
HasNumbers (records.Redo tid back fileset inode kind new_page at ranges) = (tid < 2 ^ 32) × (back < 2 ^ 32) × (fileset < 2 ^ 32) × (inode < 2 ^ 32)
HasNumbers (records.NoRedo tid back fileset inode kind at) = (tid < 2 ^ 32) × (back < 2 ^ 32) × (fileset < 2 ^ 32) × (inode < 2 ^ 32)
HasNumbers (records.Update tid back fileset inode alloc list) = (tid < 2 ^ 32) × (back < 2 ^ 32) × (fileset < 2 ^ 32) × (inode < 2 ^ 32)
HasNumbers (records.Commit tid back) = (tid < 2 ^ 32) × (back < 2 ^ 32)
HasNumbers (records.SyncPt sync) = sync < 2 ^ 32

-- the text that is written of a record spells it
abbrev pub SpellsWritten : Type 0
SpellsWritten = (r : Record) → Fits r → HasNumbers r → Spells (text_of r) r

-- its data, and 36 bytes
abbrev pub HasSize : Type 0
HasSize = (r : Record) → length (text_of r) ≡ length (body_text r) + 36

-- new is old with more at its end
abbrev pub IsLonger : List ℕ → List ℕ → Type 0
IsLonger old new = (more : List ℕ) × (new ≡ old ++ more)
