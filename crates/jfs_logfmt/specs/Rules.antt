-- The rules of a record's text, in the order in which they are looked at.
use Rattle.std.specs.Prelude.{◌≡◌, ℕ, ◌+◌, ◌-◌, ◌*◌, ◌^◌, ◌==◌, ◌&&◌, ◌||◌, not, nat_lt, nat_le, ⊤, Bool, true, false, IsTrue, List, [], ◌∷◌, length, take, drop, Option, Some, None, is_some, if◌then◌else◌, Result, Ok, Err}
use Rattle.std.specs.List.{AllByRecursion, list_all}
use Rattle.jfs_bits.specs.declared.descriptor.Pxd.{Pxd}
use Rattle.jfs_bits.specs.declared.list.LineRange.{LineRange}
use Rattle.jfs_bits.specs.declared.rule.Rule.{Rule}
use Rattle.jfs_bits.specs.declared.rule.Rule.TheVariants as rules
use Rattle.jfs_logfmt.specs.declared.descriptor.Descriptor.{Descriptor}
use Rattle.jfs_logfmt.specs.declared.kind.RecordType.{RecordType}
use Rattle.jfs_logfmt.specs.declared.kind.RecordType.TheVariants as types
use Rattle.jfs_logfmt.specs.declared.kind.PageType.{PageType}
use Rattle.jfs_logfmt.specs.declared.log_record.Record.{Record}
use Rattle.jfs_logfmt.specs.declared.log_record.Record.TheVariants as records
use Rattle.jfs_logfmt.specs.declared.log_record.RecordError.{RecordError}
use Rattle.jfs_logfmt.specs.declared.log_record.RecordError.TheVariants as errors
use Rattle.jfs_logfmt.specs.Kinds.{type_of, page_of, page_type, page_blocks, map_of}
use Rattle.jfs_bits.specs.Line.{l2_line, line_size}
use Rattle.jfs_bits.specs.Broken.{IsFirstBroken}
use Rattle.jfs_logfmt.specs.Descriptor.{descriptor_of}
use Rattle.jfs_logfmt.specs.Text.{SpellsRanges, runs_of}

-- a run within the blocks of the file system part; an empty one has its address there
abbrev pub is_inside : ℕ → Pxd → Bool
is_inside blocks at = nat_lt at.addr blocks && nat_le (at.addr + at.len) blocks

-- a page: no record changes the first 16
abbrev pub is_page : ℕ → Pxd → Bool
is_page blocks at = nat_le 16 at.addr && is_inside blocks at

-- at least one line, within so many pages
abbrev pub is_within : ℕ → ℕ → LineRange → Bool
is_within size pages r = nat_lt 0 (length r.bytes) && nat_le (r.first * size + length r.bytes) (pages * 4096)

abbrev pub AreWithin : ℕ → ℕ → List LineRange → Type 0
AreWithin size pages rs = AllByRecursion (λ r. is_within size pages r ≡ true) rs

-- the data's length: it stands before the descriptor, and is what the type has
abbrev pub is_long : RecordType → Descriptor → Bool
is_long types.RedoPage d = true
is_long types.UpdateMap d = d.length == 8 * d.count
is_long types.Commit d = d.length == 0
is_long types.SyncPt d = d.length == 0
is_long types.NoRedoPage d = d.length == 0

abbrev pub has_length : RecordType → ℕ → Descriptor → Bool
has_length of left d = nat_le d.length left && is_long of d

-- the line size: of a page type that is used its own, else one of the three
abbrev pub is_line : Option PageType → ℕ → Bool
is_line None l2 = l2 == 4 || (l2 == 5 || l2 == 7)
is_line (Some p) l2 = l2 == l2_line p.kind

abbrev pub has_lines : RecordType → Descriptor → Bool
has_lines types.RedoPage d = is_line (page_of d.kind) d.count
has_lines types.NoRedoPage d = true
has_lines types.UpdateMap d = true
has_lines types.Commit d = true
has_lines types.SyncPt d = true

-- ranges fill the data, each within the page
abbrev pub HasRanges : RecordType → Descriptor → List ℕ → Type 0
HasRanges types.RedoPage d body = (rs : List LineRange) × SpellsRanges (2 ^ d.count) body rs × AreWithin (2 ^ d.count) d.at.len rs
HasRanges types.NoRedoPage d body = ⊤
HasRanges types.UpdateMap d body = ⊤
HasRanges types.Commit d body = ⊤
HasRanges types.SyncPt d body = ⊤

-- pages and runs stand where records may change blocks
abbrev pub is_placed : RecordType → ℕ → Descriptor → List ℕ → Bool
is_placed types.RedoPage blocks d body = is_page blocks d.at
is_placed types.NoRedoPage blocks d body = is_page blocks d.at
is_placed types.UpdateMap blocks d body = list_all (is_inside blocks) (runs_of body 0 d.count)
is_placed types.Commit blocks d body = true
is_placed types.SyncPt blocks d body = true

-- page types and map types are used ones, and a page has its number of blocks
abbrev pub is_redone : Option PageType → ℕ → Bool
is_redone None len = false
is_redone (Some p) len = len == page_blocks p

abbrev pub is_freed : Option PageType → ℕ → Bool
is_freed None len = false
is_freed (Some p) len = not p.new_page && len == 1

abbrev pub has_kind : RecordType → Descriptor → Bool
has_kind types.RedoPage d = is_redone (page_of d.kind) d.at.len
has_kind types.NoRedoPage d = is_freed (page_of d.kind) d.at.len
has_kind types.UpdateMap d = is_some (map_of d.kind)
has_kind types.Commit d = true
has_kind types.SyncPt d = true

-- what each rule says of a text of this type, with so many bytes before its descriptor
abbrev pub Keeps : RecordType → ℕ → ℕ → Descriptor → List ℕ → Rule → Type 0
Keeps of blocks left d body rules.Length = IsTrue (has_length of left d)
Keeps of blocks left d body rules.Lines = IsTrue (has_lines of d)
Keeps of blocks left d body rules.Range = HasRanges of d body
Keeps of blocks left d body rules.Place = IsTrue (is_placed of blocks d body)
Keeps of blocks left d body rules.Kind = IsTrue (has_kind of d)
Keeps of blocks left d body _ = ⊤

-- the rules of a known type's text, in the order in which they are looked at
abbrev pub record_rules : List Rule
record_rules = rules.Length ∷ rules.Lines ∷ rules.Range ∷ rules.Place ∷ rules.Kind ∷ []

-- the descriptor that ends the bytes, and the data before it
abbrev pub tail_of : List ℕ → List ℕ
tail_of bytes = drop (length bytes - 36) bytes

abbrev pub body_of : List ℕ → List ℕ
body_of bytes = let left = length bytes - 36 in drop (left - (descriptor_of (tail_of bytes)).length) (take left bytes)

-- the type that the bytes end with
abbrev pub type_before : List ℕ → Option RecordType
type_before bytes = if nat_lt (length bytes) 36 then None else type_of (descriptor_of (tail_of bytes)).number

abbrev pub IsFirstOf : Option RecordType → ℕ → List ℕ → Rule → Type 0
IsFirstOf None blocks bytes rule = rule ≡ rules.BadType
IsFirstOf (Some of) blocks bytes rule = IsFirstBroken (Keeps of blocks (length bytes - 36) (descriptor_of (tail_of bytes)) (body_of bytes)) record_rules rule

-- the first rule that the text at the end of the bytes breaks
abbrev pub FirstBroken : ℕ → List ℕ → Rule → Type 0
FirstBroken blocks bytes rule = IsFirstOf (type_before bytes) blocks bytes rule

-- a record of a volume of so many blocks
abbrev pub IsRecordOf : ℕ → Record → Type 0
IsRecordOf blocks (records.Commit tid back) = ⊤
IsRecordOf blocks (records.SyncPt sync) = ⊤
IsRecordOf blocks (records.NoRedo tid back fileset inode kind at) = IsTrue (is_page blocks at) × (at.len ≡ 1)
IsRecordOf blocks (records.Redo tid back fileset inode kind new_page at ranges) =
    IsTrue (is_page blocks at) × (at.len ≡ page_blocks (page_type kind new_page)) × AreWithin (line_size kind) at.len ranges
IsRecordOf blocks (records.Update tid back fileset inode alloc list) = IsTrue (list_all (is_inside blocks) list)

-- what was refused, unless memory ran out
abbrev pub IfBad : {X : Type 0} → Result X RecordError → (Rule → Type 0) → Type 0
IfBad (Ok x) P = ⊤
IfBad (Err errors.Memory) P = ⊤
IfBad (Err (errors.Bad b)) P = P b.rule

-- what was read, unless memory ran out
abbrev pub IsRead : {X : Type 0} → Result X RecordError → (X → Type 0) → Type 0
IsRead (Ok x) P = P x
IsRead (Err errors.Memory) P = ⊤
IsRead (Err (errors.Bad b)) P = ⊥
