-- The numbers of the log's types, page types and map types. (JFS Log.)
use Rattle.std.specs.Prelude.{ℕ, ◌+◌, ◌==◌, Bool, true, false, [], ◌∷◌, Option, find, if◌then◌else◌}
use Rattle.jfs_bits.specs.declared.rule.PageKind.{PageKind}
use Rattle.jfs_bits.specs.declared.rule.PageKind.TheVariants as kinds
use Rattle.jfs_bits.specs.Line.{kind_number}
use Rattle.jfs_logfmt.specs.declared.kind.RecordType.{RecordType}
use Rattle.jfs_logfmt.specs.declared.kind.RecordType.TheVariants as types
use Rattle.jfs_logfmt.specs.declared.kind.PageType.{PageType}

abbrev pub type_number : RecordType → ℕ
type_number types.Commit = 0x8000
type_number types.SyncPt = 0x4000
type_number types.RedoPage = 0x0800
type_number types.NoRedoPage = 0x0080
type_number types.UpdateMap = 0x0008

-- the same table the other way
abbrev pub type_of : ℕ → Option RecordType
type_of n = find (λ t. type_number t == n) (types.Commit ∷ types.SyncPt ∷ types.RedoPage ∷ types.NoRedoPage ∷ types.UpdateMap ∷ [])

-- with the flag NEW
abbrev pub page_number : PageType → ℕ
page_number p = if p.new_page then kind_number p.kind + 0x100 else kind_number p.kind

abbrev pub page_type : PageKind → Bool → PageType
page_type kind new_page = record { kind = kind; new_page = new_page }

-- the same table the other way
abbrev pub page_of : ℕ → Option PageType
page_of n = find (λ p. page_number p == n) (page_type kinds.Inode false ∷ page_type kinds.Xtree false ∷ page_type kinds.Dtree false ∷ page_type kinds.Index false ∷ page_type kinds.Inode true ∷ page_type kinds.Xtree true ∷ page_type kinds.Dtree true ∷ page_type kinds.Index true ∷ [])

-- new inodes come four blocks at once
abbrev pub new_blocks : PageKind → Bool → ℕ
new_blocks kinds.Inode true = 4
new_blocks _ _ = 1

abbrev pub page_blocks : PageType → ℕ
page_blocks p = new_blocks p.kind p.new_page

-- a list of blocks that are allocated, or freed
abbrev pub map_number : Bool → ℕ
map_number true = 0x40
map_number false = 0x04

abbrev pub map_of : ℕ → Option Bool
map_of n = find (λ b. map_number b == n) (true ∷ false ∷ [])
