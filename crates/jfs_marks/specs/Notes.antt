-- What the records of a transaction name beside its edits. (JFS Log, REDOPAGE, NOREDOPAGE, UPDATEMAP.)
use Rattle.std.specs.Prelude.{◌≡◌, ◌≤◌, ◌<◌, ℕ, ◌==◌, ◌&&◌, ◌||◌, Bool, true, false, if◌then◌else◌, List, [], ◌∷◌, length, drop}
use Rattle.jfs_bits.specs.Bits.{is_in_run}
use Rattle.jfs_bits.specs.Field.{field_of}
use Rattle.jfs_bits.specs.declared.rule.PageKind.{PageKind}
use Rattle.jfs_bits.specs.declared.rule.PageKind.TheVariants as kinds
use Rattle.jfs_ranges.specs.declared.edit.Edit.{Edit}
use Rattle.jfs_ranges.specs.declared.edit.Edit.TheVariants.{Lines, NoRedo, Alloc, Free}
use Rattle.jfs_records.specs.declared.note.Note.{Note}
use Rattle.jfs_data_steps.specs.steps.specs.After.{is_extent}
use Rattle.jfs_marks.specs.declared.owner.Owner.{Owner}
use Rattle.jfs_marks.specs.declared.notes.Next.{Next}
use Rattle.jfs_marks.specs.Owners.{no_owner, last_owner, next_owner}

-- a note of the volume's files
abbrev pub note : ℕ → PageKind → Bool → Note
note inode kind new_page = record { fileset = 16; inode = inode; kind = kind; new_page = new_page }

abbrev pub tree_kind : Owner → PageKind
tree_kind owner = if owner.is_directory then kinds.Dtree else kinds.Xtree

-- an edit takes block b
abbrev pub allocates : List Edit → ℕ → Bool
allocates [] b = false
allocates (Lines page kind first bytes ∷ tx) b = allocates tx b
allocates (NoRedo page ∷ tx) b = allocates tx b
allocates (Alloc run ∷ tx) b = is_in_run run.addr run.len b || allocates tx b
allocates (Free run ∷ tx) b = allocates tx b

-- A page of a tree is named by the inode whose tree it is. It is new where it is logged whole and the transaction takes its block.
abbrev pub tree_note : List Edit → ℕ → PageKind → ℕ → List ℕ → Owner → Note
tree_note tx page kind first bytes owner = note owner.inode kind (first == 0 && (length bytes == 4096 && allocates tx page))

-- An inode page is named by its first inode; a new inode extent, whose pages are new, by its first one.
abbrev pub lines_note : List Edit → ℕ → PageKind → ℕ → List ℕ → Owner → Note
lines_note tx page kinds.Inode first bytes owner = if is_extent kinds.Inode first bytes then note (field_of bytes 8 4) kinds.Inode true else note owner.first kinds.Inode false
lines_note tx page kinds.Xtree first bytes owner = tree_note tx page kinds.Xtree first bytes owner
lines_note tx page kinds.Dtree first bytes owner = tree_note tx page kinds.Dtree first bytes owner
lines_note tx page kinds.Index first bytes owner = tree_note tx page kinds.Index first bytes owner

-- A page that goes is one of a tree, and blocks are those of the object whose call it is.
abbrev pub note_by : List Edit → Owner → Owner → Edit → Note
note_by tx owner object (Lines page kind first bytes) = lines_note tx page kind first bytes owner
note_by tx owner object (NoRedo page) = note owner.inode (tree_kind owner) false
note_by tx owner object (Alloc run) = note object.inode kinds.Inode false
note_by tx owner object (Free run) = note object.inode kinds.Inode false

-- A call tells a tree's edits before the lines of the inode whose tree it is.
abbrev pub notes_from : ℕ → (ℕ → List ℕ) → List Edit → Owner → Owner → List Edit → List Note
notes_from blocks pages tx last object [] = []
notes_from blocks pages tx last object (e ∷ es) = note_by tx (next_owner blocks pages tx last (e ∷ es)) object e ∷ notes_from blocks pages tx last object es

abbrev pub notes_by : ℕ → (ℕ → List ℕ) → List Edit → Owner → List Note
notes_by blocks pages tx last = notes_from blocks pages tx last (next_owner blocks pages tx last tx) tx

-- the notes of a transaction on these pages: its object is the first inode that has lines
abbrev pub notes_on : ℕ → (ℕ → List ℕ) → List Edit → List Note
notes_on blocks pages tx = notes_by blocks pages tx (last_owner blocks pages tx tx no_owner)

-- the owner from a place on, and a place before which it is that
abbrev pub IsNextOwner : ℕ → (ℕ → List ℕ) → List Edit → ℕ → Owner → Next → Type 0
IsNextOwner blocks pages tx from last next = (next.owner ≡ next_owner blocks pages tx last (drop from tx)) × ((i : ℕ) → from ≤ i → i < next.until → next_owner blocks pages tx last (drop i tx) ≡ next.owner)
