-- What redo makes of a page: forwards, and as a choice per cell.
use Rattle.std.specs.Prelude.{◌≡◌, ◌<◌, ℕ, ◌+◌, ◌-◌, ◌*◌, ◌==◌, ◌&&◌, ◌||◌, nat_le, nat_lt, Bool, false, List, [], ◌∷◌, ◌++◌, length, get_or, Option, Some, None, if◌then◌else◌}
use Rattle.jfs_ranges.specs.declared.edit.Edit.{Edit}
use Rattle.jfs_ranges.specs.declared.edit.Edit.TheVariants.{Lines, NoRedo, Alloc, Free}
use Rattle.jfs_ranges.specs.Apply.{place_of_line, byte_after, apply_edit}

-- the edits of transactions, one after the other
abbrev pub all_of : List (List Edit) → List Edit
all_of [] = []
all_of (tx ∷ txs) = tx ++ all_of txs

abbrev pub is_noredo : ℕ → Edit → Bool
is_noredo p (Lines page kind first bytes) = false
is_noredo p (NoRedo page) = page == p
is_noredo p (Alloc run) = false
is_noredo p (Free run) = false

abbrev pub closes_in : ℕ → List Edit → Bool
closes_in p [] = false
closes_in p (e ∷ es) = is_noredo p e || closes_in p es

-- forwards: a NoRedo of the page takes it back to what the crash left
abbrev pub redone : ℕ → List ℕ → List ℕ → List Edit → List ℕ
redone p left now [] = now
redone p left now (e ∷ es) = redone p left (if is_noredo p e then left else apply_edit p e now) es

-- whether an edit gives byte i of page p
abbrev pub covers : ℕ → ℕ → Edit → Bool
covers p i (Lines page kind first bytes) =
    let at = place_of_line page kind first in
    nat_le at (4096 * p + i) && nat_lt (4096 * p + i - at) (length bytes)
covers p i (NoRedo page) = false
covers p i (Alloc run) = false
covers p i (Free run) = false

abbrev pub or_else : Option Edit → Option Edit → Option Edit
or_else (Some e) o = Some e
or_else None o = o

-- the last line that gives byte i of page p and isn't followed by a NoRedo of the page
abbrev pub chosen : ℕ → ℕ → List Edit → Option Edit
chosen p i [] = None
chosen p i (e ∷ es) = or_else (chosen p i es) (if closes_in p es then None else (if covers p i e then Some e else None))

-- the byte that it gives; else what is there
abbrev pub byte_by : ℕ → ℕ → Edit → ℕ → ℕ
byte_by p i (Lines page kind first bytes) old = byte_after (place_of_line page kind first) bytes (4096 * p + i) old
byte_by p i (NoRedo page) old = old
byte_by p i (Alloc run) old = old
byte_by p i (Free run) old = old

abbrev pub picked : ℕ → ℕ → Option Edit → ℕ → ℕ
picked p i None old = old
picked p i (Some e) old = byte_by p i e 0

-- whole cells are given, or passed over
abbrev pub HasCells : Edit → Type 0
HasCells e = (p c j : ℕ) → j < 16 → covers p (16 * c + j) e ≡ covers p (16 * c) e

-- redo is a choice per cell: for each cell of a page the last line that covers it and isn't followed by a NoRedo of the page, else what the crash left
abbrev pub IsChoice : Type 0
IsChoice = (p : ℕ) (left : List ℕ) (es : List Edit) → ((k : ℕ) → (d : Edit) → k < length es → HasCells (get_or es k d)) → (c j : ℕ) → j < 16 → 16 * c + j < length left
    → get_or (redone p left left es) (16 * c + j) 0 ≡ picked p (16 * c + j) (chosen p (16 * c) es) (get_or left (16 * c + j) 0)
