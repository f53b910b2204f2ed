-- What a transaction does to one page.
use Rattle.std.specs.Prelude.{ℕ, Bool, false, ◌||◌, ◌&&◌, ◌+◌, ◌-◌, ◌*◌, suc, nat_le, nat_lt, if◌then◌else◌, List, [], ◌∷◌, get_or, length}
use Rattle.jfs_bits.specs.declared.rule.PageKind.{PageKind}
use Rattle.jfs_bits.specs.Line.{line_size}
use Rattle.jfs_ranges.specs.declared.edit.Edit.{Edit}
use Rattle.jfs_ranges.specs.declared.edit.Edit.TheVariants.{Lines, NoRedo, Alloc, Free}

-- the place of a line's first byte, counted from the start of the disk
unfoldable pub place_of_line : ℕ → PageKind → ℕ → ℕ
place_of_line page kind first = 4096 * page + line_size kind * first

-- the byte at a place, where new bytes are put from `at` on
abbrev pub byte_after : ℕ → List ℕ → ℕ → ℕ → ℕ
byte_after at new place old = if nat_le at place then get_or new (place - at) old else old

-- the bytes from a place on, where new bytes are put from `at` on
abbrev pub overlaid : ℕ → List ℕ → ℕ → List ℕ → List ℕ
overlaid at new place [] = []
overlaid at new place (old ∷ rest) = byte_after at new place old ∷ overlaid at new (suc place) rest

-- Page n after an edit. Lines put their bytes from their first line on, also into the pages that follow; the other edits change no byte.
abbrev pub apply_edit : ℕ → Edit → List ℕ → List ℕ
apply_edit n (Lines page kind first bytes) content = overlaid (place_of_line page kind first) bytes (4096 * n) content
apply_edit n (NoRedo page) content = content
apply_edit n (Alloc blocks) content = content
apply_edit n (Free blocks) content = content

-- page n after a transaction: each edit in order
abbrev pub apply_tx : ℕ → List Edit → List ℕ → List ℕ
apply_tx n [] content = content
apply_tx n (edit ∷ edits) content = apply_tx n edits (apply_edit n edit content)

-- whether an edit puts a byte into page n
abbrev pub touches_edit : ℕ → Edit → Bool
touches_edit n (Lines page kind first bytes) =
    let at = place_of_line page kind first in
    nat_lt at (4096 * n + 4096) && nat_lt (4096 * n - at) (length bytes)
touches_edit n (NoRedo page) = false
touches_edit n (Alloc blocks) = false
touches_edit n (Free blocks) = false

-- whether a transaction puts a byte into page n
abbrev pub touches_tx : ℕ → List Edit → Bool
touches_tx n [] = false
touches_tx n (edit ∷ edits) = touches_edit n edit || touches_tx n edits
