-- What can be logged gives whole cells.
use Rattle.std.proofs.Common.{◌≡◌, ◌<◌, ◌≤◌, ◌⊎◌, inl, inr, ◌+◌, ◌-◌, ◌*◌, ◌/◌, ◌&&◌, nat_le, nat_lt, ℕ, Bool, List, length, refl, sym, ap, ◌∙◌, arith}
use Rattle.std.proofs.lemmas.Bool.{cases_lt, le-leb, lt-leb, lt-ltb, le-ltb}
use Rattle.jfs_bits.specs.declared.rule.PageKind.{PageKind}
use Rattle.jfs_bits.specs.declared.rule.PageKind.TheVariants as kinds
use Rattle.jfs_bits.specs.Line.{line_size}
use Rattle.jfs_ranges.specs.declared.edit.Edit.TheVariants.{Lines, NoRedo, Alloc, Free}
use Rattle.jfs_ranges.specs.Apply.{place_of_line}
use Rattle.jfs_records.specs.Redo.{HasCells}
use Rattle.jfs_records.specs.Laws.{LoggedHaveCells}

same_less : (x y n : ℕ) → (x < n → y < n) → (n ≤ x → n ≤ y) → nat_lt x n ≡ nat_lt y n
same_less x y n f g = by (cases_lt x n)
  where
    by : (x < n) ⊎ (n ≤ x) → nat_lt x n ≡ nat_lt y n
    by (inl l) = lt-ltb x n l ∙ sym (lt-ltb y n (f l))
    by (inr l) = le-ltb x n l ∙ sym (le-ltb y n (g l))

cells : (at len a b p c j : ℕ) → at ≡ 16 * a → len ≡ 16 * b → j < 16 → (nat_le at (4096 * p + (16 * c + j)) && nat_lt (4096 * p + (16 * c + j) - at) len) ≡ (nat_le at (4096 * p + 16 * c) && nat_lt (4096 * p + 16 * c - at) len)
cells at len a b p c j e l h = by (cases_lt (4096 * p + 16 * c) at)
  where
    by : (4096 * p + 16 * c < at) ⊎ (at ≤ 4096 * p + 16 * c) → (nat_le at (4096 * p + (16 * c + j)) && nat_lt (4096 * p + (16 * c + j) - at) len) ≡ (nat_le at (4096 * p + 16 * c) && nat_lt (4096 * p + 16 * c - at) len)
    by (inl out) =
        let one : 4096 * p + (16 * c + j) < at = omega (arith, out, e, h) in
        ap (λ (x : Bool). x && nat_lt (4096 * p + (16 * c + j) - at) len) (lt-leb at (4096 * p + (16 * c + j)) one)
        ∙ sym (ap (λ (x : Bool). x && nat_lt (4096 * p + 16 * c - at) len) (lt-leb at (4096 * p + 16 * c) out))
    by (inr there) =
        let one : at ≤ 4096 * p + (16 * c + j) = omega (arith, there) in
        let same = same_less (4096 * p + (16 * c + j) - at) (4096 * p + 16 * c - at) len (λ k. omega (arith, k, there)) (λ k. omega (arith, k, there, e, l, h)) in
        ap (λ (x : Bool). x && nat_lt (4096 * p + (16 * c + j) - at) len) (le-leb at (4096 * p + (16 * c + j)) one) ∙ same
        ∙ sym (ap (λ (x : Bool). x && nat_lt (4096 * p + 16 * c - at) len) (le-leb at (4096 * p + 16 * c) there))

-- a line's bytes are cells
line_cells : (kind : PageKind) → (k : ℕ) × (line_size kind ≡ 16 * k)
line_cells kinds.Inode = (8, refl)
line_cells kinds.Xtree = (1, refl)
line_cells kinds.Dtree = (2, refl)
line_cells kinds.Index = (1, refl)

times : (k n : ℕ) → 16 * k * n ≡ 16 * (k * n)
times k n = omega arith

has_cells : (page : ℕ) (kind : PageKind) (first : ℕ) (bytes : List ℕ) → length bytes ≡ length bytes / line_size kind * line_size kind → HasCells (Lines page kind first bytes)
unfolding place_of_line
has_cells page kind first bytes whole p c j h =
    let k = line_cells kind in
    let at : 4096 * page + line_size kind * first ≡ 16 * (256 * page + k.0 * first) = omega (arith, ap (λ (n : ℕ). n * first) k.1, times k.0 first) in
    let long : length bytes ≡ 16 * (length bytes / line_size kind * k.0) = whole ∙ ap (λ (n : ℕ). length bytes / line_size kind * n) k.1 ∙ omega (arith) in
    cells (4096 * page + line_size kind * first) (length bytes) (256 * page + k.0 * first) (length bytes / line_size kind * k.0) p c j at long h

pub logged_cells : LoggedHaveCells
logged_cells blocks new_page (Lines page kind first bytes) can = has_cells page kind first bytes can.whole
logged_cells blocks new_page (NoRedo page) can = λ p c j less. refl
logged_cells blocks new_page (Alloc run) can = λ p c j less. refl
logged_cells blocks new_page (Free run) can = λ p c j less. refl
