-- The order of names: unit by unit as numbers, and a prefix comes first.
use Rattle.std.specs.Prelude.{◌≡◌, ◌<◌, ◌≤◌, ℕ, List, [], length, get_or, Result, Ok, Err}
use Rattle.std.specs.Ordering.{nat_cmp}
use Rattle.std.specs.Cmp.Lexicographic.{slice_cmp}
use Rattle.std.specs.declared.cmp.Ordering.TheVariants.{Less}

abbrev pub IsBefore : List ℕ → List ℕ → Type 0
IsBefore one other = slice_cmp nat_cmp one other ≡ Less

abbrev pub name_at : List (List ℕ) → ℕ → List ℕ
name_at names i = get_or names i []

abbrev pub IsRising : List (List ℕ) → Type 0
IsRising names = (i j : ℕ) → i < j → j < length names → IsBefore (name_at names i) (name_at names j)

-- the place where a name would go, which isn't there
pub record GoesAt (names : List (List ℕ)) (place : ℕ) (name : List ℕ) : Type 0 where
  pub within : place ≤ length names
  pub before : (i : ℕ) → i < place → IsBefore (name_at names i) name
  pub behind : (i : ℕ) → place ≤ i → i < length names → IsBefore name (name_at names i)

-- the place of a name, or else the place where it would go
abbrev pub IsFound : List (List ℕ) → List ℕ → Result ℕ ℕ → Type 0
IsFound names name (Ok place) = (place < length names) × (name_at names place ≡ name)
IsFound names name (Err place) = GoesAt names place name
