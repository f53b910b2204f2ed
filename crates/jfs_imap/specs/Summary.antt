-- A set of numbers as a tree of bits.
use Rattle.std.specs.Prelude.{◌≡◌, ℕ, ◌+◌, ◌*◌, ◌^◌, ◌<◌, ◌≤◌, ◌||◌, Bool, true, false, List, length, get_or, Option, Some, None}

-- each inner node is set where one of its two children is
pub record AreJoined (leaves : ℕ) (nodes : List Bool) : Type 0 where
  pub size : length nodes ≡ 2 * leaves
  pub joined : (i : ℕ) → 0 < i → i < leaves → get_or nodes i false ≡ (get_or nodes (2 * i) false || get_or nodes (2 * i + 1) false)

-- so many levels below the root
pub record IsTree (height leaves : ℕ) (nodes : List Bool) : Type 0 where
  pub least : 7 ≤ height
  pub most : height ≤ 23
  pub power : leaves ≡ 2 ^ height
  pub tree : AreJoined leaves nodes

-- the lowest place of a list that holds true
abbrev pub IsFirstMarked : List Bool → Option ℕ → Type 0
IsFirstMarked marks None = (i : ℕ) → i < length marks → get_or marks i false ≡ false
IsFirstMarked marks (Some first) = (first < length marks) × (get_or marks first false ≡ true) × ((i : ℕ) → i < first → get_or marks i false ≡ false)
