-- Where the pages of a map's file lie.
use Rattle.std.specs.Prelude.{◌≡◌, ◌<◌, ℕ, Bool, List, slice_get, Some}

-- the blocks of its pages, in their order, and whether the map in memory has changed since these were written
pub record MapPlaces : Type 0 where
  pub places : List ℕ
  pub stale : Bool

-- each of them is one of so many blocks
abbrev pub AreWithin : ℕ → List ℕ → Type 0
AreWithin blocks places = (n b : ℕ) → slice_get places n ≡ Some b → b < blocks
