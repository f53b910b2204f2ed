-- Pages of a file that are written one after the other, each to its place.
use Rattle.std.specs.Prelude.{◌≡◌, ◌<◌, ◌≤◌, ℕ, Bool, true, false, List, length, set, Option, Some, None}
use Rattle.jfs_bits.specs.Field.{AreBytes}
use Rattle.jfs_disk.specs.Image.{Image, page_of}

-- of the first `n` pages of a file none behind page `k` has the place p
abbrev pub IsLast : ℕ → (ℕ → Option ℕ) → ℕ → ℕ → Type 0
IsLast n place k p = (j : ℕ) → j < n → place j ≡ Some p → j ≤ k

-- The first `n` pages of a file are put, in their order, each into its place, where it has one: so the last one that has a place stands there. All else is as it was.
pub record ArePut (n : ℕ) (place : ℕ → Option ℕ) (Is : ℕ → List ℕ → Type 0) (old new : Image) : Type 0 where
  pub number : length new ≡ length old
  pub others : (p : ℕ) → ((k : ℕ) → k < n → place k ≡ Some p → ⊥) → page_of new p ≡ page_of old p
  pub each : (k p : ℕ) → k < n → place k ≡ Some p → IsLast n place k p → Is k (page_of new p)

-- page `k` of a file, and a list of bytes
abbrev pub InBytes : (ℕ → List ℕ → Type 0) → ℕ → List ℕ → Type 0
InBytes Is k page = Is k page × AreBytes page

-- the place of a page that is in use
abbrev pub place_if : Bool → Option ℕ → Option ℕ
place_if true place = place
place_if false place = None

-- a page stands in its place, where it has one
abbrev pub put_at : Option ℕ → List ℕ → Image → Image
put_at None page image = image
put_at (Some p) page image = set image p page

-- one page of a file is put into its place, where it has one
pub record IsPut (place : Option ℕ) (Is : List ℕ → Type 0) (old new : Image) : Type 0 where
  pub page : List ℕ
  pub is : (p : ℕ) → place ≡ Some p → Is page
  pub now : new ≡ put_at place page old
