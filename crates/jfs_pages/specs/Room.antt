-- For the prover: the places of dirty pages, and the room that held pages have among them.
use Rattle.std.specs.Prelude.{◌≡◌, ◌<◌, ◌≤◌, ◌+◌, ℕ, List, [], ◌∷◌, length, if◌then◌else◌, ◌||◌, is_some}
use Rattle.jfs_pages.specs.declared.dirty.Dirty.{Dirty}
use Rattle.jfs_pages.specs.Dirty.{dirty_of, page_at, is_among}

-- page n is at place i
pub record IsAt (dirty : List Dirty) (n i : ℕ) : Type 0 where
  pub in_range : i < length dirty
  pub has_page : page_at dirty i ≡ n

-- page n would go to place i: lower pages stand before it, and higher ones from it on
pub record IsGapFor (dirty : List Dirty) (n i : ℕ) : Type 0 where
  pub in_range : i ≤ length dirty
  pub lower_before : (j : ℕ) → j < i → page_at dirty j < n
  pub higher_after : (j : ℕ) → i ≤ j → j < length dirty → n < page_at dirty j

-- how many pages are held and aren't dirty
abbrev pub waiting : List ℕ → List Dirty → ℕ
waiting [] dirty = 0
waiting (page ∷ held) dirty = (if is_some (dirty_of dirty page) || is_among page held then 0 else 1) + waiting held dirty
