-- An image of which each sector is from one of some pages. (A crash tears a page by whole sectors of 512 bytes.)
use Rattle.std.specs.Prelude.{◌≡◌, ◌⊎◌, ◌<◌, ◌≤◌, ℕ, ◌*◌, List, length}
use Rattle.jfs_bits.specs.Field.{range_of}
use Rattle.jfs_disk.specs.Image.{Image, page_of}
use Rattle.jfs_disk.specs.Crash.{DiskState, AllSince, Leaves, last_of}

abbrev pub sector : ℕ → List ℕ → List ℕ
sector i page = range_of page (512 * i) 512

-- each sector of a page is the old page's, or that of a page of which `Is` holds
pub record IsMixedPage (Is : List ℕ → Type 0) (old left : List ℕ) : Type 0 where
  pub size : length left ≡ 4096
  pub sectors : (i : ℕ) → i < 8 → (sector i left ≡ sector i old) ⊎ ((page : List ℕ) × Is page × (sector i left ≡ sector i page))

-- the first pages are mixed of the old ones and of those that may be written there; all others are as they were
pub record IsMixed (count : ℕ) (Writes : ℕ → List ℕ → Type 0) (old left : Image) : Type 0 where
  pub number : length left ≡ length old
  pub pages : (p : ℕ) → p < count → IsMixedPage (Writes p) (page_of old p) (page_of left p)
  pub others : (p : ℕ) → count ≤ p → page_of left p ≡ page_of old p

-- ---- for the prover alone: the moments of calls that write such pages

pub record AreMixed (count : ℕ) (Writes : ℕ → List ℕ → Type 0) (old : Image) (t : ℕ) (past : List DiskState) : Type 0 where
  pub number : length (last_of past) ≡ length old
  pub all : AllSince (IsMixed count Writes old) past t
  pub now : Leaves (IsMixed count Writes old) (last_of past)
