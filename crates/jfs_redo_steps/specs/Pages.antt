-- A disk whose pages are redone.
use Rattle.std.specs.Prelude.{◌≡◌, ◌⊎◌, ◌<◌, ◌≤◌, ℕ, nat_lt, if◌then◌else◌, List, [], ◌∷◌, ◌++◌, length}
use Rattle.jfs_disk.specs.Image.{Image, page_of, ArePages}
use Rattle.jfs_disk.specs.Crash.{DiskState, TearsPage, LeavesTorn, AllSince, Leaves, torn, written, last_of}
use Rattle.jfs_ranges.specs.declared.edit.Edit.{Edit}
use Rattle.jfs_records.specs.Redo.{redone}

-- what redo makes of a page, where it is one of the first; else it is as it was
abbrev pub redone_page : ℕ → List Edit → Image → ℕ → List ℕ
redone_page count es old p = if nat_lt p count then redone p (page_of old p) (page_of old p) es else page_of old p

-- Each of the first pages is what redo makes of it, and all others are as they were.
pub record ArePagesRedone (count : ℕ) (es : List Edit) (old new : Image) : Type 0 where
  pub number : length new ≡ length old
  pub pages : (p : ℕ) → page_of new p ≡ redone_page count es old p

-- A page is as it was, or front sectors of what redo makes of it stand over it; all others are as they were.
abbrev pub MayBeTorn : ℕ → List Edit → Image → Image → Type 0
MayBeTorn p es old new = (new ≡ old) ⊎ TearsPage p (redone p (page_of old p) (page_of old p) es) old new

-- Redo stopped at a page: those before it are redone.
pub record IsStopped (count : ℕ) (es : List Edit) (old new : Image) : Type 0 where
  pub at : ℕ
  pub low : at < count
  pub mid : Image
  pub before : ArePagesRedone at es old mid
  pub torn : MayBeTorn at es mid new

-- What a crash leaves meanwhile: of each page front sectors of what redo makes of it, over what it was.
pub record IsOnTheWay (count : ℕ) (es : List Edit) (old left : Image) : Type 0 where
  pub number : length left ≡ length old
  pub pages : (p : ℕ) → p < length old → (sectors : ℕ) × (sectors ≤ 8) × (page_of left p ≡ torn sectors (redone_page count es old p) (page_of old p))

-- the moments since t, and the one now
pub record AreOnTheWay (count : ℕ) (es : List Edit) (old : Image) (t : ℕ) (past : List DiskState) : Type 0 where
  pub all : AllSince (IsOnTheWay count es old) past t
  pub now : Leaves (IsOnTheWay count es old) (last_of past)

-- redo of such an image makes the same pages
abbrev pub RedoneAgain : Type 0
RedoneAgain = (count : ℕ) (es : List Edit) (old left new again : Image) → ArePages (length old) old → IsOnTheWay count es old left → ArePagesRedone count es old new → ArePagesRedone count es left again
    → (p : ℕ) → p < length old → page_of again p ≡ page_of new p

-- for the prover alone: a page was written, or that failed, or nothing was
abbrev pub WritesPage : ℕ → List ℕ → List DiskState → List DiskState → Type 0
WritesPage p bytes old new = (new ≡ old ++ written p bytes (last_of old) ∷ []) ⊎ LeavesTorn p bytes old new
