-- A log as it is made: its superblock, and a ring with one record.
use Rattle.std.specs.Prelude.{◌≡◌, ◌<◌, ◌≤◌, ◌+◌, ◌-◌, ◌⊎◌, ℕ, List, [], ◌∷◌, ◌++◌, length, get_or, replicate, codes}
use Rattle.jfs_disk.specs.Image.{Image, page_of}
use Rattle.jfs_disk.specs.Crash.{DiskState, history_of, last_of, torn, AllSince, Leaves}
use Rattle.jfs_bits.specs.Piece.{puts}
use Rattle.jfs_logfmt.specs.declared.log_record.Record.{Record}
use Rattle.jfs_logfmt.specs.declared.log_record.Record.TheVariants.{SyncPt}
use Rattle.jfs_logfmt.specs.declared.log_super.LogSuper.{LogSuper}
use Rattle.jfs_logfmt.specs.Super.{log_super_pieces}
use Rattle.jfs_logfmt.specs.Written.{text_of}
use Rattle.jfs_logpages.specs.Ring.{IsWritten, IsRing, fresh_text, fresh_ends}

-- redo begins at this record
abbrev pub first_record : Record
first_record = SyncPt 0

-- 16 bytes, with zeros at their end
abbrev pub own_label : List ℕ
own_label = codes "jfsd profile 1" ++ 0 ∷ 0 ∷ []

-- the superblock of a log of so many pages
abbrev pub fresh_super : ℕ → List ℕ → LogSuper
fresh_super pages uuid = record { serial = 0; size = pages; state = 0; uuid = uuid; label = own_label }

abbrev pub super_page : ℕ → List ℕ → List ℕ
super_page pages uuid = puts (log_super_pieces (fresh_super pages uuid)) (replicate 4096 0)

-- a page outside of `count` ones from `first` on
abbrev pub IsOutside : ℕ → ℕ → ℕ → Type 0
IsOutside first count n = (n < first) ⊎ (first + count ≤ n)

-- all pages but `count` ones from `first` on are as they were
abbrev pub OthersStay : ℕ → ℕ → Image → Image → Type 0
OthersStay first count old new = (n : ℕ) → IsOutside first count n → page_of new n ≡ page_of old n

-- The past goes on, and at each moment since then a crash may leave of the kept pages what it might have left of them before.
pub record HistoriesStay (kept : ℕ → Type 0) (old new : List DiskState) : Type 0 where
  pub longer : length old ≤ length new
  pub before : (k : ℕ) → k < length old → get_or new k [] ≡ get_or old k []
  pub sizes : (k : ℕ) → length old ≤ k → k < length new → length (get_or new k []) ≡ length (last_of old)
  pub pages : (k : ℕ) → length old ≤ k → k < length new → (n : ℕ) → kept n → history_of (get_or new k []) n ≡ history_of (last_of old) n

-- page n of a fresh log of so many pages that begins at page `base`: its superblock's, or one of its ring
abbrev pub IsFreshPage : ℕ → ℕ → List ℕ → ℕ → List ℕ → Type 0
IsFreshPage base pages uuid n page =
    ((n ≡ base + 1) × (page ≡ super_page pages uuid))
    ⊎ ((q : ℕ) × (q < pages - 2) × (n ≡ base + 2 + q) × IsWritten (fresh_text (pages - 2) (text_of first_record)) (fresh_ends (pages - 2)) q page)

-- While a log is made: each page is as it was, or it is front sectors of the fresh one and then the rest of what was there, up to all 8 sectors.
-- (So no more can be said of what the ring reads as: old pages among the fresh ones may belong to no ring that was written.)
abbrev pub IsPartlyFresh : ℕ → ℕ → List ℕ → Image → Image → Type 0
IsPartlyFresh base pages uuid old left =
    (n : ℕ) → (page_of left n ≡ page_of old n)
    ⊎ ((fresh : List ℕ) × (sectors : ℕ) × IsFreshPage base pages uuid n fresh × (sectors ≤ 8) × (page_of left n ≡ torn sectors fresh (page_of old n)))

-- for the prover: so many pages of the ring are written, and the others, but for the superblock's, are as they were
pub record IsBegun (base pages : ℕ) (uuid : List ℕ) (old : Image) (t done : ℕ) (past : List DiskState) : Type 0 where
  pub since : t < length past
  pub all : AllSince (IsPartlyFresh base pages uuid old) past t
  pub still : (n : ℕ) → (n < base + 2) ⊎ (base + 2 + done ≤ n) → Leaves (λ left. page_of left n ≡ page_of old n) (last_of past)

-- a log of so many pages, of which the ring has all but the first two
pub record IsFreshLog (pages : ℕ) (uuid : List ℕ) (log : Image) : Type 0 where
  pub super_block : page_of log 1 ≡ super_page pages uuid
  pub ring : IsRing (pages - 2) (fresh_text (pages - 2) (text_of first_record)) (fresh_ends (pages - 2)) (pages - 3) log
