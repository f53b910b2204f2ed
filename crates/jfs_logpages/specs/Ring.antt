-- The ring of log pages: what a page holds, and what the ring reads as.
use Rattle.std.specs.Prelude.{◌≡◌, ◌<◌, ◌≤◌, ◌+◌, ◌-◌, ◌*◌, ◌/◌, ◌%◌, ◌⊎◌, ℕ, zero, suc, min, max, List, [], ◌∷◌, ◌++◌, length, take, drop, get_or, map, replicate, nat_le, if◌then◌else◌}
use Rattle.jfs_disk.specs.Crash.{DiskState, Leaves, AllSince, last_of}
use Rattle.jfs_disk.specs.Image.{Image, page_of}
use Rattle.byteorder.specs.Endian.{little_bytes}
use Rattle.jfs_bits.specs.Piece.{Piece}
use Rattle.jfs_bits.specs.Field.{field_of, range_of}

-- ---- one page

abbrev pub head_number : List ℕ → ℕ
head_number page = field_of page 0 4

abbrev pub tail_number : List ℕ → ℕ
tail_number page = field_of page 4088 4

-- where the last record on the page ends: the smaller of the two
abbrev pub eor_of : List ℕ → ℕ
eor_of page = min (field_of page 6 2) (field_of page 4094 2)

abbrev pub body_of : List ℕ → List ℕ
body_of page = range_of page 8 4080

-- whole, with this number
abbrev pub IsNumbered : ℕ → List ℕ → Type 0
IsNumbered q page = (head_number page ≡ q) × (tail_number page ≡ q)

-- header and trailer: the number, and the end of the last record
unfoldable pub ring_pieces : ℕ → ℕ → List Piece
ring_pieces number eor =
    record { at = 0; bytes = little_bytes 4 number } ∷
    record { at = 6; bytes = little_bytes 2 eor } ∷
    record { at = 4088; bytes = little_bytes 4 number } ∷
    record { at = 4094; bytes = little_bytes 2 eor } ∷ []

-- ---- the ring

-- page number q stands at its place
abbrev pub slot : ℕ → Image → ℕ → List ℕ
slot ring image q = page_of image (2 + q % ring)

-- half a ring of pages up to q, each whole and in its place
pub record IsRun (ring : ℕ) (image : Image) (q : ℕ) : Type 0 where
  pub long : ring / 2 ≤ q + 1
  pub each : (k : ℕ) → k ≤ q → q < k + ring / 2 → IsNumbered k (slot ring image k)

-- the bodies of n pages from a first one on
abbrev pub bodies : ℕ → Image → ℕ → ℕ → List ℕ
bodies ring image first zero = []
bodies ring image first (suc n) = bodies ring image first n ++ body_of (slot ring image (first + n))

-- their text, up to the end of the last record on them. An end before the body is taken as its start, one behind it as its end.
abbrev pub text_of : ℕ → Image → ℕ → ℕ → List ℕ
text_of ring image first zero = []
text_of ring image first (suc n) =
    let page = slot ring image (first + n) in
    if nat_le (eor_of page) 8 then text_of ring image first n else bodies ring image first n ++ take (eor_of page - 8) (body_of page)

-- what the ring reads as: the number of the oldest page that belongs to it, and the text from there on
pub record Reads (ring : ℕ) (image : Image) (first : ℕ) (text : List ℕ) : Type 0 where
  pub last : ℕ
  pub run : IsRun ring image last
  pub greatest : (q : ℕ) → IsRun ring image q → q ≤ last
  pub start : first ≡ last + 1 - ring / 2
  pub content : text ≡ text_of ring image first (ring / 2)

-- ---- what the log's text makes of a page. The text and the places where its records end go from page number 0 on.

-- the greatest end up to a place, and 0 where there is none
abbrev pub last_end : List ℕ → ℕ → ℕ
last_end [] upto = 0
last_end (e ∷ es) upto = if nat_le e upto then max e (last_end es upto) else last_end es upto

-- 8 where no record ends on the page
abbrev pub eor_at : List ℕ → ℕ → ℕ
eor_at ends q = 8 + (last_end ends (4080 * suc q) - 4080 * q)

-- page number q of a text, as it reads; what stands behind the text is of no account
pub record IsPageOf (text : List ℕ) (ends : List ℕ) (q : ℕ) (page : List ℕ) : Type 0 where
  pub size : length page ≡ 4096
  pub number : IsNumbered q page
  pub eor : eor_of page ≡ eor_at ends q
  pub begins : (i : ℕ) → i < 4080 → 4080 * q + i < length text → get_or page (8 + i) 0 ≡ get_or text (4080 * q + i) 0

-- the same page as it is written: header and trailer agree
pub record IsWritten (text : List ℕ) (ends : List ℕ) (q : ℕ) (page : List ℕ) : Type 0 where
  pub size : length page ≡ 4096
  pub number : IsNumbered q page
  pub head_eor : field_of page 6 2 ≡ eor_at ends q
  pub tail_eor : field_of page 4094 2 ≡ eor_at ends q
  pub begins : (i : ℕ) → i < 4080 → 4080 * q + i < length text → get_or page (8 + i) 0 ≡ get_or text (4080 * q + i) 0

-- the body's first bytes are those of page q of a text
abbrev pub HasFront : List ℕ → ℕ → ℕ → List ℕ → Type 0
HasFront text q size page = (i : ℕ) → i < size → (4080 * q + i < length text) × (get_or page (8 + i) 0 ≡ get_or text (4080 * q + i) 0)

-- ---- the ring of a text whose last page has number q, as it is written

pub record IsRing (ring : ℕ) (text : List ℕ) (ends : List ℕ) (q : ℕ) (image : Image) : Type 0 where
  pub each : (k : ℕ) → k ≤ q → q < k + ring → IsWritten text ends k (slot ring image k)
  -- no later page stands anywhere
  pub none : (k : ℕ) → q < k → tail_number (slot ring image k) ≡ k → ⊥

-- ---- a ring that reads: half a ring of pages up to q, and page q + 1 isn't there
pub record Shows (ring : ℕ) (text : List ℕ) (ends : List ℕ) (q : ℕ) (image : Image) : Type 0 where
  pub long : ring / 2 ≤ q + 1
  pub each : (k : ℕ) → k ≤ q → q < k + ring / 2 → IsPageOf text ends k (slot ring image k)
  pub next : IsNumbered (suc q) (slot ring image (suc q)) → ⊥
  pub none : (k : ℕ) → q + ring / 2 ≤ k → IsNumbered k (slot ring image k) → ⊥

-- in the middle of writing the pages after `low` up to `high`: those up to `low` are there, each later one may be
pub record Mid (ring : ℕ) (text : List ℕ) (ends : List ℕ) (low high : ℕ) (image : Image) : Type 0 where
  pub sizes : (k : ℕ) → length (slot ring image k) ≡ 4096
  pub base : (k : ℕ) → k ≤ low → low < k + ring / 2 → IsPageOf text ends k (slot ring image k)
  pub each : (k : ℕ) → low < k → k ≤ high → (IsWritten text ends k (slot ring image k)) ⊎ (tail_number (slot ring image k) ≡ k → ⊥)
  pub none : (k : ℕ) → high < k → tail_number (slot ring image k) ≡ k → ⊥

-- a text goes on: what was there is as it was, and so are the ends up to there
pub record GoesOn (text ends more later : List ℕ) : Type 0 where
  pub longer : (i : ℕ) → i < length text → (i < length more) × (get_or more i 0 ≡ get_or text i 0)
  pub ends_same : (u : ℕ) → u ≤ length text → last_end later u ≡ last_end ends u

-- ends that rise from one place to another, which is the last of them
abbrev pub AreEnds : ℕ → ℕ → List ℕ → Type 0
AreEnds low high [] = low ≡ high
AreEnds low high (e ∷ es) = (low < e) × AreEnds e high es

-- the ends of a text and a group behind it
abbrev pub ends_with : ℕ → List ℕ → List ℕ → List ℕ
ends_with size ends group_ends = ends ++ map (λ e. size + e) group_ends

-- the ring of a text, nothing pending
pub record IsLog (ring : ℕ) (text ends : List ℕ) (q : ℕ) (image : Image) : Type 0 where
  pub is_ring : IsRing ring text ends q image
  pub ended : AreEnds 0 (length text) ends
  pub starts : 4080 * q < length text
  pub stops : length text ≤ 4080 * suc q
  pub long : ring ≤ q + 1

-- the ring reads as the text and then some of the group's records, from at most half a ring before page `high` on
pub record ReadsPrefix (ring : ℕ) (text group group_ends : List ℕ) (high : ℕ) (image : Image) : Type 0 where
  pub upto : ℕ
  pub first : ℕ
  pub reach : first + ring / 2 ≤ high + 1
  pub reads : Reads ring image first (drop (4080 * first) (text ++ take (last_end group_ends upto) group))

-- a group behind a text: where it stands, and where its last page is
pub record IsGroup (ring : ℕ) (text group ends group_ends : List ℕ) (low high : ℕ) : Type 0 where
  pub some : 2 ≤ ring
  pub before : AreEnds 0 (length text) ends
  pub after : AreEnds 0 (length group) group_ends
  pub starts : 4080 * low < length text
  pub stops : length text ≤ 4080 * suc low
  pub long : ring ≤ low + 1
  pub order : low ≤ high
  pub near : high < low + ring / 2

-- the ring reads as the whole text, half a ring back from its last page
abbrev pub ReadsWhole : ℕ → List ℕ → ℕ → Image → Type 0
ReadsWhole ring text q image = Reads ring image (q + 1 - ring / 2) (drop (4080 * (q + 1 - ring / 2)) text)

-- the last page that is kept: its number, how much of it is text, and its bytes
pub record IsLast (ring number fill : ℕ) (bytes text ends : List ℕ) : Type 0 where
  pub size : length text ≡ 4080 * number + fill
  pub ended : AreEnds 0 (length text) ends
  pub long : ring ≤ number + 1
  pub starts : 0 < fill
  pub stops : fill ≤ 4080
  pub page : IsWritten text ends number bytes

-- from one image and past to another: the pages of a group behind page `low` up to page q are written. `fill` is the size of the text on page `low`.
pub record Further (tells crashes : Type 0) (ring low high fill : ℕ) (group group_ends : List ℕ) (start now : Image) (past states : List DiskState) (q : ℕ) : Type 0 where
  pub image : tells → (text ends : List ℕ) → IsGroup ring text group ends group_ends low high → length text ≡ 4080 * low + fill
      → IsRing ring (text ++ group) (ends_with (length text) ends group_ends) low start → IsRing ring (text ++ group) (ends_with (length text) ends group_ends) q now
  pub moments : tells → crashes → (text ends : List ℕ) → IsGroup ring text group ends group_ends low high → length text ≡ 4080 * low + fill
      → Leaves (Mid ring (text ++ group) (ends_with (length text) ends group_ends) low low) (last_of past)
      → Leaves (Mid ring (text ++ group) (ends_with (length text) ends group_ends) low q) (last_of states)
  pub all : tells → crashes → (text ends : List ℕ) → IsGroup ring text group ends group_ends low high → length text ≡ 4080 * low + fill
      → Leaves (Mid ring (text ++ group) (ends_with (length text) ends group_ends) low low) (last_of past)
      → (t : ℕ) → AllSince (ReadsPrefix ring text group group_ends high) past t → AllSince (ReadsPrefix ring text group group_ends high) states t

-- the text of a fresh ring: zeros on all pages but the last, and one record
abbrev pub fresh_text : ℕ → List ℕ → List ℕ
fresh_text ring bytes = replicate (4080 * (ring - 1)) 0 ++ bytes

abbrev pub fresh_ends : ℕ → List ℕ
fresh_ends ring = (4080 * (ring - 1) + 36) ∷ []
