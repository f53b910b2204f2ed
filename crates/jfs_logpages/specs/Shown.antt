-- What a disk may hold: where it tells, that is what it says, and else some image that is as what was read.
-- Each page of the ring is read for its number, and some once more for their text; another page may then come than the first time.
use Rattle.std.specs.Prelude.{◌≡◌, ◌<◌, ◌+◌, ◌/◌, ℕ, List, length, take, drop}
use Rattle.jfs_disk.specs.Image.{Image, page_of}
use Rattle.jfs_logpages.specs.Ring.{head_number, tail_number, bodies, text_of}
use Rattle.jfs_logpages.specs.Marks.{AreMarks}

-- For each image that the disk may hold there is one that it may hold too, with the same page n, and of both P holds.
abbrev pub OfSome : Type 0 → Image → ℕ → (Image → Image → Type 0) → Type 0
OfSome tells held n P = (before : Image) → (tells → before ≡ held) → (image : Image) × (tells → image ≡ held) × (page_of image n ≡ page_of before n) × P before image

-- page p of the ring of a log that begins at page `base`
abbrev pub ring_page : ℕ → Image → ℕ → List ℕ
ring_page base image p = page_of image (base + 2 + p)

abbrev pub AreSized : ℕ → ℕ → Image → Type 0
AreSized base count image = (p : ℕ) → p < count → length (ring_page base image p) ≡ 4096

-- each page has the number that it had
abbrev pub AreNumberedAs : ℕ → ℕ → Image → Image → Type 0
AreNumberedAs base count before image =
    (p : ℕ) → p < count → (head_number (ring_page base image p) ≡ head_number (ring_page base before p)) × (tail_number (ring_page base image p) ≡ tail_number (ring_page base before p))

-- For each image that the disk may hold, with whole pages in its ring, there is one of the same numbers, and of both P holds.
abbrev pub OfText : Type 0 → Image → ℕ → ℕ → (Image → Image → Type 0) → Type 0
OfText tells held base ring P =
    (before : Image) → (tells → before ≡ held) → AreSized base ring before → (image : Image) × (tells → image ≡ held) × (page_of image (base + 1) ≡ page_of before (base + 1)) × P before image

-- the ring's first pages were read for their numbers
pub record AreMarksOf (base ring : ℕ) (marks : List ℕ) (image : Image) : Type 0 where
  pub sizes : AreSized base (length marks) image
  pub each : AreMarks ring (drop base image) marks

-- pages of the ring were read for their text, n of them from number `first` on; it ends at `end` so far
pub record AreBodiesOf (base ring first n end : ℕ) (text : List ℕ) (before image : Image) : Type 0 where
  pub sizes : AreSized base ring image
  pub numbers : AreNumberedAs base ring before image
  pub bodies : text ≡ bodies ring (drop base image) first n
  pub content : text_of ring (drop base image) first n ≡ take end text

-- half a ring from number `first` on was read for its text
pub record IsTextOf (base ring first : ℕ) (text : List ℕ) (before image : Image) : Type 0 where
  pub numbers : AreNumberedAs base ring before image
  pub content : text ≡ text_of ring (drop base image) first (ring / 2)
