-- What blocks of a file hold once bytes are put into it.
use Rattle.std.specs.Prelude.{ℕ, ◌-◌, ◌*◌, if◌then◌else◌, List, [], ◌∷◌, ◌++◌, length, replicate, take, drop}
use Rattle.jfs_bits.specs.Field.{put_bytes}
use Rattle.jfs_data_steps.specs.declared.pages.DataPage.{DataPage}
use Rattle.jfs_write_pages.specs.declared.spot.Spot.{Spot}

-- the first so many bytes of a page, and zeros behind them
abbrev pub kept : ℕ → List ℕ → List ℕ
kept n page = take n page ++ replicate (length page - n) 0

-- Of bytes that are put at an offset of a file, those that go into the page that has the file's bytes from `start` on.
abbrev pub part : ℕ → List ℕ → ℕ → List ℕ
part offset bytes start = take (4096 - (offset - start)) (drop (start - offset) bytes)

-- a page with them in their place
abbrev pub patched : ℕ → List ℕ → ℕ → List ℕ → List ℕ
patched offset bytes start page = put_bytes (offset - start) (part offset bytes start) page

-- What the page of a file of this size holds then: what it held before the end, zeros behind it, and the bytes over both.
abbrev pub content : ℕ → ℕ → List ℕ → ℕ → List ℕ → List ℕ
content size offset bytes start page = patched offset bytes start (kept (size - start) page)

-- A block that isn't recorded held zeros.
abbrev pub old_page : (ℕ → List ℕ) → Spot → List ℕ
old_page pages s = if s.recorded then pages s.block else replicate 4096 0

-- a block of the volume with what it is to hold
abbrev pub page_for : (ℕ → List ℕ) → ℕ → ℕ → List ℕ → Spot → ℕ × List ℕ
page_for pages size offset bytes s = (s.block, content size offset bytes (4096 * s.index) (old_page pages s))

abbrev pub pages_for : (ℕ → List ℕ) → ℕ → ℕ → List ℕ → List Spot → List (ℕ × List ℕ)
pages_for pages size offset bytes [] = []
pages_for pages size offset bytes (s ∷ ss) = page_for pages size offset bytes s ∷ pages_for pages size offset bytes ss

-- blocks that are to be written, as pairs
abbrev pub told : List DataPage → List (ℕ × List ℕ)
told [] = []
told (d ∷ ds) = (d.block, d.page.0) ∷ told ds
