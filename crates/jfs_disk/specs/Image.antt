-- What a disk holds.
use Rattle.std.specs.Prelude.{◌≡◌, ◌<◌, ℕ, List, [], length, get_or, replicate}

-- the bytes of each page, by its number
abbrev pub Image : Type 0
Image = List (List ℕ)

abbrev pub page_of : Image → ℕ → List ℕ
page_of image n = get_or image n []

-- so many pages, each of 8 sectors with 512 bytes
pub record ArePages (count : ℕ) (image : Image) : Type 0 where
  pub number : length image ≡ count
  pub sizes : (n : ℕ) → n < count → length (page_of image n) ≡ 4096

abbrev pub zeros : ℕ → Image
zeros count = replicate count (replicate 4096 0)
