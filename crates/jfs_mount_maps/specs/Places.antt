-- Where the pages of a file lie.
use Rattle.std.specs.Prelude.{◌≡◌, ℕ, List, slice_get, Some}
use Rattle.jfs_bits.specs.declared.extent.Xad.{Xad}
use Rattle.jfs_sets.specs.objects.specs.Contents.{block_of}

-- each of these blocks holds the page of its number of the file that has these extents
abbrev pub ArePlacesOf : List Xad → List ℕ → Type 0
ArePlacesOf extents places = (n b : ℕ) → slice_get places n ≡ Some b → block_of extents n ≡ Some b
