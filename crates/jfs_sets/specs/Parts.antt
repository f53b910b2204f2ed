-- Parts of the pages of a file, one behind the other.
use Rattle.std.specs.Prelude.{◌≡◌, ◌≤◌, ◌<◌, ◌+◌, ℕ, zero, suc, List, [], ◌++◌, length, replicate, Option, Some, None}
use Rattle.std.specs.Option.{option_map}
use Rattle.jfs_bits.specs.declared.extent.Xad.{Xad}
use Rattle.jfs_bits.specs.Field.{range_of}
use Rattle.jfs_mount.specs.objects.specs.Contents.{block_of, bytes_at}

-- a part of a page, or zeros where there is none
abbrev pub or_zeros : ℕ → Option (List ℕ) → List ℕ
or_zeros size None = replicate size 0
or_zeros size (Some part) = part

-- so many bytes of page `j` of a file, from `at` on
abbrev pub part_of : (ℕ → List ℕ) → List Xad → ℕ → ℕ → ℕ → List ℕ
part_of page extents at size j = or_zeros size (option_map (λ p. range_of p at size) (bytes_at page (block_of extents j)))

-- those of `n` pages from page `j` on
unfoldable pub parts_from : (ℕ → List ℕ) → ℕ → ℕ → List ℕ
parts_from part j zero = []
parts_from part j (suc n) = part j ++ parts_from part (suc j) n

-- the bytes are these parts, each of the same size
pub record AreParts (size : ℕ) (part : ℕ → List ℕ) (first pages : ℕ) (bytes : List ℕ) : Type 0 where
  pub are : bytes ≡ parts_from part first pages
  pub each : (j : ℕ) → first ≤ j → j < first + pages → length (part j) ≡ size
