-- Numbers and bytes at fixed places of a page. (JFS Layout: every number is little endian.)
use Rattle.std.specs.Prelude.{ℕ, ◌+◌, ◌<◌, List, ◌++◌, length, take, drop, slice_index}
use Rattle.byteorder.specs.Endian.{little_from}

-- the number in `width` bytes from `at` on: the sum of the bytes times the powers of 256, the lowest first
unfoldable pub field_of : List ℕ → ℕ → ℕ → ℕ
field_of bytes at width = little_from at width bytes

-- the `width` bytes from `at` on
unfoldable pub range_of : List ℕ → ℕ → ℕ → List ℕ
range_of bytes at width = take width (drop at bytes)

-- the bytes with others in their place from `at` on
unfoldable pub put_bytes : ℕ → List ℕ → List ℕ → List ℕ
put_bytes at new bytes = take at bytes ++ (new ++ drop (at + length new) bytes)

-- each number is one byte
abbrev pub AreBytes : List ℕ → Type 0
AreBytes bytes = (n : ℕ) → slice_index bytes n < 256
