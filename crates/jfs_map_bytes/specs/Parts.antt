-- Bytes that are made part by part, and sets as bits.
use Rattle.std.specs.Prelude.{ℕ, zero, suc, ◌+◌, ◌*◌, Bool, if◌then◌else◌, List, [], ◌++◌, replicate}
use Rattle.byteorder.specs.Endian.{little_bytes}

-- so many parts, one behind the other
unfoldable pub joined_below : ℕ → (ℕ → List ℕ) → List ℕ
joined_below zero part = []
joined_below (suc n) part = joined_below n part ++ part n

-- the number of so many bits, the most significant one first
unfoldable pub number_of : ℕ → (ℕ → Bool) → ℕ
number_of zero bit = 0
number_of (suc n) bit = 2 * number_of n bit + (if bit n then 1 else 0)

-- a set as a map of so many words, with a bit for each number
unfoldable pub set_bytes : ℕ → (ℕ → Bool) → List ℕ
set_bytes words taken = joined_below words (λ w. little_bytes 4 (number_of 32 (λ i. taken (32 * w + i))))

-- an empty page
unfoldable pub zeros : List ℕ
zeros = replicate 4096 0
