-- Sets of blocks as bits. (JFS Layout, block map: a set bit is a taken block, and the most significant bit of a word is its first block.)
use Rattle.std.specs.Prelude.{◌≡◌, ℕ, zero, suc, ◌+◌, ◌-◌, ◌*◌, ◌/◌, ◌%◌, ◌^◌, ◌<◌, Bool, true, false, not, ◌&&◌, ◌||◌, nat_le, nat_lt, ◌==◌, ℤ, pos, negsuc, if◌then◌else◌, List, Option, Some, None}
use Rattle.std.specs.Int.{bit_at}
use Rattle.jfs_bits.specs.Field.{field_of}

-- each number below `n` passes the test
unfoldable pub all_below : ℕ → (ℕ → Bool) → Bool
all_below zero test = true
all_below (suc n) test = all_below n test && test n

-- some number below `n` passes the test
unfoldable pub any_below : ℕ → (ℕ → Bool) → Bool
any_below zero test = false
any_below (suc n) test = any_below n test || test n

-- how many numbers below `n` pass the test
unfoldable pub count_below : ℕ → (ℕ → Bool) → ℕ
count_below zero test = 0
count_below (suc n) test = count_below n test + (if test n then 1 else 0)

-- block `i` of the 32 of a word is taken
unfoldable pub is_taken_in : ℕ → ℕ → Bool
is_taken_in word i = bit_at word (31 - i) == 1

-- block `i` of a map of 32-bit little-endian words is taken
unfoldable pub is_taken : List ℕ → ℕ → Bool
is_taken map i = is_taken_in (field_of map (4 * (i / 32)) 4) (i % 32)

-- one of the `n` numbers from `first` on
abbrev pub is_in_run : ℕ → ℕ → ℕ → Bool
is_in_run first n i = nat_le first i && nat_lt i (first + n)

-- none of the `n` blocks from `first` on is taken
unfoldable pub is_free : (ℕ → Bool) → ℕ → ℕ → Bool
is_free taken first n = all_below n (λ i. not (taken (first + i)))

-- each of them is taken
unfoldable pub is_full : (ℕ → Bool) → ℕ → ℕ → Bool
is_full taken first n = all_below n (λ i. taken (first + i))

-- the aligned run `j` of 2 ^ l2 blocks is free
abbrev pub is_free_run : (ℕ → Bool) → ℕ → ℕ → Bool
is_free_run taken l2 j = is_free taken (j * 2 ^ l2) (2 ^ l2)

-- the first block of the lowest free one among the first `runs` aligned runs of 2 ^ l2 blocks; `None` exactly where none of them is free
abbrev pub IsLowestFree : (ℕ → Bool) → ℕ → ℕ → Option ℕ → Type 0
IsLowestFree taken runs l2 None = (j : ℕ) → j < runs → is_free_run taken l2 j ≡ false
IsLowestFree taken runs l2 (Some first) = (j : ℕ) × (j < runs) × (first ≡ j * 2 ^ l2) × (is_free_run taken l2 j ≡ true) × ((i : ℕ) → i < j → is_free_run taken l2 i ≡ false)

-- some aligned run of 2 ^ l2 of the first 2 ^ span blocks is free
unfoldable pub has_free_run : (ℕ → Bool) → ℕ → ℕ → Bool
has_free_run taken span l2 = any_below (2 ^ (span - l2)) (is_free_run taken l2)

-- the greatest l2 up to `top` for which some aligned run of 2 ^ l2 of the first 2 ^ span blocks is free, -1 where none is
unfoldable pub greatest_run : (ℕ → Bool) → ℕ → ℕ → ℤ
greatest_run taken span zero = if has_free_run taken span 0 then pos 0 else negsuc 0
greatest_run taken span (suc top) = if has_free_run taken span (suc top) then pos (suc top) else greatest_run taken span top

-- a word's maximal buddy: a wholly free word has 5
unfoldable pub max_bud_of : ℕ → ℤ
max_bud_of word = greatest_run (is_taken_in word) 5 5
