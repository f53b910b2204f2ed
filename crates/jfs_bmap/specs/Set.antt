-- Sets of the blocks of a volume.
use Rattle.std.specs.Prelude.{◌≡◌, ℕ, ◌+◌, ◌*◌, ◌^◌, ◌≤◌, ◌<◌, ◌⊎◌, Bool, true, false, not, ◌&&◌, ◌||◌, List, length, slice_index_or, map, Option, Some, None}
use Rattle.std.specs.List.{range_with_len}
use Rattle.jfs_bits.specs.Bits.{is_in_run, is_free, is_free_run, count_below}

-- the value of each number below `n`, in order
abbrev pub each_below : {X : Type 0} → ℕ → (ℕ → X) → List X
each_below n value = map value (range_with_len 0 n)

-- block `b` is taken, by a list that has `true` for each taken block; one past the end counts as taken
abbrev pub taken_at : List Bool → ℕ → Bool
taken_at set b = slice_index_or set b true

-- the set with the `n` blocks from `first` on taken too
abbrev pub marked : ℕ → ℕ → List Bool → List Bool
marked first n set = each_below (length set) (λ b. is_in_run first n b || taken_at set b)

-- the set with the `n` blocks from `first` on free
abbrev pub cleared : ℕ → ℕ → List Bool → List Bool
cleared first n set = each_below (length set) (λ b. not (is_in_run first n b) && taken_at set b)

-- the number of free blocks
abbrev pub free_in : List Bool → ℕ
free_in set = count_below (length set) (λ b. not (taken_at set b))

-- the first block of the lowest free aligned run of 2 ^ l2 blocks; `None` exactly where there is none
abbrev pub IsLowest : (ℕ → Bool) → ℕ → Option ℕ → Type 0
IsLowest taken l2 None = (j : ℕ) → is_free_run taken l2 j ≡ false
IsLowest taken l2 (Some first) = (j : ℕ) × (first ≡ j * 2 ^ l2) × (is_free_run taken l2 j ≡ true) × ((i : ℕ) → i < j → is_free_run taken l2 i ≡ false)

-- some aligned run of 2 ^ l2 blocks is free
abbrev pub HasFreeRun : (ℕ → Bool) → ℕ → Type 0
HasFreeRun taken l2 = (j : ℕ) × (is_free_run taken l2 j ≡ true)

-- how many blocks from `first` on are free, as far as `limit` of them
pub record IsFreeFront (taken : ℕ → Bool) (first limit n : ℕ) : Type 0 where
  pub most : n ≤ limit
  pub free : is_free taken first n ≡ true
  pub end : (n ≡ limit) ⊎ (taken (first + n) ≡ true)
