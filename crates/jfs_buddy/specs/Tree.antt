-- Trees of ranks, four children to a node, level after level. (JFS Layout: the tree of a dmap or control page.)
-- The rank of a value is the value plus 1: 0 where no block is free (the value -1), k + 1 where the greatest free run has 2 ^ k blocks.
use Rattle.std.specs.Prelude.{◌≡◌, ℕ, zero, suc, ◌+◌, ◌*◌, ◌%◌, ◌^◌, ◌<◌, ◌≤◌, ◌==◌, if◌then◌else◌, max, ℤ, pos, negsuc, List, length, slice_index}

-- the rank of a value
abbrev pub rank_of : ℤ → ℕ
rank_of (pos value) = suc value
rank_of (negsuc n) = 0

-- the rank of node `n`, whose byte is its value as two's complement
unfoldable pub rank_at : List ℕ → ℕ → ℕ
rank_at tree n = (slice_index tree n + 1) % 256

-- the first of the nodes that stand `depth` levels below the root
abbrev pub first_of : ℕ → ℕ
first_of zero = 0
first_of (suc depth) = 4 * first_of depth + 1

-- the number of leaves under a root of this height
abbrev pub leaves_of : ℕ → ℕ
leaves_of height = 2 ^ (2 * height)

-- leaf `v` of a tree
abbrev pub leaf_at : ℕ → List ℕ → ℕ → ℕ
leaf_at height tree v = rank_at tree (first_of height + v)

-- node `n` has the greatest rank of its four children
abbrev pub greatest_of : (ℕ → ℕ) → ℕ → ℕ
greatest_of ranks n = max (max (ranks (4 * n + 1)) (ranks (4 * n + 2))) (max (ranks (4 * n + 3)) (ranks (4 * n + 4)))

-- For the prover alone: the ranks with that of node `n` replaced.
abbrev pub with_rank : (ℕ → ℕ) → ℕ → ℕ → ℕ → ℕ
with_rank ranks n rank m = if n == m then rank else ranks m

-- an inner node is the greatest of its four children
abbrev pub HasMaxima : List ℕ → Type 0
HasMaxima tree = (n : ℕ) → 4 * n + 4 < length tree → rank_at tree n ≡ greatest_of (rank_at tree) n

-- For the prover alone: the first of the four children of node `n` whose rank is at least `least`, if one's is.
abbrev pub IsFirstFitting : (ℕ → ℕ) → ℕ → ℕ → ℕ → Type 0
IsFirstFitting ranks n least child = (i : ℕ) × (i < 4) × (child ≡ 4 * n + 1 + i) × ((k : ℕ) → k < i → ranks (4 * n + 1 + k) < least) × (least ≤ greatest_of ranks n → least ≤ ranks child)
