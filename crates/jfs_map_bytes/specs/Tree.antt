-- The bytes of a buddy tree, by the leaves' own ranks.
use Rattle.std.specs.Prelude.{ℕ, zero, suc, ◌+◌, ◌-◌, ◌*◌, ◌%◌, nat_lt, if◌then◌else◌, List, map}
use Rattle.std.specs.List.{range_with_len}
use Rattle.jfs_buddy.specs.Tree.{first_of, greatest_of}
use Rattle.jfs_buddy.specs.Buddy.{joined}

-- the rank of node `n`, at most so many levels above the leaves, which begin at node `first`
unfoldable pub rank_in : (ℕ → ℕ) → ℕ → ℕ → ℕ → ℕ
rank_in leaf first zero n = leaf (n - first)
rank_in leaf first (suc levels) n = if nat_lt n first then greatest_of (rank_in leaf first levels) n else leaf (n - first)

-- of a tree of this height
abbrev pub node_rank : ℕ → ℕ → (ℕ → ℕ) → ℕ → ℕ
node_rank height whole own n = rank_in (joined own whole (2 * height)) (first_of height) height n

-- a node's byte is its value, its rank less 1, as two's complement
unfoldable pub tree_bytes : ℕ → ℕ → (ℕ → ℕ) → List ℕ
tree_bytes height whole own = map (λ n. (node_rank height whole own n + 255) % 256) (range_with_len 0 (first_of (suc height)))
