-- Values of leaves and their ranks.
use Rattle.std.proofs.Common.{◌≡◌, ◌≤◌, ◌+◌, ℕ, List, to_z, of_z, w8, arith}
use Rattle.std.specs.Prelude.{ℤ, pos, negsuc}
use Rattle.std.proofs.lemmas.Int.{to_z-of_z}
use Rattle.jfs_buddy.specs.Tree.{rank_of}
use Rattle.jfs_dmapctl.specs.Control.{whole_of, value_at, ranks_of, IsValue}

pub rank-most : (level : ℕ) (value : ℤ) → IsValue level value → rank_of value ≤ whole_of level + 1
rank-most level (pos l2) h = omega arith
rank-most level (negsuc n) h = omega arith

pub ranks-most : (level : ℕ) (values : List ℤ) → ((v : ℕ) → IsValue level (value_at values v)) → (v : ℕ) → ranks_of values v ≤ whole_of level + 1
ranks-most level values h v = rank-most level (value_at values v) (h v)

-- a value read as bits
pub value-read : (level : ℕ) (value : ℤ) → level ≤ 2 → IsValue level value → to_z w8 (of_z w8 value) ≡ value
value-read level (pos l2) h k = to_z-of_z w8 (pos l2) (omega arith)
value-read level (negsuc n) h k = to_z-of_z w8 (negsuc n) (omega arith)
