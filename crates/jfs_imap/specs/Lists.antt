-- The lists of inode allocation groups, as the marks of extents tell them.
use Rattle.std.specs.Prelude.{ℕ, ◌+◌, ◌*◌, ◌%◌, ◌==◌, ◌&&◌, Bool, false, List, get_or}
use Rattle.jfs_bits.specs.Bits.{any_below}

-- IAG `k` is one of group `g`, and one of its 128 extents is marked
abbrev pub is_listed : List Bool → ℕ → ℕ → ℕ → Bool
is_listed marks numag g k = k % numag == g && any_below 128 (λ e. get_or marks (128 * k + e) false)
