-- The leaves of a control page while its dmaps are made. For the prover alone.
use Rattle.std.specs.Prelude.{◌≡◌, ℕ, ◌+◌, ◌*◌, ◌<◌, ◌≤◌, Bool, ℤ, negsuc, List, length}
use Rattle.jfs_bits.specs.Bits.{greatest_run}
use Rattle.jfs_dmapctl.specs.Control.{value_at}

-- the first `k` leaves have the greatest free runs of their dmaps, the others have -1
pub record AreLeaves (taken : ℕ → Bool) (k : ℕ) (leaves : List ℤ) : Type 0 where
  pub size : length leaves ≡ 1024
  pub value : (j : ℕ) → j < k → value_at leaves j ≡ greatest_run (λ i. taken (8192 * j + i)) 13 13
  pub behind : (j : ℕ) → k ≤ j → value_at leaves j ≡ negsuc 0
