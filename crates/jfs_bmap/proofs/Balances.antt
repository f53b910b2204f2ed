-- Counts of blocks that move from one set to another.
use Rattle.std.proofs.Common.{◌≡◌, ◌<◌, ◌+◌, ℕ, zero, suc, Bool, refl, arith}
use Rattle.std.specs.Prelude.{if◌then◌else◌}
use Rattle.jfs_bits.specs.Bits.{count_below}

-- blocks that leave one set for another
pub count_balance : (n : ℕ) (f g h k : ℕ → Bool) → ((b : ℕ) → b < n → (if f b then 1 else 0) + (if g b then 1 else 0) ≡ (if h b then 1 else 0) + (if k b then 1 else 0)) → count_below n f + count_below n g ≡ count_below n h + count_below n k
unfolding count_below
count_balance zero f g h k e = refl
count_balance (suc n) f g h k e = sums (count_below n f) (count_below n g) (count_below n h) (count_below n k) (if f n then 1 else 0) (if g n then 1 else 0) (if h n then 1 else 0) (if k n then 1 else 0) (count_balance n f g h k (λ b l. e b (omega arith))) (e n (omega arith))
  where
    sums : (a b c d p q r s : ℕ) → a + b ≡ c + d → p + q ≡ r + s → a + p + (b + q) ≡ c + r + (d + s)
    sums a b c d p q r s x y = omega arith
