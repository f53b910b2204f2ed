-- The blocks without an owner are those that aren't in use.
use Rattle.std.proofs.Common.{◌≡◌, refl, ap, ap₂, ◌∙◌, ℕ, zero, suc, ◌+◌, ◌==◌, Bool, true, false, not, if◌then◌else◌}
use Rattle.jfs_bits.specs.Bits.{count_below}
use Rattle.jfs_objects.specs.Owners.{bit, owners}
use Rattle.jfs_meaning.specs.Laws.{FreeLaw}

pub same_count : (n : ℕ) (f g : ℕ → Bool) → ((k : ℕ) → f k ≡ g k) → count_below n f ≡ count_below n g
unfolding count_below
same_count zero f g h = refl
same_count (suc n) f g h = ap₂ (λ (c : ℕ) (x : Bool). c + (if x then 1 else 0)) (same_count n f g h) (h n)

pub free_law : FreeLaw
free_law r v blocks a = same_count blocks (λ b. owners r v b == 0) (λ b. not (v.used b)) (λ b. ap (λ (k : ℕ). k == 0) (a.blocks b) ∙ by (v.used b))
  where
    by : (x : Bool) → (bit x == 0) ≡ not x
    by true = refl
    by false = refl
