-- Runs of blocks one behind the other.
use Rattle.std.proofs.Common.{◌≡◌, refl, sym, ap, ◌∙◌, ℕ, ◌+◌, Bool, true, false, ◌&&◌, nat_le, nat_lt, if◌then◌else◌, arith}
use Rattle.std.proofs.lemmas.Bool.Decides.{nat_tests}
use Rattle.jfs_meaning.specs.objects.specs.Owners.{bit}

abbrev pub run : ℕ → ℕ → ℕ → ℕ
run first count b = if nat_le first b && nat_lt b (first + count) then 1 else 0

-- a run and the one behind it
pub joined : (n m t c b : ℕ) → n ≡ c → n + m ≡ t → run 0 n b + run c m b ≡ run 0 t b
joined n m t c b e f = rw (sym e, sym f) (two n m b)
  where
    two : (n m b : ℕ) → run 0 n b + run n m b ≡ run 0 (n + m) b
    two n m b = grind (arith, nat_tests)

pub from_first : (n b : ℕ) → run 0 n b ≡ bit (nat_lt b n)
from_first n b = by (nat_lt b n) refl
  where
    same : (n b : ℕ) → (nat_le 0 b && nat_lt b (0 + n)) ≡ nat_lt b n
    same n b = grind (arith, nat_tests)

    by : (x : Bool) → nat_lt b n ≡ x → run 0 n b ≡ bit x
    by true e = ap (λ (y : Bool). if y then 1 else 0) (same n b ∙ e)
    by false e = ap (λ (y : Bool). if y then 1 else 0) (same n b ∙ e)
