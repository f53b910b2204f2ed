-- The count of a disk of two parts, which ends at the last u64 value.
use Rattle.std.proofs.Common.{◌<◌, ◌≤◌, ◌+◌, ◌-◌, ◌^◌, ◌⊎◌, ℕ, inl, inr, arith}
use Rattle.std.specs.Prelude.{min}
use Rattle.std.proofs.lemmas.Bool.{cases_lt}
use Rattle.jfs_bits.specs.Count.{Rose}
use Rattle.jfs_server.specs.groups.specs.Start.{Grows}
use Rattle.jfs_server.specs.groups.proofs.Counts.{at_least}

abbrev pub both : ℕ → ℕ → ℕ
both low high = min (low + high) (2 ^ 64 - 1)

capped : (a s : ℕ) → a < 2 ^ 64 → a < s → Rose a (min s (2 ^ 64 - 1))
capped a s few less = by (cases_lt s (2 ^ 64))
  where
    by : (s < 2 ^ 64) ⊎ (2 ^ 64 ≤ s) → Rose a (min s (2 ^ 64 - 1))
    by (inl below) = inl (omega (arith, below, less))
    by (inr past) = inr (omega (arith, past))

pub both_rose : (low low' high high' : ℕ) → low + high < 2 ^ 64 → Grows low low' → Grows high high' → Rose low low' ⊎ Rose high high' → Rose (low + high) (min (low' + high') (2 ^ 64 - 1))
both_rose low low' high high' few a b r = by r
  where
    small : low < 2 ^ 64
    small = omega (arith, few)

    small' : high < 2 ^ 64
    small' = omega (arith, few)

    le : low ≤ low'
    le = at_least low low' small a

    le' : high ≤ high'
    le' = at_least high high' small' b

    by : Rose low low' ⊎ Rose high high' → Rose (low + high) (min (low' + high') (2 ^ 64 - 1))
    by (inl (inl less)) = capped (low + high) (low' + high') few (omega (arith, less, le'))
    by (inr (inl less)) = capped (low + high) (low' + high') few (omega (arith, less, le))
    by (inl (inr last)) = inr (omega (arith, last))
    by (inr (inr last)) = inr (omega (arith, last))

pub both_grow : (low low' high high' : ℕ) → low + high < 2 ^ 64 → Grows low low' → Grows high high' → Grows (low + high) (min (low' + high') (2 ^ 64 - 1))
both_grow low low' high high' few (inl e) (inl f) = inl (omega (arith, e, f, few))
both_grow low low' high high' few (inr r) b = inr (both_rose low low' high high' few (inr r) b (inl r))
both_grow low low' high high' few (inl e) (inr r) = inr (both_rose low low' high high' few (inl e) (inr r) (inr r))
