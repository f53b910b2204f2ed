-- Counts of faults, which end at the last u64 value: what rose has risen since.
use Rattle.std.proofs.Common.{◌<◌, ◌≤◌, ◌^◌, ℕ, inl, inr, arith}
use Rattle.jfs_bits.specs.Count.{Rose}
use Rattle.jfs_groups.specs.Start.{Grows}

-- it is none that fell
pub at_least : (a b : ℕ) → a < 2 ^ 64 → Grows a b → a ≤ b
at_least a b few (inl e) = omega (arith, e)
at_least a b few (inr (inl less)) = omega (arith, less)
at_least a b few (inr (inr last)) = omega (arith, last, few)

pub rose_on : (a b c : ℕ) → a < 2 ^ 64 → Grows a b → Rose b c → Rose a c
rose_on a b c few g (inl less) = inl (let le = at_least a b few g in omega (arith, le, less))
rose_on a b c few g (inr last) = inr last

pub rose_since : (a b c : ℕ) → a < 2 ^ 64 → Rose a b → Grows b c → Rose a c
rose_since a b c few r (inl e) = rw e r
rose_since a b c few (inl less) (inr (inl more)) = inl (omega (arith, less, more))
rose_since a b c few (inr last) (inr (inl more)) = inl (omega (arith, last, more, few))
rose_since a b c few r (inr (inr last)) = inr last

pub grows_on : (a b c : ℕ) → a < 2 ^ 64 → Grows a b → Grows b c → Grows a c
grows_on a b c few g (inl e) = rw e g
grows_on a b c few g (inr r) = inr (rose_on a b c few g r)
