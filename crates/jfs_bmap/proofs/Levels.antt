-- Control pages of levels that aren't in use.
use Rattle.std.proofs.Common.{◌≡◌, ℕ, inl, inr, refl, arith, replicate}
use Rattle.std.specs.Prelude.{negsuc}
use Rattle.std.proofs.lemmas.Bool.{cases_lt}
use Rattle.std.proofs.lemmas.List.{get_or-replicate, get_or_past, length-replicate}
use Rattle.jfs_dmapctl.specs.Control.{value_at, IsValue}

-- each of `n` leaves has the value -1, and so has one past them
pub value-unused : (n v : ℕ) → value_at (replicate n (negsuc 0)) v ≡ negsuc 0
value-unused n v = elim (cases_lt v n) [
  | inl h ↦ get_or-replicate n v (negsuc 0) (negsuc 0) h
  | inr h ↦ get_or_past (replicate n (negsuc 0)) v (negsuc 0) (omega (arith, length-replicate n (negsuc 0)))
]

-- each of them is a value on every level
pub is-value-unused : (level n v : ℕ) → IsValue level (value_at (replicate n (negsuc 0)) v)
is-value-unused level n v = rw (value-unused n v) refl
