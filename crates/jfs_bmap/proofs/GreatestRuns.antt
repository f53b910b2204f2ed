-- The greatest free run as the value of a leaf.
use Rattle.std.proofs.Common.{◌≤◌, ℕ, zero, suc, Bool, refl, arith}
use Rattle.std.specs.Prelude.{pos, negsuc}
use Rattle.std.proofs.lemmas.Bool.{cond_both}
use Rattle.jfs_bits.specs.Bits.{has_free_run, greatest_run}
use Rattle.jfs_dmapctl.specs.Control.{whole_of, IsValue}

-- the greatest run is a leaf's value
pub greatest_run-value : (taken : ℕ → Bool) (level span top : ℕ) → top ≤ whole_of level → IsValue level (greatest_run taken span top)
unfolding greatest_run
greatest_run-value taken level span zero h = cond_both (has_free_run taken span 0) (pos 0) (negsuc 0) (IsValue level) (λ e. h) (λ e. refl)
greatest_run-value taken level span (suc top) h =
    cond_both (has_free_run taken span (suc top)) (pos (suc top)) (greatest_run taken span top) (IsValue level) (λ e. h) (λ e. greatest_run-value taken level span top (omega arith))
