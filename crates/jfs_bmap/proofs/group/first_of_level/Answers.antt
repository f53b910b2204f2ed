use Rattle.std.proofs.Common.{sym, ap, ◌∙◌, ℕ, ◌+◌, ◌*◌, refl, arith}
use Rattle.jfs_bmap.proofs.Powers.{first-next, first-most}
use Rattle.jfs_bmap.proofs.group.first_of_level.Goals as goal

pub loop-level-init : goal.loop-level-init
loop-level-init c = refl

pub overflow_mul-first : goal.overflow_mul-first
overflow_mul-first c = omega (arith, c.loop-level.invariant, first-most c.loop-level._level (omega arith))

pub overflow_add-first : goal.overflow_add-first
overflow_add-first c = omega (arith, c.loop-level.invariant, first-most c.loop-level._level (omega arith))

pub loop-level-preserved : goal.loop-level-preserved
loop-level-preserved c = ap (λ (z : ℕ). 4 * z + 1) c.loop-level.invariant ∙ sym (first-next c.loop-level._level)
