use Rattle.std.proofs.Common.{◌≡◌, ◌+◌, ◌*◌, ◌∙◌, ◌||◌, ℕ, Bool, false, ap, arith}
use Rattle.jfs_bits.specs.Bits.{is_in_run}
use Rattle.jfs_iag.proofs.Maps.{zeros-clear}
use Rattle.jfs_format.proofs.Blocks.{first-dmap, later-dmap}
use Rattle.jfs_format.proofs.block_map.set_of.Goals as goal

pub returns-then-k-eq0 : goal.returns-then-k-eq0
returns-then-k-eq0 c i most within =
    let e : 8192 * c.args.k + i ≡ i = omega (arith, c.if-k-eq0.true) in
    rw e (c.set_run.ensures i
    ∙ ap (λ (z : Bool). is_in_run 0 c.owned.result i || z) (zeros-clear 1024 i)
    ∙ ap (λ (n : ℕ). is_in_run 0 n i || false) c.owned.ensures
    ∙ first-dmap c.args.l i (omega (arith, within)))

pub returns-else-k-eq0 : goal.returns-else-k-eq0
returns-else-k-eq0 c i most within = zeros-clear 1024 i ∙ later-dmap _ c.args.l (8192 * c.args.k + i) c.requires.1 (omega (arith, c.if-k-eq0.false)) within
