use Rattle.std.proofs.Common.{◌≡◌, ◌+◌, ◌*◌, ℕ, refl, sym, subst, true, arith}
use Rattle.jfs_bits.specs.Bits.{all_below}
use Rattle.jfs_image.proofs.Spaces.{free_in, all_next, all_none, free_run, owned_run, owned_in, unowned_in}
use Rattle.jfs_image.proofs.space.is_free_run.Goals as goal

pub loop-i-init : goal.loop-i-init
loop-i-init c = λ count is. all_none (free_in count c.args.j)

pub loop-i-preserved : goal.loop-i-preserved
loop-i-preserved c = λ count is.
    all_next c.loop-i.i (c.loop-i.i + 1) (free_in count c.args.j) refl (c.loop-i.invariant count is)
    (unowned_in count c.args.j c.loop-i.i (4 * c.args.j + c.loop-i.i) c.is_owned.result (omega arith) (c.is_owned.ensures.counts count is) c.if-is_owned.false)

pub returns-then-is_owned : goal.returns-then-is_owned
returns-then-is_owned c = λ count is.
    sym (owned_run count c.args.j c.loop-i.i (let l = c.loop-i-test.true in omega (arith, l)) (owned_in count c.args.j c.loop-i.i (4 * c.args.j + c.loop-i.i) c.is_owned.result (omega arith) (c.is_owned.ensures.counts count is) c.if-is_owned.true))

pub returns : goal.returns
returns c = λ count is.
    (let last = c.loop-i-test.false in
    let most = c.loop-i.auto.i-end in
    let end : c.loop-i.i ≡ 4 = omega (arith, last, most) in
    sym (free_run count c.args.j (subst (λ (m : ℕ). all_below m (free_in count c.args.j) ≡ true) end (c.loop-i.invariant count is))))
