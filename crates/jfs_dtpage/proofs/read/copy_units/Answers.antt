use Rattle.std.proofs.Common.{length, sym, ap, ◌∙◌, ℕ, ◌≡◌, arith}
use Rattle.jfs_dtpage.specs.Slots.{units_at}
use Rattle.jfs_dtpage.proofs.Lists.{units_from}
use Rattle.jfs_dtpage.proofs.read.copy_units.Goals as goal

pub returns : goal.returns
returns c =
    let size : length c.loop-i.into ≡ length c.args.into.now = search (c.loop-i.auto.into) in
    sym (units_from c.args.bytes.now c.loop-i.into c.args.at (λ i h. sym (c.loop-i.invariant i (let e = c.loop-i-test.false in omega (arith, e, h, size))))) ∙ ap (λ (n : ℕ). units_at c.args.bytes.now c.args.at n) size
