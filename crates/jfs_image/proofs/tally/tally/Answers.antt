use Rattle.std.proofs.Common.{◌≡◌, ◌*◌, ℕ, subst, arith}
use Rattle.jfs_image.specs.View.{image_of}
use Rattle.jfs_image.specs.Tallied.{IsTallied}
use Rattle.jfs_image.proofs.tally.tally.Goals as goal

pub returns : goal.returns
returns c =
    let last = c.loop-n-test.false in
    let most = c.loop-n.auto.n-end in
    let end : c.loop-n.n ≡ 4096 * c.args.opened.now.map.iags = omega (arith, last, most) in
    subst (λ (m : ℕ). IsTallied (image_of c.args.opened.now.view) m c.loop-n.tally) end c.loop-n.invariant
