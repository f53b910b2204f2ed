use Rattle.std.proofs.Common.{subst, arith, ◌≤◌}
use Rattle.jfs_disk.specs.Image.{Image}
use Rattle.jfs_disk.specs.Pages.{contents}
use Rattle.jfs_image.specs.Opened.{OpenedIs, IsOpened}
use Rattle.jfs_image.specs.Tree.{IsUpTo}
use Rattle.jfs_image.proofs.Whole.{few_are, is_tree}
use Rattle.jfs_image.proofs.tree.tree_of.Goals as goal

pub overflow_mul-n-end : goal.overflow_mul-n-end
overflow_mul-n-end c =
    let is : IsOpened (contents c.args.image.now) c.in-Some.opened = subst (OpenedIs (contents c.args.image.now)) c.in-Some.is c.in_ok-opened.ensures in
    let few : c.in-Some.opened.map.iags ≤ 65536 = few_are (contents c.args.image.now) c.in-Some.opened is in
    omega (arith, few)

pub returns : goal.returns
returns c =
    let is : IsOpened (contents c.args.image.now) c.in-Some.opened = subst (OpenedIs (contents c.args.image.now)) c.in-Some.is c.in_ok-opened.ensures in
    let last = c.loop-n-test.false in
    let most = c.loop-n.auto.n-end in
    is_tree (contents c.args.image.now) c.in-Some.opened c.loop-n.n c.loop-n.tree is (omega (arith, last, most)) c.loop-n.invariant.limit
    (subst (λ (i : Image). IsUpTo i c.loop-n.n c.loop-n.tree) is.image_is c.loop-n.invariant.before)
