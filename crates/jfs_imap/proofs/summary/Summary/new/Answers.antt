use Rattle.std.proofs.Common.{◌*◌, ◌%◌, ◌^◌}
use Rattle.jfs_imap.proofs.Trees.{empty-tree, empty-marks, shifted}
use Rattle.jfs_imap.proofs.summary.Summary.new.Goals as goal

pub invariant_of-result : goal.invariant_of-result
invariant_of-result c =
    let h = c.args.height in
    empty-tree h (1 * 2 ^ h % 4294967296) c.in_ok-vec.field-0.items c.requires.least c.requires.most (shifted h c.requires.most) (c.in_ok-vec.ensures.items_if_clones_equal (λ y e. e))

pub returns : goal.returns
returns c =
    let h = c.args.height in
    empty-marks h (1 * 2 ^ h % 4294967296) c.in_ok-vec.field-0.items (shifted h c.requires.most) (c.in_ok-vec.ensures.items_if_clones_equal (λ y e. e))
