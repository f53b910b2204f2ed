use Rattle.std.proofs.Common.{◌≡◌, ◌+◌, ◌∙◌, ℕ, ap, arith}
use Rattle.jfs_buddy.specs.Tree.{rank_of}
use Rattle.jfs_buddy.specs.Buddy.{with_own, IsBuddyTree}
use Rattle.jfs_dmapctl.specs.Control.{whole_of, tree_of}
use Rattle.jfs_dmapctl.proofs.Heads.{head-of, head-stays}
use Rattle.jfs_dmapctl.proofs.Values.{rank-most, value-read}
use Rattle.jfs_dmapctl.proofs.change.ctl_set.Goals as goal

pub returns : goal.returns
returns c level own t small =
    let h = head-stays level c.args.page.now.0 c.args.page.now.0 c.set_rank.new.bytes (head-of level own c.args.page.now.0 t) (omega (arith, t.size)) c.set_rank.ensures.stays in
    let whole : c.get_u8-whole.result + 1 ≡ whole_of level + 1 = ap (λ (z : ℕ). z + 1) (c.get_u8-whole.ensures.value ∙ t.whole) in
    let tree : IsBuddyTree 5 (whole_of level + 1) (with_own own c.args.leaf (rank_of c.args.value)) (tree_of c.set_rank.new.bytes) =
    rw (whole, c.rank_of_value.ensures, value-read level c.args.value t.known small) at (c.set_rank.ensures.tree own) (omega arith) (rank-most level c.args.value small) t.tree in
    record { size = h.size; known = t.known; leaves = h.leaves; l2_leaves = h.l2_leaves; first_leaf = h.first_leaf; height = h.height; whole = h.whole; tree = tree; pad = h.pad ∙ t.pad }
