use Rattle.std.proofs.Common.{sym, subst, Bool}
use Rattle.jfs_tree.specs.RootLoss.{RootLost}
use Rattle.jfs_tree.proofs.Losing.{others_at}
use Rattle.jfs_tree.proofs.RootLost.{root_bare, root_less}
use Rattle.jfs_tree.proofs.remove_root.root_loses.Goals as goal

pub remove_child-requires-clause-others : goal.remove_child-requires-clause-others
remove_child-requires-clause-others g c =
    others_at c.args.place (g.F.PageForm.node c.args.top.now c.args.root.now) c.is_single.result c.requires.there c.is_single.ensures c.if-is_single.false

pub returns-then-is_single-clause-did : goal.returns-then-is_single-clause-did
returns-then-is_single-clause-did g c =
    subst (λ (k : Bool). RootLost c.args.place k (g.F.PageForm.node c.args.top.now c.args.root.now) (g.F.PageForm.node c.args.top.now c.empty.new.root)) (sym c.if-kept.false)
    (root_bare c.args.place (g.F.PageForm.node c.args.top.now c.args.root.now) (g.F.PageForm.node c.args.top.now c.empty.new.root) c.is_single.result c.is_single.ensures c.if-is_single.true c.empty.ensures.empty)

pub returns-else-is_single-clause-did : goal.returns-else-is_single-clause-did
returns-else-is_single-clause-did g c =
    subst (λ (k : Bool). RootLost c.args.place k (g.F.PageForm.node c.args.top.now c.args.root.now) (g.F.PageForm.node c.args.top.now c.remove_child.new.bytes)) (sym c.if-kept.false)
    (root_less c.args.place (g.F.PageForm.node c.args.top.now c.args.root.now) (g.F.PageForm.node c.args.top.now c.remove_child.new.bytes) c.is_single.result c.is_single.ensures c.if-is_single.false c.remove_child.ensures.takes)
