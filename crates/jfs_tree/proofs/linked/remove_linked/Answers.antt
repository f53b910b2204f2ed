use Rattle.std.proofs.Common.{◌==◌, ◌∙◌, ap, sym, subst, length, List, [], ℕ, arith}
use Rattle.jfs_tree.specs.Call.{pages_of}
use Rattle.jfs_tree.specs.Leftmost.{IsLeftmost}
use Rattle.jfs_tree.specs.RootLoss.{RemovesAlways}
use Rattle.jfs_tree.proofs.LeastKept.{absent_not, names_read, some_is, tells_read}
use Rattle.jfs_tree.proofs.Linkings.{same_nodes, removes_kept}
use Rattle.jfs_tree.proofs.Framing.{frames_then}
use Rattle.jfs_tree.proofs.linked.remove_linked.Goals as goal

pub returns-in-Ok-link_gaps-clause-removes : goal.returns-in-Ok-link_gaps-clause-removes
returns-in-Ok-link_gaps-clause-removes g c = λ tells.
    let node = g.F.PageForm.node c.args.form.now in
    let image = g.V.PageView.image c.args.view.now in
    subst (λ f. RemovesAlways g.F.PageForm.scale c.args.x.now (pages_of node image) f (g.F.PageForm.node c.args.top.now c.args.root.now) (g.F.PageForm.node c.args.top.now c.remove_leftmost.new.root) c.remove_leftmost.new.freed.items c.in-Ok.found)
    (sym (same_nodes node (g.F.PageForm.frame c.args.form.now) image (g.V.PageView.image c.remove_leftmost.new.view) c.remove_leftmost.new.draft.pages.items c.link_gaps.new.draft.pages.items (g.F.PageForm.node c.args.top.now c.remove_leftmost.new.root) (c.in-Ok.ensures.image tells) (c.in-Ok-link_gaps.ensures.links tells))) (c.in-Ok.ensures.removes tells)

pub returns-in-Ok-link_gaps-clause-left : goal.returns-in-Ok-link_gaps-clause-left
returns-in-Ok-link_gaps-clause-left g c = λ tells before.
    let node = g.F.PageForm.node c.args.form.now in
    let image = g.V.PageView.image c.args.view.now in
    subst (λ f. IsLeftmost g.F.PageForm.scale f (g.F.PageForm.node c.args.top.now c.remove_leftmost.new.root))
    (sym (same_nodes node (g.F.PageForm.frame c.args.form.now) image (g.V.PageView.image c.remove_leftmost.new.view) c.remove_leftmost.new.draft.pages.items c.link_gaps.new.draft.pages.items (g.F.PageForm.node c.args.top.now c.remove_leftmost.new.root) (c.in-Ok.ensures.image tells) (c.in-Ok-link_gaps.ensures.links tells))) (c.in-Ok.ensures.left tells before)

pub returns-in-Ok-link_gaps-clause-keeps : goal.returns-in-Ok-link_gaps-clause-keeps
returns-in-Ok-link_gaps-clause-keeps g c = λ tells.
    removes_kept (g.F.PageForm.node c.args.form.now) (g.F.PageForm.frame c.args.form.now) g.F.PageForm.scale g.met.F.PageForm.order c.args.x.now (g.V.PageView.image c.args.view.now) (g.V.PageView.image c.remove_leftmost.new.view) c.remove_leftmost.new.draft.pages.items c.link_gaps.new.draft.pages.items
    (g.F.PageForm.node c.args.top.now c.args.root.now) (g.F.PageForm.node c.args.top.now c.remove_leftmost.new.root) c.remove_leftmost.new.freed.items c.in-Ok.found _ _ (g.V.PageView.block_count c.args.view.now)
    (c.in-Ok.ensures.image tells) (let e = c.blocks-blocks.ensures in let l = c.blocks-blocks.type_inv in omega (arith, e, l)) (c.requires.children c.remove_leftmost.new.root).0 (λ bytes. (c.requires.children bytes).1)
    (some_is c.remove_leftmost.new.freed.items c.is_empty.result (c.is_empty.ensures ∙ ap (λ (ns : List ℕ). length ns == 0) c.as_slice.ensures.value) c.if-is_empty.false) c.in-Ok.ensures.absent
    (c.in-Ok-link_gaps.ensures.links tells) (c.in-Ok.ensures.removes tells) (c.in-Ok.ensures.keeps tells)

pub returns-in-Ok-link_gaps-clause-absent : goal.returns-in-Ok-link_gaps-clause-absent
returns-in-Ok-link_gaps-clause-absent g c =
    absent_not _ c.in-Ok.found c.args.root.now c.remove_leftmost.new.root c.remove_leftmost.new.draft.pages.items c.remove_leftmost.new.freed.items (some_is c.remove_leftmost.new.freed.items c.is_empty.result (c.is_empty.ensures ∙ ap (λ (ns : List ℕ). length ns == 0) c.as_slice.ensures.value) c.if-is_empty.false) c.in-Ok.ensures.absent

pub returns-in-Err-link_gaps-clause-bad : goal.returns-in-Err-link_gaps-clause-bad
returns-in-Err-link_gaps-clause-bad g c = λ tells.
    names_read g.F.PageForm.scale (pages_of (g.F.PageForm.node c.args.form.now) (g.V.PageView.image c.args.view.now)) (g.F.PageForm.node c.args.top.now c.args.root.now) c.in-Err-link_gaps.e c.in-Err-link_gaps.ensures.cause

pub returns-in-Err-link_gaps-clause-way : goal.returns-in-Err-link_gaps-clause-way
returns-in-Err-link_gaps-clause-way g c = λ tells. tells_read (Unit {0}) _ c.in-Err-link_gaps.e c.in-Err-link_gaps.ensures.cause

pub returns-in-Ok-link_gaps-clause-framed : goal.returns-in-Ok-link_gaps-clause-framed
returns-in-Ok-link_gaps-clause-framed g c = λ tells.
    frames_then (g.F.PageForm.frame c.args.form.now) (g.V.PageView.image c.args.view.now) (g.V.PageView.image c.remove_leftmost.new.view) [] c.remove_leftmost.new.draft.pages.items c.link_gaps.new.draft.pages.items (c.in-Ok.ensures.image tells) (c.in-Ok.ensures.framed tells) (c.in-Ok-link_gaps.ensures.links tells).frames
