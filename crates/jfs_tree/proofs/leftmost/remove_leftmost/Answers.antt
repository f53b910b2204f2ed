use Rattle.std.proofs.Common.{ap, ◌∙◌, ◌==◌, length, List, [], ℕ}
use Rattle.jfs_tree.specs.Call.{nodes, pages_of}
use Rattle.jfs_tree.proofs.LeastKept.{absent_not, bare_is, lowered_as, lowered_keeps, lowered_removes, names_read, some_is, stays_least, tells_read}
use Rattle.jfs_tree.proofs.Framing.{frames_then}
use Rattle.jfs_tree.proofs.leftmost.remove_leftmost.Goals as goal

pub returns-then-is_empty-clause-left : goal.returns-then-is_empty-clause-left
returns-then-is_empty-clause-left g c tells =
    let node = g.F.PageForm.node c.args.form.now in
    let image = g.V.PageView.image c.args.view.now in
    stays_least g.F.PageForm.scale (pages_of node image) (nodes node c.remove_entry.new.draft.pages.items image) (g.F.PageForm.node c.args.top.now c.args.root.now) (g.F.PageForm.node c.args.top.now c.remove_entry.new.root) c.remove_entry.new.freed.items
    (c.in-Ok.ensures.inner tells) (bare_is c.remove_entry.new.freed.items c.is_empty.result (c.is_empty.ensures ∙ ap (λ (ns : List ℕ). length ns == 0) c.as_slice.ensures.value) c.if-is_empty.true)

pub returns-in-Ok-lower_tree-clause-removes : goal.returns-in-Ok-lower_tree-clause-removes
returns-in-Ok-lower_tree-clause-removes g c tells =
    let node = g.F.PageForm.node c.args.form.now in
    let image = g.V.PageView.image c.args.view.now in
    lowered_removes node (g.F.PageForm.frame c.args.form.now) g.F.PageForm.scale g.met.F.PageForm.order c.args.x.now image c.remove_entry.new.draft.pages.items c.lower_tree.new.draft.pages.items (g.F.PageForm.node c.args.top.now c.args.root.now) (g.F.PageForm.node c.args.top.now c.remove_entry.new.root) (g.F.PageForm.node c.args.top.now c.lower_tree.new.root)
    c.remove_entry.new.freed.items c.in-Ok.found (c.in-Ok.ensures.removes tells)
    (lowered_as node (g.F.PageForm.frame c.args.form.now) g.F.PageForm.scale image (g.V.PageView.image c.remove_entry.new.view) c.remove_entry.new.draft.pages.items c.lower_tree.new.draft.pages.items (g.F.PageForm.node c.args.top.now c.remove_entry.new.root) (g.F.PageForm.node c.args.top.now c.lower_tree.new.root) (c.in-Ok.ensures.image tells) (c.in-Ok-lower_tree.ensures.lowers tells))

pub returns-in-Ok-lower_tree-clause-left : goal.returns-in-Ok-lower_tree-clause-left
returns-in-Ok-lower_tree-clause-left g c tells before =
    let node = g.F.PageForm.node c.args.form.now in
    (lowered_as node (g.F.PageForm.frame c.args.form.now) g.F.PageForm.scale (g.V.PageView.image c.args.view.now) (g.V.PageView.image c.remove_entry.new.view) c.remove_entry.new.draft.pages.items c.lower_tree.new.draft.pages.items (g.F.PageForm.node c.args.top.now c.remove_entry.new.root) (g.F.PageForm.node c.args.top.now c.lower_tree.new.root) (c.in-Ok.ensures.image tells) (c.in-Ok-lower_tree.ensures.lowers tells)).least

pub returns-in-Ok-lower_tree-clause-keeps : goal.returns-in-Ok-lower_tree-clause-keeps
returns-in-Ok-lower_tree-clause-keeps g c tells =
    let node = g.F.PageForm.node c.args.form.now in
    let image = g.V.PageView.image c.args.view.now in
    lowered_keeps node (g.F.PageForm.frame c.args.form.now) g.F.PageForm.scale g.met.F.PageForm.order c.args.x.now image c.remove_entry.new.draft.pages.items c.lower_tree.new.draft.pages.items (g.F.PageForm.node c.args.top.now c.args.root.now) (g.F.PageForm.node c.args.top.now c.remove_entry.new.root) (g.F.PageForm.node c.args.top.now c.lower_tree.new.root)
    c.remove_entry.new.freed.items c.in-Ok.found _ _ (some_is c.remove_entry.new.freed.items c.is_empty.result (c.is_empty.ensures ∙ ap (λ (ns : List ℕ). length ns == 0) c.as_slice.ensures.value) c.if-is_empty.false) c.in-Ok.ensures.absent (c.in-Ok.ensures.removes tells) (c.in-Ok.ensures.keeps tells)
    (lowered_as node (g.F.PageForm.frame c.args.form.now) g.F.PageForm.scale image (g.V.PageView.image c.remove_entry.new.view) c.remove_entry.new.draft.pages.items c.lower_tree.new.draft.pages.items (g.F.PageForm.node c.args.top.now c.remove_entry.new.root) (g.F.PageForm.node c.args.top.now c.lower_tree.new.root) (c.in-Ok.ensures.image tells) (c.in-Ok-lower_tree.ensures.lowers tells))

pub returns-in-Ok-lower_tree-clause-absent : goal.returns-in-Ok-lower_tree-clause-absent
returns-in-Ok-lower_tree-clause-absent g c =
    absent_not _ c.in-Ok.found c.args.root.now c.remove_entry.new.root c.remove_entry.new.draft.pages.items c.remove_entry.new.freed.items (some_is c.remove_entry.new.freed.items c.is_empty.result (c.is_empty.ensures ∙ ap (λ (ns : List ℕ). length ns == 0) c.as_slice.ensures.value) c.if-is_empty.false) c.in-Ok.ensures.absent

pub returns-in-Err-lower_tree-clause-bad : goal.returns-in-Err-lower_tree-clause-bad
returns-in-Err-lower_tree-clause-bad g c tells =
    names_read g.F.PageForm.scale (pages_of (g.F.PageForm.node c.args.form.now) (g.V.PageView.image c.args.view.now)) (g.F.PageForm.node c.args.top.now c.args.root.now) c.in-Err-lower_tree.e c.in-Err-lower_tree.ensures.cause

pub returns-in-Err-lower_tree-clause-way : goal.returns-in-Err-lower_tree-clause-way
returns-in-Err-lower_tree-clause-way g c tells = tells_read (Unit {0}) _ c.in-Err-lower_tree.e c.in-Err-lower_tree.ensures.cause

pub returns-in-Ok-lower_tree-clause-framed : goal.returns-in-Ok-lower_tree-clause-framed
returns-in-Ok-lower_tree-clause-framed g c tells =
    frames_then (g.F.PageForm.frame c.args.form.now) (g.V.PageView.image c.args.view.now) (g.V.PageView.image c.remove_entry.new.view) [] c.remove_entry.new.draft.pages.items c.lower_tree.new.draft.pages.items (c.in-Ok.ensures.image tells) (c.in-Ok.ensures.framed tells) (c.in-Ok-lower_tree.ensures.lowers tells).frames
