use Rattle.std.proofs.Common.{◌≡◌, refl, ap, subst, ℕ, List, [], IfNone}
use Rattle.jfs_disk.specs.Image.{page_of}
use Rattle.jfs_tree.specs.Removes.{RemovesTold, TellsFreed, page_frees}
use Rattle.jfs_tree.proofs.Changed.{changes_as}
use Rattle.jfs_tree.proofs.Adds.{told_as}
use Rattle.jfs_tree.proofs.LeastKept.{stays_same, stays_told}
use Rattle.jfs_tree.proofs.Removes.{removes_told}
use Rattle.jfs_tree.proofs.Framing.{kept_same, kept_told}
use Rattle.jfs_tree.proofs.remove_told.remove_and_tell.Goals as goal

pub returns-in-Ok-tell_freed-clause-removes : goal.returns-in-Ok-tell_freed-clause-removes
returns-in-Ok-tell_freed-clause-removes g c tells =
    let node = g.F.PageForm.node c.args.form.now in
    let image = g.V.PageView.image c.args.view.now in
    let blocks = g.V.PageView.block_count c.args.view.now in
    let drafts = c.remove_linked.new.draft.pages.items in
    let later = c.in-Ok-tell_freed.later in
    subst (RemovesTold g.F.PageForm.scale node blocks (page_of image) c.args.x.now (g.F.PageForm.node c.args.top.now c.args.root.now) (g.F.PageForm.node c.args.top.now c.remove_linked.new.root) c.args.tx.now later) c.in-Ok-Some.field-0-is
    (removes_told g.F.PageForm.scale c.args.x.now node blocks image (g.F.PageForm.node c.args.top.now c.args.root.now) (g.F.PageForm.node c.args.top.now c.remove_linked.new.root) drafts c.remove_linked.new.freed.items c.args.tx.now later
    (c.requires.children c.remove_linked.new.root).0 (λ bytes. (c.requires.children bytes).1) c.in-Ok-Some.field-0
    (c.in-Ok-Some.ensures.removes tells) (c.in-Ok-Some.ensures.keeps tells)
    (told_as (g.V.PageView.block_count c.remove_linked.new.view) blocks (g.V.PageView.image c.remove_linked.new.view) image drafts c.args.tx.now later c.in-Ok-Some.ensures.count_of_blocks (c.in-Ok-Some.ensures.image tells) (c.in-Ok-tell_freed.ensures.told tells))
    (subst (λ (f : List ℕ). TellsFreed f c.args.tx.now later) c.as_slice-2.ensures.value (c.in-Ok-tell_freed.ensures.edits tells)))

pub returns-in-Ok-tell_freed-clause-edits : goal.returns-in-Ok-tell_freed-clause-edits
returns-in-Ok-tell_freed-clause-edits g c tells = (
  c.as_slice-2.result.now,
  changes_as (g.V.PageView.block_count c.remove_linked.new.view) (g.V.PageView.block_count c.args.view.now) c.args.kind (g.V.PageView.image c.remove_linked.new.view) (g.V.PageView.image c.args.view.now) [] (page_frees c.as_slice-2.result.now)
      c.args.tx.now c.in-Ok-tell_freed.later c.in-Ok-Some.ensures.count_of_blocks (c.in-Ok-Some.ensures.image tells) (c.in-Ok-tell_freed.ensures.changes tells),
)

pub returns-in-Ok-tell_freed-clause-left : goal.returns-in-Ok-tell_freed-clause-left
returns-in-Ok-tell_freed-clause-left g c tells =
    let image = g.V.PageView.image c.args.view.now in
    let blocks = g.V.PageView.block_count c.args.view.now in
    let drafts = c.remove_linked.new.draft.pages.items in
    let later = c.in-Ok-tell_freed.later in
    stays_told g.F.PageForm.scale (g.F.PageForm.node c.args.form.now) blocks image drafts (g.F.PageForm.node c.args.top.now c.args.root.now) (g.F.PageForm.node c.args.top.now c.remove_linked.new.root) c.args.tx.now later
    (c.requires.children c.remove_linked.new.root).0 (λ bytes. (c.requires.children bytes).1) (c.in-Ok-Some.ensures.left tells)
    (told_as (g.V.PageView.block_count c.remove_linked.new.view) blocks (g.V.PageView.image c.remove_linked.new.view) image drafts c.args.tx.now later c.in-Ok-Some.ensures.count_of_blocks (c.in-Ok-Some.ensures.image tells) (c.in-Ok-tell_freed.ensures.told tells))

pub returns-in-Ok-None-clause-left : goal.returns-in-Ok-None-clause-left
returns-in-Ok-None-clause-left g c tells =
    let absent = subst (λ o. IfNone o ((c.remove_linked.new.root ≡ c.args.root.now) × (c.remove_linked.new.draft.pages.items ≡ []) × (c.remove_linked.new.freed.items ≡ []))) c.in-Ok-None.field-0-is c.in-Ok-None.ensures.absent in
    stays_same g.F.PageForm.scale (g.F.PageForm.node c.args.form.now) (g.V.PageView.block_count c.args.view.now) (page_of (g.V.PageView.image c.args.view.now)) (g.F.PageForm.node c.args.top.now c.args.root.now) (g.F.PageForm.node c.args.top.now c.remove_linked.new.root) c.args.tx.now c.args.tx.now
    (c.requires.children c.args.root.now).0 (λ bytes. (c.requires.children bytes).1) (ap (g.F.PageForm.node c.args.top.now) absent.0) refl

pub returns-in-Ok-tell_freed-clause-framed : goal.returns-in-Ok-tell_freed-clause-framed
returns-in-Ok-tell_freed-clause-framed g c tells =
    let image = g.V.PageView.image c.args.view.now in
    let blocks = g.V.PageView.block_count c.args.view.now in
    let drafts = c.remove_linked.new.draft.pages.items in
    let later = c.in-Ok-tell_freed.later in
    kept_told (g.F.PageForm.frame c.args.form.now) blocks image drafts c.args.tx.now later (c.in-Ok-Some.ensures.framed tells)
    (told_as (g.V.PageView.block_count c.remove_linked.new.view) blocks (g.V.PageView.image c.remove_linked.new.view) image drafts c.args.tx.now later c.in-Ok-Some.ensures.count_of_blocks (c.in-Ok-Some.ensures.image tells) (c.in-Ok-tell_freed.ensures.told tells))

pub returns-in-Ok-None-clause-framed : goal.returns-in-Ok-None-clause-framed
returns-in-Ok-None-clause-framed g c tells = kept_same (g.F.PageForm.frame c.args.form.now) (g.V.PageView.block_count c.args.view.now) (page_of (g.V.PageView.image c.args.view.now)) c.args.tx.now
