use Rattle.std.proofs.Common.{◌≡◌, ◌++◌, [], sym, subst, ◌∙◌, arith, false, ◌<◌}
use Rattle.jfs_disk.specs.Image.{page_of}
use Rattle.jfs_bits.specs.declared.rule.PageKind.TheVariants.{Xtree}
use Rattle.jfs_tree.specs.Removes.{page_frees}
use Rattle.jfs_tree.specs.Spells.{no_page}
use Rattle.jfs_xtpage.specs.declared.head.XtHead.{XtHead}
use Rattle.jfs_xtpage.specs.declared.head.XtForm.TheVariants.{Full}
use Rattle.jfs_xtree.specs.Node.{frame_of, is_leaf}
use Rattle.jfs_xtree.specs.Errors.{handed_on}
use Rattle.jfs_xtree.specs.CutMet.{FreesOnce, NamesFirstMet}
use Rattle.jfs_xtree.specs.Cutting.{CutsExtents, run_frees}
use Rattle.jfs_tree.proofs.Adds.{told_as}
use Rattle.jfs_tree.proofs.Changed.{changes_as}
use Rattle.jfs_tree.proofs.Framing.{kept_told}
use Rattle.jfs_xtree.proofs.CutRoots.{cuts_extents}
use Rattle.jfs_xtree.proofs.CutNamed.{frees_once, names_met, names_root_met}
use Rattle.jfs_xtree.proofs.cutting.plan_cut.Goals as goal

pub returns-in-Err-clause-bad : goal.returns-in-Err-clause-bad
returns-in-Err-clause-bad g c tells =
    names_root_met c.root_form-form.result c.blocks-blocks.result (g.V.PageView.block_count c.args.view.now) c.args.bound c.args.root.now (g.V.PageView.image c.args.view.now) c.in-Err.rule c.blocks-blocks.ensures c.root_form-form.ensures c.in-Err.ensures.broken

pub returns-in-Err-cut_page-clause-bad : goal.returns-in-Err-cut_page-clause-bad
returns-in-Err-cut_page-clause-bad g c tells =
    let image = g.V.PageView.image c.args.view.now in
    let head = c.in_default.ensures.sound.0 in
    subst (λ r. NamesFirstMet (g.V.PageView.block_count c.args.view.now) (page_of image) c.args.bound c.args.root.now r) (sym c.handed_on.ensures)
    (subst (λ b. NamesFirstMet b (page_of image) c.args.bound c.args.root.now (handed_on c.in-Err-cut_page.e)) c.blocks-blocks.ensures
    (names_met c.root_form-form.result c.blocks-blocks.result c.args.bound c.args.root.now image c.in-Err-cut_page.e c.root_form-form.ensures c.in_default.ensures.sound.1 (subst (λ (h : XtHead). is_leaf h.flag ≡ false → 2 < h.nextindex) head c.in_default.ensures.some)
    c.in-Err-cut_page.ensures.leaf_bad (c.in-Err-cut_page.ensures.bad tells no_page)))

pub returns-in-Ok-tell_cut-clause-once : goal.returns-in-Ok-tell_cut-clause-once
returns-in-Ok-tell_cut-clause-once g c tells =
    let image = g.V.PageView.image c.args.view.now in
    let head = c.in_default.ensures.sound.0 in
    subst (λ b. FreesOnce b (page_of image) c.args.bound c.args.root.now c.args.tx.now c.in-Ok-tell_cut.later) c.blocks-blocks.ensures
    (frees_once c.root_form-form.result c.blocks-blocks.result c.args.bound c.cut_page.new.cut.met c.cut_page.new.cut.below c.args.root.now image c.in-Ok.kept c.cut_page.new.cut.pages.items c.cut_page.new.cut.runs c.args.tx.now c.in-Ok-tell_cut.later c.root_form-form.ensures c.in_default.ensures.sound.1
    (subst (λ (h : XtHead). is_leaf h.flag ≡ false → 2 < h.nextindex) head c.in_default.ensures.some) (c.in-Ok.ensures.met tells) (λ l. (let t = c.in-Ok.ensures.leaf l in (t.3, t.1))) c.in-Ok-tell_cut.ensures.frees)

pub returns-in-Ok-tell_cut-clause-cuts : goal.returns-in-Ok-tell_cut-clause-cuts
returns-in-Ok-tell_cut-clause-cuts g c tells =
    let image = g.V.PageView.image c.args.view.now in
    let small = c.blocks-blocks.type_inv in
    subst (λ b. CutsExtents b (page_of image) c.args.bound c.args.root.now c.close_root.new.root c.args.tx.now c.in-Ok-tell_cut.later) c.blocks-blocks.ensures
    (cuts_extents c.blocks-blocks.result c.args.bound c.root_form-form.result image c.args.root.now c.cut_page.new.bytes c.close_root.new.root c.cut_page.new.cut.draft.pages.items c.in-Ok.kept c.cut_page.new.cut.pages.items c.cut_page.new.cut.runs c.args.tx.now c.in-Ok-tell_cut.later
    (omega (arith, small)) c.root_form-form.ensures c.in_default.ensures.sound.1 (c.in-Ok.ensures.cuts tells) c.in-Ok.ensures.leaf c.in-Ok.ensures.kind c.in-Ok.ensures.kept c.close_root.ensures.stays c.close_root.ensures.empties
    (told_as (g.V.PageView.block_count c.cut_page.new.view) c.blocks-blocks.result (g.V.PageView.image c.cut_page.new.view) image c.cut_page.new.cut.draft.pages.items c.args.tx.now c.in-Ok-tell_cut.later (c.in-Ok.ensures.count_of_blocks ∙ sym c.blocks-blocks.ensures) (c.in-Ok.ensures.image tells) (c.in-Ok-tell_cut.ensures.told tells))
    c.in-Ok-tell_cut.ensures.frees)

pub returns-in-Ok-tell_cut-clause-edits : goal.returns-in-Ok-tell_cut-clause-edits
returns-in-Ok-tell_cut-clause-edits g c tells =
    let freed = c.cut_page.new.cut.pages.items in
    let runs = c.cut_page.new.cut.runs in (
      freed,
      runs,
      changes_as (g.V.PageView.block_count c.cut_page.new.view) (g.V.PageView.block_count c.args.view.now) Xtree (g.V.PageView.image c.cut_page.new.view) (g.V.PageView.image c.args.view.now) [] (page_frees freed ++ run_frees runs) c.args.tx.now c.in-Ok-tell_cut.later
          c.in-Ok.ensures.count_of_blocks (c.in-Ok.ensures.image tells) (c.in-Ok-tell_cut.ensures.changes tells),
    )

pub returns-in-Ok-tell_cut-clause-named : goal.returns-in-Ok-tell_cut-clause-named
returns-in-Ok-tell_cut-clause-named g c tells =
    let image = g.V.PageView.image c.args.view.now in
    let blocks = g.V.PageView.block_count c.args.view.now in
    let drafts = c.cut_page.new.cut.draft.pages.items in
    kept_told (frame_of Full) blocks image drafts c.args.tx.now c.in-Ok-tell_cut.later (c.in-Ok.ensures.framed tells)
    (told_as (g.V.PageView.block_count c.cut_page.new.view) blocks (g.V.PageView.image c.cut_page.new.view) image drafts c.args.tx.now c.in-Ok-tell_cut.later c.in-Ok.ensures.count_of_blocks (c.in-Ok.ensures.image tells) (c.in-Ok-tell_cut.ensures.told tells))
