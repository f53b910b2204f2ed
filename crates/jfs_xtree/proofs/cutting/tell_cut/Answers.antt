use Rattle.std.proofs.Common.{◌∙◌, ap, ◌++◌, ℕ, List}
use Rattle.jfs_tree.specs.Removes.{page_frees}
use Rattle.jfs_xtree.specs.Cutting.{run_frees}
use Rattle.jfs_xtree.proofs.CutTold.{changes_cut}
use Rattle.jfs_xtree.proofs.cutting.tell_cut.Goals as goal

pub returns-in-Ok-free_all-clause-changes : goal.returns-in-Ok-free_all-clause-changes
returns-in-Ok-free_all-clause-changes g c tells =
    changes_cut (g.V.PageView.block_count c.args.view.now) (g.V.PageView.image c.args.view.now) c.args.cut.now.draft.pages.items c.args.tx.now c.in-Ok.later c.tell_draft.new.tx c.free_all.new.tx c.args.cut.now.pages.items c.args.cut.now.runs
    c.in-Ok.ensures (c.in-Ok-free_all.ensures ∙ ap (λ (ns : List ℕ). c.tell_draft.new.tx ++ (page_frees ns ++ run_frees c.args.cut.now.runs)) c.as_slice.ensures.value) (c.in_ok-tell_draft.ensures.edits tells) (c.in_ok-tell_draft.ensures.told tells)
