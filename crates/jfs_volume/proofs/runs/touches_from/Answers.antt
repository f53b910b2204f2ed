use Rattle.std.proofs.Common.{sym, ◌∙◌, refl, arith}
use Rattle.std.proofs.lemmas.List.{drop_all}
use Rattle.jfs_volume.proofs.Taken.{touches_next}
use Rattle.jfs_volume.proofs.runs.touches_from.Goals as goal

pub loop-i-preserved : goal.loop-i-preserved
loop-i-preserved c =
    sym (touches_next c.args.n c.args.edits.now c.loop-i.i c.index-edits-i.result c.loop-i-test.true c.index-edits-i.is ∙ rw (sym c.touches_page.ensures ∙ c.if-touches_page.false) refl) ∙ c.loop-i.invariant

pub returns : goal.returns
returns c = rw (sym c.loop-i.invariant, drop_all c.loop-i.i c.args.edits.now (omega (arith, c.loop-i-test.false))) refl

pub returns-then-touches_page : goal.returns-then-touches_page
returns-then-touches_page c =
    sym (sym c.loop-i.invariant ∙ touches_next c.args.n c.args.edits.now c.loop-i.i c.index-edits-i.result c.loop-i-test.true c.index-edits-i.is ∙ rw (sym c.touches_page.ensures ∙ c.if-touches_page.true) refl)
