use Rattle.std.proofs.Common.{◌∙◌, ◌||◌, ◌+◌, Bool, drop, ap, sym, arith}
use Rattle.jfs_bmap.specs.States.{is_in_list}
use Rattle.jfs_volume.proofs.Unbusy.{run_next, run_last}
use Rattle.jfs_volume.proofs.placing.is_in_list.Goals as goal

pub returns-then-is_in_run : goal.returns-then-is_in_run
returns-then-is_in_run c =
    sym (sym c.loop-run.invariant ∙ run_next c.args.runs.now c.loop-run.run-index c.args.b (omega arith)
    ∙ ap (λ (here : Bool). here || is_in_list (drop (c.loop-run.run-index + 1) c.args.runs.now) c.args.b) (sym c.is_in_run.ensures ∙ c.if-is_in_run.true))

pub loop-run-preserved : goal.loop-run-preserved
loop-run-preserved c =
    sym (run_next c.args.runs.now c.loop-run.run-index c.args.b (omega arith) ∙ ap (λ (here : Bool). here || is_in_list (drop (c.loop-run.run-index + 1) c.args.runs.now) c.args.b) (sym c.is_in_run.ensures ∙ c.if-is_in_run.false)) ∙ c.loop-run.invariant

pub returns : goal.returns
returns c = sym (sym c.loop-run.invariant ∙ run_last c.args.runs.now c.loop-run.run-index c.args.b (omega arith))
