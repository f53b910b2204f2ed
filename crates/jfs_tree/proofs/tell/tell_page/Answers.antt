use Rattle.std.proofs.Common.{inl, inr, sym, ◌∙◌, subst, arith}
use Rattle.jfs_tree.proofs.Telling.{loop_on, turn_none, others_none}
use Rattle.jfs_tree.proofs.RunsTold.{runs_on, runs_done}
use Rattle.jfs_tree.specs.Tell.{LeavesOthers, Turns}
use Rattle.jfs_tree.proofs.tell.tell_page.Goals as goal
use Rattle.jfs_tree.proofs.tell.tell_page.Goals.{then-first-end+in_ok-tell_run, else-first-end}

pub loop-first-preserved : goal.loop-first-preserved
loop-first-preserved c =
    let told = loop_on c.args.n c.args.tx.now c.lines_of-size.result.0 c.loop-first.first c.run_end-end.result c.lines_of-size.result.1 c.args.new.now.0 c.args.old.now.0 c.loop-first.tx c.if-first-end.tx
    c.lines_of-size.ensures.lines c.bytes-new_size.ensures.size c.bytes-old_size.ensures.size c.run_end-end.ensures.order.1 c.run_end-end.ensures.same c.loop-first.invariant.1
    (elim c.if-first-end.branch [
      | then-first-end+in_ok-tell_run w ↦ subst (Turns c.args.n c.lines_of-size.result.0 c.loop-first.first c.run_end-end.result c.args.new.now.0 c.loop-first.tx) (sym w.tx-is) w.in_ok-tell_run.ensures.told
      | else-first-end w ↦ subst (Turns c.args.n c.lines_of-size.result.0 c.loop-first.first c.run_end-end.result c.args.new.now.0 c.loop-first.tx) (sym w.tx-is)
          (turn_none c.args.n c.lines_of-size.result.0 c.loop-first.first c.run_end-end.result c.args.new.now.0 c.loop-first.tx (let a = c.run_end-end.ensures.order.0 in let b = w.if-first-end.false in omega (arith, a, b)))
    ]) c.loop-first.invariant.2
    (elim c.if-first-end.branch [
      | then-first-end+in_ok-tell_run w ↦ subst (LeavesOthers c.args.n c.loop-first.tx) (sym w.tx-is) w.in_ok-tell_run.ensures.others
      | else-first-end w ↦ subst (LeavesOthers c.args.n c.loop-first.tx) (sym w.tx-is) (others_none c.args.n c.loop-first.tx)
    ]) in (
      told.0,
      told.1,
      told.2,
      runs_on c.args.n c.args.kind c.args.old.now.0 c.args.new.now.0 c.lines_of-size.result.0 c.loop-first.first c.run_end-end.result c.lines_of-size.result.1 c.args.tx.now c.loop-first.tx c.if-first-end.tx
          c.lines_of-size.ensures.size.0 c.lines_of-size.ensures.lines c.run_end-end.ensures.order.1 c.run_end-end.ensures.same c.run_end-end.ensures.changed
          (elim c.if-first-end.branch [
            | then-first-end+in_ok-tell_run w ↦ inl (w.if-first-end.true, w.tx-is ∙ w.in_ok-tell_run.ensures.edit)
            | else-first-end w ↦ inr (let a = c.run_end-end.ensures.order.0 in let b = w.if-first-end.false in omega (arith, a, b), w.tx-is)
          ]) c.loop-first.invariant.3,
    )

pub returns-clause-runs : goal.returns-clause-runs
returns-clause-runs c =
    runs_done c.args.n c.args.kind c.args.old.now.0 c.args.new.now.0 c.lines_of-size.result.0 c.loop-first.first c.lines_of-size.result.1 c.args.tx.now c.loop-first.tx
    c.lines_of-size.ensures.size.0 c.lines_of-size.ensures.lines (let h = c.loop-first-test.false in omega (arith, h)) c.loop-first.invariant.3
