use Rattle.std.proofs.Common.{◌-◌, arith}
use Rattle.jfs_xtree.proofs.CutRows.{gone_none_before, gone_at}
use Rattle.jfs_xtree.proofs.cut_leaf.push_rest.Goals as goal
use Rattle.jfs_xtree.proofs.cut_leaf.push_rest.Goals.{then-keep-gt0+in_ok-push_tail, else-keep-gt0}

pub returns-clause-gone : goal.returns-clause-gone
returns-clause-gone c = elim c.if-keep-gt0.branch [
  | then-keep-gt0+in_ok-push_tail w ↦
      gone_at c.push_runs.result c.args.bytes.now c.args.bound c.args.keep (c.args.keep - 1) w.xt_entry.result c.args.runs.now w.push_tail.new.runs c.if-keep-gt0.runs c.push_runs.new.runs
      (let h = w.if-keep-gt0.true in omega (arith, h)) c.requires.most c.requires.order (let h = w.if-keep-gt0.true in c.requires.before (c.args.keep - 1) (omega (arith, h))) c.requires.past w.xt_entry.ensures.value
      w.in_ok-push_tail.ensures.gone w.runs-is c.push_runs.ensures.runs
  | else-keep-gt0 w ↦
      gone_none_before c.push_runs.result c.args.bytes.now c.args.bound c.args.keep c.args.runs.now c.if-keep-gt0.runs c.push_runs.new.runs (let h = w.if-keep-gt0.false in omega (arith, h)) c.requires.past w.runs-is c.push_runs.ensures.runs
]
