use Rattle.std.proofs.Common.{◌-◌, ◌∙◌, ap, take, arith}
use Rattle.jfs_xtpage.specs.Page.{entries_of}
use Rattle.jfs_xtree.proofs.CutRows.{rows_none, rows_at}
use Rattle.jfs_xtree.proofs.cut_leaf.cut_leaf.Goals as goal
use Rattle.jfs_xtree.proofs.cut_leaf.cut_leaf.Goals.{then-keep-gt0, else-keep-gt0}

pub returns-clause-rows : goal.returns-clause-rows
returns-clause-rows c = elim c.if-keep-gt0.branch [
  | then-keep-gt0 w ↦
      rows_at c.args.bytes.now c.if-keep-gt0.bytes c.xt_cut.new.bytes c.args.bound c.first_past-keep.result (c.first_past-keep.result - 1) (let h = w.if-keep-gt0.true in omega (arith, h)) c.first_past-keep.ensures.most c.requires.order
      (let h = w.if-keep-gt0.true in c.first_past-keep.ensures.before (c.first_past-keep.result - 1) (omega (arith, h))) c.first_past-keep.ensures.past (ap entries_of w.bytes-is ∙ w.shorten.ensures.entries) c.xt_cut.ensures.entries
  | else-keep-gt0 w ↦
      rows_none c.args.bytes.now c.xt_cut.new.bytes c.args.bound c.first_past-keep.result (let h = w.if-keep-gt0.false in omega (arith, h)) c.first_past-keep.ensures.past (c.xt_cut.ensures.entries ∙ ap (λ b. take c.first_past-keep.result (entries_of b)) w.bytes-is)
]
