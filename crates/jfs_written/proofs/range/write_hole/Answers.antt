use Rattle.std.proofs.Common.{ap, ◌∙◌, take, arith}
use Rattle.jfs_bits.specs.declared.extent.Xad.{Xad}
use Rattle.jfs_xtree.specs.Cutting.{kept_below}
use Rattle.jfs_xtree.proofs.WrittenIn.{all_to_more}
use Rattle.jfs_written.specs.Walk.{all_joined}
use Rattle.jfs_written.proofs.Steps.{skipped, hole_step, hole_end, one_more, long_at}
use Rattle.jfs_written.proofs.range.write_hole.Goals as goal

-- what an index past the list would give
abbrev blank : Xad
blank = record { flag = 0; offset = 0; at = record { len = 0; addr = 0 } }

pub loop-i-init : goal.loop-i-init
loop-i-init c = record {
  rest = ap (λ ys. all_joined c.args.list.now.items (kept_below c.args.to ys)) (skipped c.args.from c.args.next c.args.xs.now c.requires.done);
  done = all_to_more c.args.from c.args.to (take c.args.next c.args.xs.now) c.requires.order c.requires.done;
}

pub join_part-requires-clause-some : goal.join_part-requires-clause-some
join_part-requires-clause-some c = long_at c.args.xs.now c.loop-i.i blank c.requires.range_long c.loop-i-test.true

pub returns-then-end_of-to-clause-list : goal.returns-then-end_of-to-clause-list
returns-then-end_of-to-clause-list c =
    hole_end c.loop-i.list.items c.join_part.new.list.items c.args.xs.now c.loop-i.i c.args.from c.args.to blank c.loop-i-test.true c.requires.range_rises (let t = c.if-end_of-to.true in let e = c.end_of.ensures in omega (arith, t, e)) c.in_ok-join_part.ensures
    ∙ c.loop-i.invariant.rest

pub loop-i-preserved : goal.loop-i-preserved
loop-i-preserved c = record {
  rest = hole_step c.loop-i.list.items c.join_part.new.list.items c.args.xs.now c.loop-i.i c.args.from c.args.to blank c.loop-i-test.true c.in_ok-join_part.ensures ∙ c.loop-i.invariant.rest;
  done = one_more c.args.to c.args.xs.now c.loop-i.i blank c.loop-i.invariant.done c.loop-i-test.true (let t = c.if-end_of-to.false in let e = c.end_of.ensures in omega (arith, t, e));
}
