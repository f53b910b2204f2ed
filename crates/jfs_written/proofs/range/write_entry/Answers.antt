use Rattle.std.proofs.Common.{◌∙◌, take, arith}
use Rattle.jfs_bits.specs.declared.extent.Xad.{Xad}
use Rattle.jfs_xtpage.specs.Page.{end_of}
use Rattle.jfs_xtree.specs.Laws.{ends_after}
use Rattle.jfs_xtree.proofs.WrittenIn.{all_to_more}
use Rattle.jfs_written.proofs.Steps.{entry_start, entry_step, entry_end, entry_rest, one_more, long_at}
use Rattle.jfs_written.proofs.range.write_entry.Goals as goal

-- what an index past the list would give
abbrev blank : Xad
blank = record { flag = 0; offset = 0; at = record { len = 0; addr = 0 } }

pub loop-i-init : goal.loop-i-init
loop-i-init c = record {
  rest = entry_start c.args.list.now.items c.args.xs.now c.args.next c.args.e.now c.requires.done;
  done = all_to_more c.args.e.now.offset (end_of c.args.e.now) (take c.args.next c.args.xs.now) (let w = ends_after c.args.e.now in omega (arith, w)) c.requires.done;
}

pub push_part-requires-in-loop-i-clause-some : goal.push_part-requires-in-loop-i-clause-some
push_part-requires-in-loop-i-clause-some c = long_at c.args.xs.now c.loop-i.i blank c.requires.range_long c.loop-i-test.true

pub returns-then-from-end-clause-list : goal.returns-then-from-end-clause-list
returns-then-from-end-clause-list c =
    entry_end c.loop-i.list.items c.push_part.new.list.items c.push_part-in-loop-i.new.list.items c.args.xs.now c.loop-i.i c.loop-i.from c.end_of-end.result c.end_of-from.result blank c.args.e.now c.loop-i-test.true c.requires.range_rises
    c.end_of-end.ensures c.end_of-from.ensures c.if-from-end.true c.in_ok-push_part.ensures c.in_ok-push_part-2.ensures
    ∙ c.loop-i.invariant.rest

pub loop-i-preserved : goal.loop-i-preserved
loop-i-preserved c = record {
  rest =
      entry_step c.loop-i.list.items c.push_part.new.list.items c.push_part-in-loop-i.new.list.items c.args.xs.now c.loop-i.i c.loop-i.from c.end_of-end.result c.end_of-from.result blank c.args.e.now c.loop-i-test.true
      c.end_of-end.ensures c.end_of-from.ensures c.in_ok-push_part.ensures c.in_ok-push_part-2.ensures
      ∙ c.loop-i.invariant.rest;
  done = one_more (end_of c.args.e.now) c.args.xs.now c.loop-i.i blank c.loop-i.invariant.done c.loop-i-test.true (let t = c.if-from-end.false in let e = c.end_of-from.ensures in let f = c.end_of-end.ensures in omega (arith, t, e, f));
}

pub returns-clause-list : goal.returns-clause-list
returns-clause-list c = entry_rest c.loop-i.list.items c.push_part-2.new.list.items c.args.xs.now c.loop-i.i c.loop-i.from c.end_of-end.result c.args.e.now c.loop-i-test.false c.end_of-end.ensures c.in_ok-push_part-3.ensures ∙ c.loop-i.invariant.rest
