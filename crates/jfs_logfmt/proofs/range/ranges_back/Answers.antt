use Rattle.std.proofs.Common.{reverse, sym}
use Rattle.jfs_logfmt.proofs.Ranges.{known_start, known_more, known_none, known_out}
use Rattle.jfs_logfmt.proofs.range.ranges_back.Goals as goal

pub loop-end-init : goal.loop-end-init
loop-end-init c = rw c.new-back.ensures.items (known_start c.args.size c.args.pages c.args.body.now)

pub returns-in_default-clause-bad : goal.returns-in_default-clause-bad
returns-in_default-clause-bad c =
    let none = rw c.in_default.is at c.in_ok-found.ensures.none in
    rw c.bad.ensures (known_none c.args.size c.args.pages c.args.body.now c.split_at.result.0.now c.loop-end.end (reverse c.loop-end.back.items) c.split_at.ensures.front c.loop-end-test.true none c.loop-end.invariant)

pub returns-then-not-lies_within-clause-bad : goal.returns-then-not-lies_within-clause-bad
returns-then-not-lies_within-clause-bad c =
    let found = rw c.in-Some.is at c.in_ok-found.ensures.found in
    rw c.bad-then-not-lies_within.ensures (known_out c.args.size c.args.pages c.args.body.now c.split_at.result.0.now c.in-Some.found.start c.loop-end.end c.in-Some.found.range (reverse c.loop-end.back.items) c.split_at.ensures.front found c.if-not-lies_within.ensures c.loop-end.invariant)

pub loop-end-preserved : goal.loop-end-preserved
loop-end-preserved c =
    let found = rw c.in-Some.is at c.in_ok-found.ensures.found in
    rw c.in_ok-push.ensures.items (known_more c.args.size c.args.pages c.args.body.now c.split_at.result.0.now c.in-Some.found.start c.loop-end.end c.in-Some.found.range c.loop-end.back.items c.split_at.ensures.front found (sym c.if-not-lies_within.ensures) c.loop-end.invariant)
