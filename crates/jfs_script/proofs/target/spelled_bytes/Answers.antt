use Rattle.jfs_script.proofs.Targets.{plain_byte, escaped_one, bad_escape, all_spelled}
use Rattle.jfs_script.proofs.target.spelled_bytes.Goals as goal

pub loop-first-preserved-then-first-ne37 : goal.loop-first-preserved-then-first-ne37
loop-first-preserved-then-first-ne37 c =
    rw c.in_ok-push.ensures.ok (plain_byte c.args.text.now c.loop-first.rest.now c.in-Some.after.now c.loop-first.bytes c.in-Some.first.now c.in-Some.ensures.cases.0 c.if-first-ne37.true c.loop-first.invariant)

pub loop-first-preserved : goal.loop-first-preserved
loop-first-preserved c =
    let e = c.in-Some-read_escape.ensures in
    rw c.in_ok-push-in-Some-read_escape.ensures.ok (escaped_one c.args.text.now c.loop-first.rest.now c.in-Some.after.now c.in-Some-read_escape.behind.now c.loop-first.bytes c.in-Some.first.now e.0 e.1 c.in-Some-read_escape.byte c.in-Some.ensures.cases.0 c.if-first-ne37.false e.2 e.3 c.loop-first.invariant)

pub returns-in-None : goal.returns-in-None
returns-in-None c =
    bad_escape c.args.text.now c.loop-first.rest.now c.in-Some.after.now c.loop-first.bytes c.in-Some.first.now c.in-Some.ensures.cases.0 c.if-first-ne37.false c.in-None.ensures c.loop-first.invariant

pub returns : goal.returns
returns c = all_spelled c.args.text.now c.loop-first.rest.now c.loop-first.bytes c.in_default.ensures.cases c.loop-first.invariant
