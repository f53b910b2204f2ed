use Rattle.std.proofs.Common.{◌∙◌, ap, sym, true, false}
use Rattle.jfs_xtpage.specs.declared.head.XtHead.{XtHead}
use Rattle.jfs_xtree.specs.Node.{is_leaf}
use Rattle.jfs_xtree.proofs.Reading.{broken_itself, broken_range, broken_deep, sound, as_read}
use Rattle.jfs_xtree.proofs.check.check_page.Goals as goal

pub returns-in-Err-clause-broken : goal.returns-in-Err-clause-broken
returns-in-Err-clause-broken c = broken_itself c.args.form c.args.blocks c.args.bytes.now c.in-Err.bad.rule c.in-Err.ensures.broken

pub returns-then-not-are_within-clause-broken : goal.returns-then-not-are_within-clause-broken
returns-then-not-are_within-clause-broken c =
    broken_range c.args.form c.args.blocks c.args.bytes.now c.in-Ok.ensures.sound.0 (as_read c.args.blocks c.args.bytes.now c.in-Ok.head c.are_within.result false c.in-Ok.ensures.sound.1 c.are_within.ensures c.if-not-are_within.true)

pub returns-then-head-eq2-clause-broken : goal.returns-then-head-eq2-clause-broken
returns-then-head-eq2-clause-broken c =
    broken_deep c.args.form c.args.blocks c.args.bytes.now
    (sound c.args.form c.args.blocks c.args.bytes.now c.in-Ok.ensures.sound.0 (as_read c.args.blocks c.args.bytes.now c.in-Ok.head c.are_within.result true c.in-Ok.ensures.sound.1 c.are_within.ensures c.if-not-are_within.false))
    (ap (λ (h : XtHead). is_leaf h.flag) (sym c.in-Ok.ensures.sound.1) ∙ sym c.is_leaf.ensures ∙ c.if-not-is_leaf.true) (ap (λ (h : XtHead). h.nextindex) (sym c.in-Ok.ensures.sound.1) ∙ c.if-head-eq2.true)

pub returns-clause-sound : goal.returns-clause-sound
returns-clause-sound c =
    (c.in-Ok.ensures.sound.1, sound c.args.form c.args.blocks c.args.bytes.now c.in-Ok.ensures.sound.0 (as_read c.args.blocks c.args.bytes.now c.in-Ok.head c.are_within.result true c.in-Ok.ensures.sound.1 c.are_within.ensures c.if-not-are_within.false))
