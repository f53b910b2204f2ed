use Rattle.std.proofs.Common.{refl, arith}
use Rattle.jfs_dtpage.proofs.Meeting.{meets_more, meets_taken, meets_all}
use Rattle.jfs_dtpage.proofs.follow.meet_chain.Goals as goal

pub loop-more-init : goal.loop-more-init
loop-more-init c = (λ k. refl, refl, λ k. omega arith)

pub returns-then-not-meet : goal.returns-then-not-meet
returns-then-not-meet c = meets_taken c.args.bytes.now c.args.left.now c.loop-more.left c.args.first c.args.count c.loop-more.slot c.loop-more.more c.loop-more-test.true c.loop-more.invariant (c.if-not-meet.ensures.no refl)

pub loop-more-preserved : goal.loop-more-preserved
loop-more-preserved c =
    meets_more c.args.bytes.now c.args.left.now c.loop-more.left c.meet.new.left c.args.first c.args.count c.loop-more.slot c.loop-more.more c.next_of-slot.result c.loop-more-test.true c.loop-more.invariant (c.if-not-meet.ensures.yes refl).1 c.next_of-slot.ensures

pub returns : goal.returns
returns c = meets_all c.args.bytes.now c.args.left.now c.loop-more.left c.args.first c.args.count c.loop-more.slot c.loop-more.more (let e = c.loop-more-test.false in omega (arith, e)) c.loop-more.invariant
