use Rattle.std.proofs.Common.{inr, refl}
use Rattle.jfs_logpages.specs.Back.{first_of}
use Rattle.jfs_logpages.proofs.Judged.{not-ahead, newest-there, followed}
use Rattle.jfs_logpages.proofs.backwards.judge.Goals as goal

pub returns-then-not-lies_within : goal.returns-then-not-lies_within
returns-then-not-lies_within c = λ ms behind is.
    let w = c.args.window in
    let point = rw c.in-Some.is at is in
    let apart = c.gives.ensures.no c.if-gives.false _ is in
    inr (
      refl,
      (followed c.args.at _ c.args.record.now c.args.next.now (first_of ms) c.is_followed.result c.if-not-is_followed.false c.is_followed.ensures c.requires.address behind, λ given. absurd (apart given)),
      not-ahead w.ring w.first w.size _ c.in-Some.point c.args.start c.args.end c.requires.ring.0 c.requires.half point (c.lies_within.ensures.no c.if-not-lies_within.true) apart,
      newest-there w.ring w.first w.size _ c.in-Some.point c.address.result point c.address.ensures.value,
    )
