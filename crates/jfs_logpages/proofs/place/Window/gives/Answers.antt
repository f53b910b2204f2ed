use Rattle.std.proofs.lemmas.Bool.{eqb-false}
use Rattle.jfs_logpages.proofs.Places.{not-given, none-given}
use Rattle.jfs_logpages.proofs.place.Window.gives.Goals as goal

pub returns-in-Some-place-clause-no : goal.returns-in-Some-place-clause-no
returns-in-Some-place-clause-no c = λ e newest is has.
    let self = c.args.self in
    not-given self.ring self.first self.size newest c.in-Some.point c.in-Some-place.given c.args.place c.requires.ring.0 c.requires.half c.in-Some-place.is (eqb-false c.in-Some-place.given c.args.place e) (rw c.in-Some.is at is) has

pub returns-in-None-place-clause-no : goal.returns-in-None-place-clause-no
returns-in-None-place-clause-no c = λ e newest is has.
    let self = c.args.self in
    none-given self.ring self.first self.size newest c.in-Some.point c.args.place c.in-None-place.is (rw c.in-Some.is at is) has
