use Rattle.std.proofs.Common.{arith}
use Rattle.jfs_logpages.proofs.Places.{place-has, place-only}
use Rattle.jfs_logpages.proofs.place.Window.place.Goals as goal

pub returns-then-place-self-clause-found : goal.returns-then-place-self-clause-found
returns-then-place-self-clause-found c =
    let self = c.args.self in
    let has = place-has self.ring self.first c.args.address c.requires.ring.0 c.if-page-lt2.false (omega (arith, c.if-page-self.false)) c.if-offset-lt9.false c.if-offset-gt4088.false in
    let within = rw (c.from.ensures, c.from-2.ensures, c.from-3.ensures, c.from-4.ensures) at c.if-place-self.true in
    rw (c.from.ensures, c.from-2.ensures, c.from-3.ensures, c.from-4.ensures) (has.0, within, has.1)

pub returns-else-place-self-clause-none : goal.returns-else-place-self-clause-none
returns-else-place-self-clause-none c = λ e place has.
    let self = c.args.self in
    let only = place-only self.ring self.first self.size c.args.address place c.requires.ring.0 c.requires.half has in
    let beyond = rw (c.from.ensures, c.from-2.ensures, c.from-3.ensures, c.from-4.ensures) at c.if-place-self.false in
    omega (arith, beyond, only.4, has.1)
