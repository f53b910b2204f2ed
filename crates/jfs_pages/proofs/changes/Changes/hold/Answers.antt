use Rattle.std.proofs.Common.{subst, sym, arith}
use Rattle.jfs_pages.specs.Dirty.{IsRising}
use Rattle.jfs_pages.proofs.Room.{waiting-le}
use Rattle.jfs_pages.proofs.changes.Changes.hold.Goals as goal

pub invariant_of-self-2 : goal.invariant_of-self-2
invariant_of-self-2 c =
    let items = c.in_ok-reserve.ensures.items in
    record { rising = subst IsRising (sym items) c.args.self.now.rising; room = rw items (omega (arith, c.in_ok-reserve.ensures.ok, c.in_ok-reserve.ensures.len, c.len.ensures, waiting-le c.args.pages.items c.args.self.now.dirty.items)) }
