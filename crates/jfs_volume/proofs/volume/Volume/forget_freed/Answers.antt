use Rattle.std.proofs.Common.{arith}
use Rattle.jfs_volume.proofs.Later.{kept_later}
use Rattle.jfs_volume.proofs.volume.Volume.forget_freed.Goals as goal

pub invariant_of-self : goal.invariant_of-self
invariant_of-self g c =
    let i = c.self.invariant in
    let early = rw (← c.self.view_is) at c.requires in
    (i.0, i.1, i.2, i.3, i.4, i.5, i.6, i.7, omega (arith, early, i.1, i.2), rw c.keep_later.ensures (kept_later c.args.n c.self.inside.freed.items))
