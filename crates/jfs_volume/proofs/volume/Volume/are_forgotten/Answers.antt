use Rattle.std.proofs.lemmas.Bool.{leb-true}
use Rattle.jfs_volume.proofs.Later.{later_below}
use Rattle.jfs_volume.proofs.volume.Volume.are_forgotten.Goals as goal

pub returns : goal.returns
returns g c = rw (← c.self.view_is) (record { later = λ e. later_below c.args.n c.self.inside.forgotten c.self.inside.freed.items (leb-true c.args.n c.self.inside.forgotten e) c.self.invariant.9 })
