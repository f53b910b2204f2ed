use Rattle.std.proofs.Common.{sym, subst}
use Rattle.jfs_shared.specs.Shared.{standing, log_standing}
use Rattle.jfs_shared.specs.Start.{StandsFresh}
use Rattle.jfs_server.proofs.server.Server.start.Goals as goal

pub new-requires-2-clause-stands : goal.new-requires-2-clause-stands
new-requires-2-clause-stands g c =
    let f = c.requires.fresh in
    let r = c.started-shared.result in
    subst (λ b. StandsFresh (standing g.D.Disk) (log_standing g.D.Disk) b r.0 r.1) (sym f.base_is) (c.started-shared.ensures.stands f.super f.image f.mounted f.few.0 f.few.1)
