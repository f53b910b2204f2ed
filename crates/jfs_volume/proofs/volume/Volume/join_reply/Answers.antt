use Rattle.std.proofs.Common.{◌≡◌, ◌+◌, ap, ◌∙◌, arith}
use Rattle.jfs_halves.specs.Parts.{Parts}
use Rattle.jfs_volume.proofs.Joining.{joins_moves}
use Rattle.jfs_volume.proofs.volume.Volume.join_reply.Goals as goal

pub returns-clause-joins : goal.returns-clause-joins
returns-clause-joins g c = λ now seen asked told crashes half s.
    let ok = c.in-Ok-add_entry.ensures.ok in
    let number : c.self-2.inside.appended ≡ c.args.self.now.appended + 1 = ap (λ (p : Parts). p.appended) (c.self-2.view_is ∙ ok) in
    (rw (ok, c.in-Ok.ensures) (joins_moves seen asked c.args.client c.args.line c.args.request.now now c.args.reply c.args.self.now half s), omega (arith, number, s.appended))
