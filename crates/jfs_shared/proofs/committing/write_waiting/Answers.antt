use Rattle.std.proofs.Common.{sym, ◌∙◌}
use Rattle.std.proofs.lemmas.Bool.{eqb-true}
use Rattle.jfs_shared.proofs.Writing.{idle}
use Rattle.jfs_shared.proofs.committing.write_waiting.Goals as goal

pub returns-then-is_idle-clause-write : goal.returns-then-is_idle-clause-write
returns-then-is_idle-clause-write g c n k =
    idle g.D.Disk c.args.shared.now c.args.log.now c.requires.running (eqb-true c.args.shared.now.volume.taken c.args.shared.now.volume.appended (sym c.is_idle.ensures.idle ∙ c.if-is_idle.true)) n k
