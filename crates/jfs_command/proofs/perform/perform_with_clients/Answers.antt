use Rattle.std.proofs.Common.{◌≡◌, ◌<◌, List, [], length, ap, arith}
use Rattle.jfs_command.proofs.Performing.{without_scripts}
use Rattle.jfs_command.proofs.perform.perform_with_clients.Goals as goal

-- a run has scripts
never : {X : Type 0} (xs : List X) → 0 < length xs → xs ≡ [] → ⊥
never xs some none = let e = ap length none in omega (arith, e, some)

pub returns-in-Run-clause-meaning : goal.returns-in-Run-clause-meaning
returns-in-Run-clause-meaning g c = rw c.in-Run.is c.run_scripts.ensures.meaning

pub returns-in-Generate-clause-meaning : goal.returns-in-Generate-clause-meaning
returns-in-Generate-clause-meaning g c = without_scripts g.D.Disk g.S.Source c.args.command c.args.now c.args.disk c.generate.result.disk c.args.scripts.now.items c.generate.result.outcome (rw c.in-Generate.is c.generate.ensures.meaning)
