use Rattle.std.proofs.Common.{rules}
use Rattle.jfs_logfmt.proofs.Runs.{runs_found}
use Rattle.jfs_logfmt.proofs.reading.update_of.Goals as goal

pub returns-clause-found : goal.returns-clause-found
returns-clause-found c =
    let e = c.in_ok-read_runs.ensures in
    let n = runs_found c.args.body.now c.args.d.count c.in_ok-read_runs.field-0 e in
    search (rules, n)
