use Rattle.jfs_clients.proofs.Runs.{Goes}
use Rattle.jfs_clients.proofs.clients.run_lines.Given as goal

abbrev pub invariant-loop-line : goal.invariant-loop-line
invariant-loop-line g l = Goes g.C.Caller.left g.C.Caller.did l.lines l.line-index l.fn.caller l.caller
