use Rattle.std.proofs.Common.{◌≡◌, vec_len}
use Rattle.jfs_core_rows.proofs.runs.run.Given as goal

abbrev pub invariant-loop-code : goal.invariant-loop-code
invariant-loop-code l = vec_len l.steps ≡ l.code-index
