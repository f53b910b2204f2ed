use Rattle.std.proofs.Common.{arith}
use Rattle.jfs_object_check.proofs.Behind.{behind_found}
use Rattle.jfs_object_check.proofs.attributes.check_run.Goals as goal

pub returns : goal.returns
returns c = record { found = λ fits. behind_found c.args.blocks c.args.at c.args.d.now c.max-first.result c.saturating_add-end.result c.args.findings.now.items c.note_if.new.findings.items (omega arith) (omega arith) fits c.in_ok-note_if.ensures.found }
