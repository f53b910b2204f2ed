use Rattle.jfs_kept_volumes.proofs.Halts.{halt_law}
use Rattle.jfs_kept_volumes.proofs.Kept.{kept_quiet_law}
use Rattle.jfs_kept_volumes.proofs.Quiet.{quiet_law}
use Rattle.jfs_kept_volumes.proofs.law.quiet_changes_keep_volumes.Goals as goal

pub returns-clause-quiet : goal.returns-clause-quiet
returns-clause-quiet c = quiet_law

pub returns-clause-kept : goal.returns-clause-kept
returns-clause-kept c = kept_quiet_law

pub returns-clause-halt : goal.returns-clause-halt
returns-clause-halt c = halt_law
