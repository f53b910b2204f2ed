use Rattle.jfs_kept_volumes.proofs.Logs.{other_log_law, other_log_at_law}
use Rattle.jfs_kept_volumes.proofs.law.other_logs_hold_volumes.Goals as goal

pub returns-clause-held : goal.returns-clause-held
returns-clause-held c = other_log_law

pub returns-clause-parts : goal.returns-clause-parts
returns-clause-parts c = other_log_at_law
