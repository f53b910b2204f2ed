use Rattle.jfs_log_window.proofs.Events.{events_begin, events_go_on}
use Rattle.jfs_log_window.proofs.law.logs_have_what_happened.Goals as goal

pub returns-clause-start : goal.returns-clause-start
returns-clause-start c = events_begin

pub returns-clause-steps : goal.returns-clause-steps
returns-clause-steps c = events_go_on
