use Rattle.jfs_log_window.proofs.Window.{window_law, rest_law}
use Rattle.jfs_log_window.proofs.law.crashed_logs_commit_a_window.Goals as goal

pub returns-clause-meanwhile : goal.returns-clause-meanwhile
returns-clause-meanwhile c = window_law

pub returns-clause-before : goal.returns-clause-before
returns-clause-before c = rest_law
