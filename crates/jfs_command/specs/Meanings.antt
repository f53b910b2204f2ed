-- What each command means.
use Rattle.jfs_command.specs.declared.words.Command.{Command}
use Rattle.jfs_command.specs.declared.words.Job.{Job}
use Rattle.jfs_command.specs.declared.words.Job.TheVariants as jobs
use Rattle.jfs_command.specs.Inputs.{Inputs}
use Rattle.jfs_command.specs.Meaning.{Meaning}
use Rattle.jfs_command.specs.Super.{super_meaning}
use Rattle.jfs_command.specs.Log.{log_meaning}
use Rattle.jfs_command.specs.Check.{check_meaning}
use Rattle.jfs_command.specs.Redo.{redo_meaning}
use Rattle.jfs_command.specs.Format.{format_meaning}
use Rattle.jfs_command.specs.Order.{by_scripts}
use Rattle.jfs_command.specs.Run.{run_meaning}
use Rattle.jfs_command.specs.Gen.{gen_meaning}

abbrev pub job_meaning : Job → Inputs → Meaning
job_meaning jobs.Super inputs = super_meaning
job_meaning jobs.Log inputs = log_meaning
job_meaning jobs.Check inputs = check_meaning
job_meaning jobs.Redo inputs = redo_meaning
job_meaning (jobs.Format uuid label) inputs = format_meaning uuid label inputs.now
job_meaning (jobs.Run is_left) inputs = run_meaning is_left (by_scripts inputs.scripts) inputs.now
job_meaning (jobs.Generate number calls clients) inputs = gen_meaning number calls clients inputs.now

abbrev pub meaning_of : Command → Inputs → Meaning
meaning_of command inputs = job_meaning command.job inputs
