use Rattle.jfs_command.proofs.Scripted.{are_lines}
use Rattle.jfs_command.proofs.scripts.read_one.Goals as goal

pub returns-in-Ok-clause-lines : goal.returns-in-Ok-clause-lines
returns-in-Ok-clause-lines g c = let is = c.in-Ok.ensures in are_lines is.answer.0 c.in-Ok.lines.items is.fits is.answer.2.0 is.answer.2.1
