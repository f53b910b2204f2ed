use Rattle.jfs_rename.proofs.Replaced.{replace_law}
use Rattle.jfs_rename.proofs.law.replacements_take_the_plain_step.Goals as goal

pub returns : goal.returns
returns c = replace_law
