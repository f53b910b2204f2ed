use Rattle.jfs_logfmt.proofs.Numbers.{written_spells, length-text}
use Rattle.jfs_logfmt.proofs.law.written_is_spelled.Goals as goal

pub returns-clause-spells : goal.returns-clause-spells
returns-clause-spells c = written_spells

pub returns-clause-size : goal.returns-clause-size
returns-clause-size c = length-text
