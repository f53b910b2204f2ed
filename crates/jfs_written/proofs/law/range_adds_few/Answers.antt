use Rattle.jfs_written.proofs.Counts.{loses_none, adds_few}
use Rattle.jfs_written.proofs.law.range_adds_few.Goals as goal

pub returns-clause-least : goal.returns-clause-least
returns-clause-least c = loses_none

pub returns-clause-most : goal.returns-clause-most
returns-clause-most c = adds_few
