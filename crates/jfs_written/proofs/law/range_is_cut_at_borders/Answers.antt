use Rattle.jfs_written.proofs.Uncut.{cuts_at_borders, is_one_written}
use Rattle.jfs_written.proofs.law.range_is_cut_at_borders.Goals as goal

pub returns-clause-parts : goal.returns-clause-parts
returns-clause-parts c = cuts_at_borders

pub returns-clause-one : goal.returns-clause-one
returns-clause-one c = is_one_written
