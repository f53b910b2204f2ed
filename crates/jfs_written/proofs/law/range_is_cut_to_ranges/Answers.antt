use Rattle.jfs_written.proofs.Each.{is_cut_to_ranges}
use Rattle.jfs_written.proofs.law.range_is_cut_to_ranges.Goals as goal

pub returns : goal.returns
returns c = is_cut_to_ranges
