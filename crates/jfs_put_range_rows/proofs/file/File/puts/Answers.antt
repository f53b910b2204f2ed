use Rattle.jfs_put_range_rows.proofs.Freed.{free_within}
use Rattle.jfs_put_range_rows.proofs.file.File.puts.Goals as goal

pub put_range-answer-requires-clause-within : goal.put_range-answer-requires-clause-within
put_range-answer-requires-clause-within c = free_within c.in_ok-fresh.fresh c.in_ok-fresh.ensures
