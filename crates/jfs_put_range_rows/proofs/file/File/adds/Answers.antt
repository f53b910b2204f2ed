use Rattle.jfs_put_range_rows.proofs.Freed.{free_within}
use Rattle.jfs_put_range_rows.proofs.file.File.adds.Goals as goal

pub add-answer-requires-clause-within : goal.add-answer-requires-clause-within
add-answer-requires-clause-within c = free_within c.in_ok-fresh.fresh c.in_ok-fresh.ensures
