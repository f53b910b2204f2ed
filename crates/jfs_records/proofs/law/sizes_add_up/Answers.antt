use Rattle.jfs_records.proofs.Sizes.{entry_sized, bytes_add, count_adds, run_counts}
use Rattle.jfs_records.proofs.law.sizes_add_up.Goals as goal

pub returns-clause-sizes : goal.returns-clause-sizes
returns-clause-sizes c = (entry_sized, bytes_add, count_adds)

pub returns-clause-runs : goal.returns-clause-runs
returns-clause-runs c = run_counts
