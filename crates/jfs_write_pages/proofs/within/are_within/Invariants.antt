use Rattle.std.proofs.Common.{◌≡◌, drop}
use Rattle.jfs_data_steps.specs.xtree.specs.Node.{all_within}
use Rattle.jfs_write_pages.proofs.within.are_within.Given as goal

abbrev pub invariant-loop-e : goal.invariant-loop-e
invariant-loop-e l = all_within l.blocks (drop l.e-index l.es) ≡ all_within l.blocks l.es
