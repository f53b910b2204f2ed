use Rattle.std.proofs.Common.{◌+◌, ◌^◌, ◌∙◌, arith}
use Rattle.std.proofs.lemmas.Bool.{or_left}
use Rattle.std.proofs.lemmas.Nat.{one_shl}
use Rattle.jfs_bits.specs.Bits.{is_in_run, is_full}
use Rattle.jfs_bits.proofs.Runs.{all_below-from}
use Rattle.jfs_dmap.specs.Dmap.{taken_in}
use Rattle.jfs_bits.proofs.Counts.{in_run}
use Rattle.jfs_map_rows.proofs.runs.take_run.Goals as goal

pub dmap_mark-requires-clause-free : goal.dmap_mark-requires-clause-free
dmap_mark-requires-clause-free c =
    let found = c.in_ok-first.ensures in
    rw (one_shl c.args.l2 32 (omega arith), found.2) found.3

pub returns-clause-taken : goal.returns-clause-taken
unfolding is_full
returns-clause-taken c =
    let first = c.in_ok-first.first in
    let size = 2 ^ c.args.l2 in
    all_below-from size (λ i. taken_in c.dmap_mark.new.page.0 (first + i)) (λ i h.
    rw (one_shl c.args.l2 32 (omega arith)) at (c.dmap_mark.ensures.set (first + i))
    ∙ or_left (is_in_run first size (first + i)) (taken_in c.args.page.now.0 (first + i)) (in_run first size (first + i) (omega arith) (omega arith)))
