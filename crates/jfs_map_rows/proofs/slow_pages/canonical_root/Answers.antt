use Rattle.std.proofs.Common.{arith}
use Rattle.jfs_dmap.specs.Dmap.{taken_in}
use Rattle.jfs_dmapctl.proofs.Values.{value-read}
use Rattle.jfs_dmapctl.specs.Control.{IsValue}
use Rattle.jfs_bmap.proofs.GreatestRuns.{greatest_run-value}
use Rattle.jfs_map_rows.proofs.slow_pages.canonical_root.Goals as goal

pub returns-then-same_pages : goal.returns-then-same_pages
returns-then-same_pages c =
    let value : IsValue 0 c.dmap_root.result = rw c.dmap_root.ensures (greatest_run-value (taken_in c.dmap_canonical.new.page.0) 0 13 13 (omega arith)) in
    rw (value-read 0 c.dmap_root.result (omega arith) value) value
