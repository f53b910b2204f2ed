use Rattle.std.proofs.Common.{◌+◌, ◌/◌, ap}
use Rattle.jfs_mount.proofs.Rows.{counted, bmap_holds, bmap_breaks}
use Rattle.jfs_mount.proofs.numbers.bad_bmap.Goals as goal

pub returns-then-covered-pages : goal.returns-then-covered-pages
returns-then-covered-pages c s is =
    bmap_holds s c.args.maps.now is (4 + (c.from.result + 8191) / 8192) c.covered-covered.result (ap (λ n. 4 + (n + 8191) / 8192) c.from.ensures)
    (counted (4 + (c.from.result + 8191) / 8192) c.covered-covered.result c.args.maps.now.block_map c.as_slice.result.now c.as_slice.ensures c.covered-covered.ensures) c.if-covered-pages.true

pub returns : goal.returns
returns c s is =
    bmap_breaks s c.args.maps.now is (4 + (c.from.result + 8191) / 8192) c.covered-covered.result (ap (λ n. 4 + (n + 8191) / 8192) c.from.ensures)
    (counted (4 + (c.from.result + 8191) / 8192) c.covered-covered.result c.args.maps.now.block_map c.as_slice.result.now c.as_slice.ensures c.covered-covered.ensures) c.if-covered-pages.false
