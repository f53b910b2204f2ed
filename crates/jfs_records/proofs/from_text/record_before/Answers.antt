use Rattle.std.proofs.Common.{take, drop, ap, arith}
use Rattle.jfs_logpages.specs.Back.{Met}
use Rattle.jfs_records.proofs.FromText.{cut_at, on_volume}
use Rattle.jfs_records.proofs.from_text.record_before.Goals as goal

pub unreachable-requires : goal.unreachable-requires
unreachable-requires c =
    let m = c.requires.0 in
    let text = c.args.read.now.bytes.items in
    rw c.in-Err-Bad.field-0-is at
    (c.in-Err-Bad.ensures.whole (take m.start (take m.end text)) (drop m.start (take m.end text)) m.is (cut_at text c.bytes.result.now m c.args.end c.bytes.ensures c.requires.2) c.requires.1.spells c.requires.1.kept)

pub returns-in-Ok-clause-is : goal.returns-in-Ok-clause-is
returns-in-Ok-clause-is c = λ m is at.
    let text = c.args.read.now.bytes.items in
    (c.in-Ok.ensures.whole (take m.start (take m.end text)) (drop m.start (take m.end text)) m.is (cut_at text c.bytes.result.now m c.args.end c.bytes.ensures at) is.spells is.kept).0

pub returns-in-Ok-clause-page : goal.returns-in-Ok-clause-page
returns-in-Ok-clause-page c = on_volume c.args.blocks c.in-Ok.found c.ranges.blocks.fits c.in-Ok.ensures.found.2
