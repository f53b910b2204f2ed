use Rattle.std.proofs.Common.{arith}
use Rattle.jfs_logpages.proofs.Records.{ends-of}
use Rattle.jfs_logpages.proofs.Moments.{log-reads}
use Rattle.jfs_logpages.proofs.log_side.LogSide.write_group.Goals as goal

pub returns-in-Ok-clause-moments : goal.returns-in-Ok-clause-moments
returns-in-Ok-clause-moments g c = λ t k before ends holds rests.
    let text = c.args.text.now in
    (rw (c.bytes.ensures, c.ends.ensures) at (c.write_group.ensures.moments t k)) before ends holds.page holds.ring rests (ends-of 0 text.bytes.items text.ends.items text.records)

pub returns-in-Err-clause-moments : goal.returns-in-Err-clause-moments
returns-in-Err-clause-moments g c = λ t k before ends holds rests.
    let text = c.args.text.now in
    (rw (c.bytes.ensures, c.ends.ensures) at (c.write_group.ensures.moments t k)) before ends holds.page holds.ring rests (ends-of 0 text.bytes.items text.ends.items text.records)

pub returns-in-Ok-clause-holds : goal.returns-in-Ok-clause-holds
returns-in-Ok-clause-holds g c = λ t before ends holds.
    let text = c.args.text.now in
    let after = ends-of 0 text.bytes.items text.ends.items text.records in
    let page = (rw (c.bytes.ensures, c.ends.ensures) at c.in-Ok.ensures.last) before ends holds.page after in
    let ring = (rw (c.bytes.ensures, c.ends.ensures) at (c.in-Ok.ensures.image t)) before ends holds.page holds.ring after in
    let now = c.write_group.new.last in (
      record { page = page; ring = ring },
      log-reads now.ring now.number now.fill now.page.0 _ _ (g.D.Disk.image c.write_group.new.part) (omega (arith, c.write_group.ensures.ring, c.args.self.now.ring)) page ring,
    )
