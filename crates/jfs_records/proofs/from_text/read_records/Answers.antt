use Rattle.jfs_logfmt.specs.Rules.{IsRecordOf}
use Rattle.jfs_records.specs.Limits.{HasPage}
use Rattle.jfs_records.proofs.FromText.{next_read, all_read, all-more}
use Rattle.jfs_records.proofs.from_text.read_records.Goals as goal

pub record_before-requires : goal.record_before-requires
record_before-requires c =
    let read = c.args.read.now in
    let next = next_read c.args.blocks read.bytes.items c.requires.0 c.loop-end.records.items c.loop-end.rest.now c.in-Some.newer.now c.in-Some.end.now c.in-Some.ensures.cases.0 (c.loop-end.invariant.0 c.requires.0 c.requires.1) in
    (next.m, next.is, next.at)

pub loop-end-preserved : goal.loop-end-preserved
loop-end-preserved c =
    let read = c.args.read.now in
    rw c.in_ok-push.ensures.items (
      λ ms are.
          let next = next_read c.args.blocks read.bytes.items ms c.loop-end.records.items c.loop-end.rest.now c.in-Some.newer.now c.in-Some.end.now c.in-Some.ensures.cases.0 (c.loop-end.invariant.0 ms are) in
          next.more c.in_ok-record.record (c.in_ok-record.ensures.is next.m next.is next.at),
      all-more HasPage c.loop-end.records.items c.in_ok-record.record c.loop-end.invariant.1 c.in_ok-record.ensures.page,
      all-more (IsRecordOf c.args.blocks) c.loop-end.records.items c.in_ok-record.record c.loop-end.invariant.2 c.in_ok-record.ensures.kept,
    )

pub returns-clause-records : goal.returns-clause-records
returns-clause-records c = λ ms are.
    let read = c.args.read.now in
    all_read c.args.blocks read.bytes.items ms c.loop-end.records.items c.loop-end.rest.now c.in_default.ensures.cases (c.loop-end.invariant.0 ms are)
