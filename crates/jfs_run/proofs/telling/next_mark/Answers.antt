use Rattle.std.proofs.Common.{◌-◌, refl, inl, inr, arith}
use Rattle.std.specs.Prelude.{slice_index_or}
use Rattle.jfs_run.specs.Telling.{left_at}
use Rattle.jfs_run.proofs.Reading.{read_at, read_none, nobody, as_many_left}
use Rattle.jfs_run.proofs.telling.next_mark.Goals as goal
use Rattle.jfs_run.proofs.telling.next_mark.Goals.{then-client-eq0-via-then-client-eq0, then-client-eq0-via-else-client-eq0+then-client-marks}

-- ---- it is no client's

pub returns-then-client-eq0-clause-mark : goal.returns-then-client-eq0-clause-mark
returns-then-client-eq0-clause-mark c =
    let left = left_at c.args.next.now c.args.marks.now in
    let long = as_many_left c.args.next.now c.args.marks.now in
    elim c.then-client-eq0.branch [
      | then-client-eq0-via-then-client-eq0 w ↦ (nobody 1 c.args.client left (inl (omega (arith, w.if-client-eq0.true)))).0
      | then-client-eq0-via-else-client-eq0+then-client-marks w ↦ (nobody 1 c.args.client left (inr (omega (arith, w.if-client-marks.true, long)))).0
    ]

pub returns-then-client-eq0-clause-left : goal.returns-then-client-eq0-clause-left
returns-then-client-eq0-clause-left c =
    let left = left_at c.args.next.now c.args.marks.now in
    let long = as_many_left c.args.next.now c.args.marks.now in
    elim c.then-client-eq0.branch [
      | then-client-eq0-via-then-client-eq0 w ↦ (nobody 1 c.args.client left (inl (omega (arith, w.if-client-eq0.true)))).1
      | then-client-eq0-via-else-client-eq0+then-client-marks w ↦ (nobody 1 c.args.client left (inr (omega (arith, w.if-client-marks.true, long)))).1
    ]

-- ---- all of the client's are read

pub returns-then-place-len-clause-mark : goal.returns-then-place-len-clause-mark
returns-then-place-len-clause-mark c =
    let some = c.if-client-eq0.false in
    let there = c.if-client-marks.false in
    (read_none 1 c.args.client c.args.next.now c.args.marks.now (c.args.client - 1) (slice_index_or c.args.next.now (c.args.client - 1) 0) c.index-marks-at.result (omega (arith, some)) (omega (arith, some, there)) (omega (arith, c.requires, c.told-next)) refl c.index-marks-at.is (omega (arith, c.if-place-len.true, c.len.ensures))).0

pub returns-then-place-len-clause-left : goal.returns-then-place-len-clause-left
returns-then-place-len-clause-left c =
    let some = c.if-client-eq0.false in
    let there = c.if-client-marks.false in
    (read_none 1 c.args.client c.args.next.now c.args.marks.now (c.args.client - 1) (slice_index_or c.args.next.now (c.args.client - 1) 0) c.index-marks-at.result (omega (arith, some)) (omega (arith, some, there)) (omega (arith, c.requires, c.told-next)) refl c.index-marks-at.is (omega (arith, c.if-place-len.true, c.len.ensures))).1

-- ---- the next one is read

pub returns-clause-mark : goal.returns-clause-mark
returns-clause-mark c =
    let some = c.if-client-eq0.false in
    let there = c.if-client-marks.false in
    (read_at 1 c.args.client c.args.next.now c.args.marks.now (c.args.client - 1) (slice_index_or c.args.next.now (c.args.client - 1) 0) c.index-marks-at.result c.index.result.now (omega (arith, some)) (omega (arith, some, there)) (omega (arith, c.requires, c.told-next)) refl c.index-marks-at.is
    (omega (arith, c.if-place-len.false, c.len.ensures)) c.index.ensures).0

pub returns-clause-left : goal.returns-clause-left
returns-clause-left c =
    let some = c.if-client-eq0.false in
    let there = c.if-client-marks.false in
    (read_at 1 c.args.client c.args.next.now c.args.marks.now (c.args.client - 1) (slice_index_or c.args.next.now (c.args.client - 1) 0) c.index-marks-at.result c.index.result.now (omega (arith, some)) (omega (arith, some, there)) (omega (arith, c.requires, c.told-next)) refl c.index-marks-at.is
    (omega (arith, c.if-place-len.false, c.len.ensures)) c.index.ensures).1
