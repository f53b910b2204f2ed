use Rattle.std.proofs.Common.{◌^◌, arith}
use Rattle.jfs_logpages.proofs.Runs.{end-of, place-in, seen-better, seen-same}
use Rattle.jfs_logpages.proofs.reading.last_run.Goals as goal
use Rattle.jfs_logpages.proofs.reading.last_run.Goals.{then-is_greater, else-is_greater}

pub loop-p-preserved : goal.loop-p-preserved
loop-p-preserved c =
    let inv = c.loop-p.invariant in
    let marks = c.args.marks.now in
    elim c.if-is_greater.branch [
      | then-is_greater w ↦
          let is = c.is_greater.ensures.yes w.if-is_greater.true in
          rw (w.found-is, w.best-is) (record {
            sound = λ e. is.1;
            complete = seen-better marks c.args.half c.loop-p.p c.loop-p.best c.loop-p.found c.requires.half is.2 inv.complete;
          })
      | else-is_greater w ↦
          rw (w.found-is, w.best-is) (record {
            sound = inv.sound;
            complete = seen-same marks c.args.half c.loop-p.p c.loop-p.best c.loop-p.found c.requires.half (c.is_greater.ensures.no w.if-is_greater.false) inv.complete;
          })
    ]

pub returns-then-found-clause-found : goal.returns-then-found-clause-found
returns-then-found-clause-found c = (
  c.loop-p.invariant.sound c.if-found.true,
  λ r run. let end = end-of c.args.marks.now c.args.half (2 ^ 33) (2 ^ 33) r c.requires.small (omega arith) run in
      omega (arith, end.above, (c.loop-p.invariant.complete end.last (omega (arith, place-in c.args.marks.now end.last c.requires.some)) end.run end.next).1),
)

pub returns-else-found-clause-none : goal.returns-else-found-clause-none
returns-else-found-clause-none c = λ e q run.
    let end = end-of c.args.marks.now c.args.half (2 ^ 33) (2 ^ 33) q c.requires.small (omega arith) run in
    cc (c.if-found.false, (c.loop-p.invariant.complete end.last (omega (arith, place-in c.args.marks.now end.last c.requires.some)) end.run end.next).0)
