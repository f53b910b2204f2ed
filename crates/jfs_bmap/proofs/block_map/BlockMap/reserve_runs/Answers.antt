use Rattle.std.proofs.Common.{length, sym, ap, ◌∙◌, arith}
use Rattle.jfs_bmap.specs.States.{Reserved, Blocks}
use Rattle.jfs_bmap.proofs.Puts.{put-length, put-none, none-apart, none-free_before}
use Rattle.jfs_bmap.proofs.Reservations.{next-some, next-free, free-within, reserving-none, reserving-front, reserving-next, reserving-all}
use Rattle.jfs_bmap.proofs.Opened.{size-is, front-is}
use Rattle.jfs_bmap.proofs.block_map.BlockMap.reserve_runs.Goals as goal
use Rattle.jfs_bmap.proofs.block_map.BlockMap.reserve_runs.Goals.{then-front-gt0+in_ok-reserve_run, else-front-gt0}

pub reserve_run-requires-clause-within : goal.reserve_run-requires-clause-within
reserve_run-requires-clause-within c = omega (arith, c.free_front-front.ensures.within c.if-front-gt0.true, size-is c.self.inside c.args.self.now c.self.view_is, c.self.invariant.0.used_blocks)

pub reserve_run-requires-clause-free : goal.reserve_run-requires-clause-free
reserve_run-requires-clause-free c = (front-is c.self.inside c.args.self.now c.self.view_is c.self.invariant.0 c.args.hint c.args.n c.free_front-front.result c.free_front-front.ensures.front).free

pub returns-in_err-reserve_run-clause-free : goal.returns-in_err-reserve_run-clause-free
returns-in_err-reserve_run-clause-free c = rw (c.in_err-reserve_run.ensures.list_stays, c.requires.empty) (none-free_before c.args.self.now)

pub returns-in_err-reserve_run-clause-once : goal.returns-in_err-reserve_run-clause-once
returns-in_err-reserve_run-clause-once c = rw (c.in_err-reserve_run.ensures.list_stays, c.requires.empty) none-apart

pub returns-in_err-reserve_run-clause-reserved : goal.returns-in_err-reserve_run-clause-reserved
returns-in_err-reserve_run-clause-reserved c = rw (c.in_err-reserve_run.ensures.unchanged, c.in_err-reserve_run.ensures.list_stays, c.requires.empty) (sym (put-none Reserved c.args.self.now))

pub loop-left-init : goal.loop-left-init
loop-left-init c =
    let m = c.args.self.now in
    let n = c.free_front-front.result in
    let front = front-is c.self.inside m c.self.view_is c.self.invariant.0 c.args.hint c.args.n n c.free_front-front.ensures.front in
    elim c.if-front-gt0.branch [
      | then-front-gt0+in_ok-reserve_run w ↦ rw (w.self-is, w.in_ok-reserve_run.ensures.reserved, w.list-is, w.in_ok-reserve_run.ensures.list, c.requires.empty) (reserving-front m c.args.hint c.args.n n w.if-front-gt0.true front c.requires.enough)
      | else-front-gt0 w ↦ rw (w.self-is, w.list-is, c.requires.empty) (reserving-none m c.args.hint c.args.n n (omega arith) front c.requires.enough)
    ]

pub overflow_cast-run : goal.overflow_cast-run
overflow_cast-run c =
    let run = c.next_run-run.result in
    let now = c.loop-left.self in
    let size = ap (λ (b : Blocks). length b.states) c.loop-left.invariant.holds.reserved ∙ put-length Reserved c.loop-left.list c.args.self.now ∙ size-is c.self.inside c.args.self.now c.self.view_is in
    let within = free-within now run.addr run.len (next-free _ c.loop-left.left run c.next_run-run.ensures) (next-some _ c.loop-left.left run c.next_run-run.ensures c.loop-left-test.true) in
    omega (arith, size, within, c.self.invariant.0.most)

pub reserve_run-requires-in-loop-left-clause-within : goal.reserve_run-requires-in-loop-left-clause-within
reserve_run-requires-in-loop-left-clause-within c =
    let run = c.next_run-run.result in
    free-within c.loop-left.self run.addr run.len (next-free _ c.loop-left.left run c.next_run-run.ensures) (next-some _ c.loop-left.left run c.next_run-run.ensures c.loop-left-test.true)

pub reserve_run-requires-in-loop-left-clause-free : goal.reserve_run-requires-in-loop-left-clause-free
reserve_run-requires-in-loop-left-clause-free c = next-free _ c.loop-left.left c.next_run-run.result c.next_run-run.ensures

pub loop-left-preserved : goal.loop-left-preserved
loop-left-preserved c = rw (c.in_ok-reserve_run-2.ensures.reserved, c.in_ok-reserve_run-2.ensures.list) (reserving-next c.args.self.now c.loop-left.self c.args.hint c.args.n c.loop-left.left c.loop-left.list c.next_run-run.result c.loop-left-test.true c.loop-left.invariant c.next_run-run.ensures)

pub returns-clause-chosen : goal.returns-clause-chosen
returns-clause-chosen c = reserving-all c.args.self.now c.loop-left.self c.args.hint c.args.n c.loop-left.left c.loop-left.list (omega arith) c.loop-left.invariant
