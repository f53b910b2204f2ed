use Rattle.std.proofs.Common.{arith}
use Rattle.jfs_shared.proofs.Pointed.{settled, not_committed, home_are, home_settles, not_home, nothing_left, same_end, all_told, point_ends, point_is, committed_told, home_behind, rests_behind}
use Rattle.jfs_shared.proofs.pointing.point_with.Goals as goal

pub returns-in-Err-clause-point : goal.returns-in-Err-clause-point
returns-in-Err-clause-point g c n k = not_committed g.D.Disk c.args.shared.now c.args.log.now c.requires.running.0 n k c.commit_with.new.shared c.commit_with.new.log (c.in-Err.ensures.commit n k)

pub returns-in-Err-settle-clause-point : goal.returns-in-Err-settle-clause-point
returns-in-Err-settle-clause-point g c n k =
    not_home g.D.Disk c.args.shared.now c.args.log.now c.requires.running.0 n k c.commit_with.new.shared c.commit_with.new.log (c.in-Ok.ensures.commit n k) c.settle.new.volume c.settle.ensures.parts c.in-Err-settle.fault c.in-Err-settle.ensures.cause.rose c.in-Err-settle.ensures.halts
    c.settle.ensures.settles c.settle.ensures.shown c.settle.ensures.leaves c.settle.ensures.history

pub write_point-requires-clause-empty : goal.write_point-requires-clause-empty
write_point-requires-clause-empty g c =
    let t = c.requires.together in
    nothing_left g.D.Disk c.args.shared.now c.args.log.now c.requires.running.0 t.0 t.1 c.commit_with.new.shared c.commit_with.new.log (c.in-Ok.ensures.commit t.0 t.1) c.settle.new.volume c.settle.ensures.parts

pub write_point-requires-clause-room : goal.write_point-requires-clause-room
write_point-requires-clause-room g c =
    let t = c.requires.together in
    let same = same_end g.D.Disk c.args.shared.now c.args.log.now c.requires.running.0 t.0 t.1 c.commit_with.new.shared c.commit_with.new.log (c.in-Ok.ensures.commit t.0 t.1) c.settle.new.volume c.settle.ensures.parts in
    omega (arith, same, c.requires.room)

pub write_point-requires-clause-told : goal.write_point-requires-clause-told
write_point-requires-clause-told g c =
    let t = c.requires.together in
    all_told g.D.Disk c.args.shared.now c.args.log.now c.requires.running.0 t.0 t.1 c.commit_with.new.shared c.commit_with.new.log (c.in-Ok.ensures.commit t.0 t.1) c.settle.new.volume c.settle.ensures.parts

pub write_point-requires-clause-together : goal.write_point-requires-clause-together
write_point-requires-clause-together g c =
    let t = c.requires.together in (
      settled t.0,
      home_are g.D.Disk c.args.shared.now c.args.log.now c.requires.running.0 t.0 t.1 c.commit_with.new.shared c.commit_with.new.log (c.in-Ok.ensures.commit t.0 t.1) c.settle.new.volume c.settle.ensures.parts
          c.in-Ok-settle.ensures.cause c.in-Ok-settle.ensures.halts c.settle.ensures.settles c.settle.ensures.shown c.settle.ensures.leaves c.settle.ensures.history,
      home_settles g.D.Disk c.args.shared.now c.args.log.now c.requires.running.0 t.0 t.1 c.commit_with.new.shared c.commit_with.new.log (c.in-Ok.ensures.commit t.0 t.1) c.settle.new.volume c.settle.ensures.parts
          c.in-Ok-settle.ensures.halts c.settle.ensures.settles c.settle.ensures.shown c.settle.ensures.leaves c.in-Ok-settle.ensures.settled,
    )

pub settle-requires-clause-told : goal.settle-requires-clause-told
settle-requires-clause-told g c =
    let t = c.requires.together in
    committed_told g.D.Disk t.0 c.commit_with.new.shared c.commit_with.new.log (c.in-Ok.ensures.commit t.0 t.1)

pub returns-clause-point : goal.returns-clause-point
returns-clause-point g c =
    point_is g.D.Disk c.args.shared.now c.args.log.now c.requires.running.0 c.write_point.new.shared c.write_point.new.log c.write_point.result
    (λ n k.
    point_ends g.D.Disk c.args.shared.now c.args.log.now c.requires.running.0 n k _ _ c.write_point.new.shared c.write_point.new.log c.write_point.result
    (home_are g.D.Disk c.args.shared.now c.args.log.now c.requires.running.0 n k c.commit_with.new.shared c.commit_with.new.log (c.in-Ok.ensures.commit n k) c.settle.new.volume c.settle.ensures.parts
    c.in-Ok-settle.ensures.cause c.in-Ok-settle.ensures.halts c.settle.ensures.settles c.settle.ensures.shown c.settle.ensures.leaves c.settle.ensures.history)
    (home_settles g.D.Disk c.args.shared.now c.args.log.now c.requires.running.0 n k c.commit_with.new.shared c.commit_with.new.log (c.in-Ok.ensures.commit n k) c.settle.new.volume c.settle.ensures.parts
    c.in-Ok-settle.ensures.halts c.settle.ensures.settles c.settle.ensures.shown c.settle.ensures.leaves c.in-Ok-settle.ensures.settled)
    c.write_point.ensures.point)

-- ---- behind it

pub returns-clause-home : goal.returns-clause-home
returns-clause-home g c = home_behind c.write_point.result c.settle.new.volume c.write_point.new.shared.volume c.in-Ok-settle.ensures.home c.write_point.ensures.pages

pub returns-clause-rests : goal.returns-clause-rests
returns-clause-rests g c =
    rests_behind g.D.Disk c.args.shared.now c.args.log.now c.write_point.result c.settle.new.volume c.commit_with.new.shared c.write_point.new.shared c.write_point.ensures.pages
    (λ n k. home_settles g.D.Disk c.args.shared.now c.args.log.now c.requires.running.0 n k c.commit_with.new.shared c.commit_with.new.log (c.in-Ok.ensures.commit n k) c.settle.new.volume c.settle.ensures.parts
    c.in-Ok-settle.ensures.halts c.settle.ensures.settles c.settle.ensures.shown c.settle.ensures.leaves c.in-Ok-settle.ensures.settled)
