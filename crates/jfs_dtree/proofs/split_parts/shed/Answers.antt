use Rattle.std.proofs.Common.{arith}
use Rattle.jfs_dtpage.specs.declared.head.DtForm.TheVariants.{Full}
use Rattle.jfs_dtpage.specs.Page.{entries_of}
use Rattle.jfs_dtree.proofs.Moves.{entries_count, some_count, moves_fewer, sheds_more, room_behind}
use Rattle.jfs_dtree.proofs.split_parts.shed.Goals as goal

pub move_last-requires-clause-some : goal.move_last-requires-clause-some
move_last-requires-clause-some c = let s = c.loop-bytes.invariant.2 in some_count c.loop-bytes.bytes s.pages.left_sound s.few

pub move_last-requires-clause-room : goal.move_last-requires-clause-room
move_last-requires-clause-room c =
    room_behind c.args.bytes.now c.args.right.now c.loop-bytes.bytes c.loop-bytes.right c.requires.pages c.requires.room c.loop-bytes.invariant.2 (let f = c.free_of.ensures in let t = c.loop-bytes-test.true in omega (arith, f, t))

pub loop-bytes-smaller : goal.loop-bytes-smaller
loop-bytes-smaller c =
    let a = moves_fewer (entries_of Full c.loop-bytes.bytes) (entries_of Full c.loop-bytes.right) (entries_of Full c.move_last.new.bytes) (entries_of Full c.move_last.new.right) c.move_last.ensures.moved in
    let b = entries_count Full c.loop-bytes.bytes in
    let d = entries_count Full c.move_last.new.bytes in
    omega (arith, a, b, d)

pub loop-bytes-preserved : goal.loop-bytes-preserved
loop-bytes-preserved c =
    let i = c.loop-bytes.invariant in
    let f = c.free_of.ensures in
    let t = c.loop-bytes-test.true in (
      (let a = i.0 in let b = c.move_last.auto.bytes in omega (arith, a, b)),
      (let a = i.1 in let b = c.move_last.auto.right in omega (arith, a, b)),
      sheds_more c.args.bytes.now c.args.right.now c.loop-bytes.bytes c.loop-bytes.right c.move_last.new.bytes c.move_last.new.right i.2 (omega (arith, f, t)) c.move_last.ensures.pages c.move_last.ensures.moved
          c.move_last.ensures.heads.0 c.move_last.ensures.heads.1,
    )
