use Rattle.std.proofs.Common.{refl, sym, ◌∙◌, arith}
use Rattle.jfs_bmap.specs.States.{Owned}
use Rattle.jfs_bmap.proofs.Puts.{next-reserved, rest-left, rest-reserved, none-left, some-there}
use Rattle.jfs_bmap.proofs.block_map.BlockMap.own.Goals as goal
use Rattle.jfs_bmap.proofs.block_map.BlockMap.own.Goals.{in-Some, in_default}

pub loop-i-init : goal.loop-i-init
loop-i-init c = record { left = refl; reserved = c.requires }

pub own_run-requires : goal.own_run-requires
own_run-requires c = next-reserved c.args.list.now c.loop-i.i c.in-Some.run'.now c.loop-i.self (sym c.in-Some.ensures) c.loop-i.invariant.reserved

pub loop-i-preserved : goal.loop-i-preserved
loop-i-preserved c =
    let list = c.args.list.now in
    let i = c.loop-i.i in
    let now = c.loop-i.self in
    elim c.match-get.branch [
      | in-Some w ↦
          let here = sym w.in-Some.ensures in
          let run = w.in-Some.run'.now in
          rw (w.self-is, w.own_run.ensures) (record {
            left = rest-left Owned list i run now here ∙ c.loop-i.invariant.left;
            reserved = rest-reserved Owned list i run now here c.loop-i.invariant.reserved;
          })
      | in_default w ↦ absurd (some-there list i (omega arith) w.in_default.ensures)
    ]

pub returns : goal.returns
returns c = sym (none-left Owned c.args.list.now c.loop-i.i c.loop-i.self (omega arith)) ∙ c.loop-i.invariant.left
