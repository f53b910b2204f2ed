use Rattle.std.proofs.Common.{◌≡◌, drop}
use Rattle.jfs_bmap.specs.States.{Owned, put_state, AreReserved}
use Rattle.jfs_bmap.proofs.block_map.BlockMap.own.Given as goal

abbrev pub invariant-loop-i : goal.invariant-loop-i
invariant-loop-i l = record {
  left : put_state Owned (drop l.i l.list) l.self ≡ put_state Owned l.list l.initial.self;
  reserved : AreReserved l.self (drop l.i l.list);
}
