use Rattle.std.proofs.Common.{◌≡◌, drop}
use Rattle.jfs_bmap.specs.States.{Free, put_state, AreReserved}
use Rattle.jfs_bmap.proofs.block_map.BlockMap.give_back.Given as goal

abbrev pub invariant-loop-i : goal.invariant-loop-i
invariant-loop-i l = record {
  left : put_state Free (drop l.i l.list) l.self ≡ put_state Free l.list l.initial.self;
  reserved : AreReserved l.self (drop l.i l.list);
}
