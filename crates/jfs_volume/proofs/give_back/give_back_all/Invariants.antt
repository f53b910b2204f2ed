use Rattle.std.proofs.Common.{◌≡◌, drop}
use Rattle.jfs_bmap.specs.States.{Free, AreReserved, put_state}
use Rattle.jfs_volume.specs.Runs.{taken_in}
use Rattle.jfs_volume.proofs.give_back.give_back_all.Given as goal

abbrev pub invariant-loop-edit : goal.invariant-loop-edit
invariant-loop-edit l = record {
  left : put_state Free (taken_in (drop l.edit-index l.edits)) l.blocks ≡ put_state Free (taken_in l.edits) l.fn.blocks;
  reserved : AreReserved l.blocks (taken_in (drop l.edit-index l.edits));
}
