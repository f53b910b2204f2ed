use Rattle.std.proofs.Common.{◌≡◌}
use Rattle.jfs_bmap.specs.MapFile.{IsDmapPage}
use Rattle.jfs_format.specs.Layout.{is_taken_block}
use Rattle.jfs_format.specs.Volume.{HasPages}
use Rattle.jfs_format.specs.Wrote.{WroteWithin}
use Rattle.jfs_format.specs.Leaves.{AreLeaves}
use Rattle.jfs_format.proofs.block_map.write_dmaps.Given as goal

abbrev pub invariant-loop-k : goal.invariant-loop-k
invariant-loop-k g l = record {
  leaves : AreLeaves (is_taken_block l.l) l.k l.leaves;
  faults : g.D.Disk.fault_count l.disk ≡ g.D.Disk.fault_count l.initial.disk;
  wrote : WroteWithin g.D.Disk 20 l.l.dmaps l.initial.disk l.disk;
  dmaps : g.D.Disk.tells → HasPages 20 l.k (IsDmapPage l.l.blocks (is_taken_block l.l)) (g.D.Disk.image l.disk);
}
