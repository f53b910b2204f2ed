use Rattle.std.proofs.Common.{◌≡◌, ◌≤◌, ◌*◌, length}
use Rattle.jfs_logpages.specs.Shown.{OfText, AreBodiesOf}
use Rattle.jfs_logpages.proofs.text.read_text.Given as goal

abbrev pub invariant-loop-n : goal.invariant-loop-n
invariant-loop-n g l = record {
  pages : g.D.Disk.page_count l.disk ≡ g.D.Disk.page_count l.initial.disk;
  image : g.D.Disk.tells → g.D.Disk.image l.disk ≡ g.D.Disk.image l.initial.disk;
  past : g.D.Disk.tells_crashes → g.D.Disk.past l.disk ≡ g.D.Disk.past l.initial.disk;
  faults : g.D.Disk.fault_count l.disk ≡ g.D.Disk.fault_count l.initial.disk;
  size : length l.text.items ≡ 4080 * l.n;
  within : l.end ≤ length l.text.items;
  read : OfText g.D.Disk.tells (g.D.Disk.image l.initial.disk) l.base l.ring (AreBodiesOf l.base l.ring l.first l.n l.end l.text.items);
}
