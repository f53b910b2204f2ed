use Rattle.std.proofs.Common.{◌≡◌, ◌<◌, ◌^◌, ◌+◌, ℕ, length, get_or}
use Rattle.jfs_logpages.specs.Shown.{OfSome, AreMarksOf}
use Rattle.jfs_logpages.proofs.text.read_marks.Given as goal

abbrev pub invariant-loop-place : goal.invariant-loop-place
invariant-loop-place g l = record {
  pages : g.D.Disk.page_count l.disk ≡ g.D.Disk.page_count l.initial.disk;
  image : g.D.Disk.tells → g.D.Disk.image l.disk ≡ g.D.Disk.image l.initial.disk;
  past : g.D.Disk.tells_crashes → g.D.Disk.past l.disk ≡ g.D.Disk.past l.initial.disk;
  size : length l.marks.items ≡ l.place;
  small : (p : ℕ) → get_or l.marks.items p 0 < 2 ^ 33;
  faults : g.D.Disk.fault_count l.disk ≡ g.D.Disk.fault_count l.initial.disk;
  marks : OfSome g.D.Disk.tells (g.D.Disk.image l.initial.disk) (l.base + 1) (λ _ image. AreMarksOf l.base l.ring l.marks.items image);
}
