use Rattle.std.proofs.Common.{◌≡◌, ◌<◌, ◌+◌, ◌-◌, ℕ, List}
use Rattle.jfs_disk.specs.Image.{Image, page_of, ArePages}
use Rattle.jfs_logfmt.specs.Written.{text_of}
use Rattle.jfs_logpages.specs.Fresh.{first_record, IsOutside, OthersStay, HistoriesStay, IsBegun}
use Rattle.jfs_logpages.specs.Ring.{IsWritten, fresh_text, fresh_ends}
use Rattle.jfs_logpages.proofs.Filled.{IsBlank}
use Rattle.jfs_logpages.proofs.fresh.write_ring.Given as goal

abbrev pub invariant-loop-q : goal.invariant-loop-q
invariant-loop-q g l = record {
  blank : IsBlank l.page.0;
  pages : g.D.Disk.page_count l.disk ≡ g.D.Disk.page_count l.initial.disk;
  faults : g.D.Disk.fault_count l.disk ≡ g.D.Disk.fault_count l.initial.disk;
  written : g.D.Disk.tells → (k : ℕ) → k < l.q → IsWritten (fresh_text l.ring (text_of first_record)) (fresh_ends l.ring) k (page_of (g.D.Disk.image l.disk) (l.base + 2 + k));
  others : g.D.Disk.tells → OthersStay (l.base + 2) l.ring (g.D.Disk.image l.initial.disk) (g.D.Disk.image l.disk);
  past : g.D.Disk.tells_crashes → HistoriesStay (IsOutside (l.base + 2) l.ring) (g.D.Disk.past l.initial.disk) (g.D.Disk.past l.disk);
  begun : g.D.Disk.tells → g.D.Disk.tells_crashes → (pages : ℕ) (uuid : List ℕ) (old : Image) (t : ℕ) → pages - 2 ≡ l.ring → ArePages (g.D.Disk.page_count l.initial.disk) old
      → IsBegun l.base pages uuid old t 0 (g.D.Disk.past l.initial.disk) → IsBegun l.base pages uuid old t l.q (g.D.Disk.past l.disk);
}
