use Rattle.std.proofs.Common.{◌≡◌, ◌<◌, ◌+◌, ◌*◌, ◌++◌, ℕ, List, length}
use Rattle.jfs_logpages.specs.Fresh.{IsOutside, HistoriesStay}
use Rattle.jfs_logpages.specs.Ring.{Further, IsGroup, IsWritten, ends_with}
use Rattle.jfs_logpages.proofs.group.write_further.Given as goal

abbrev pub invariant-loop-i : goal.invariant-loop-i
invariant-loop-i g l =
    let low = l.initial.last.number in
    record {
      number : l.last.number ≡ low + l.i;
      ring : l.last.ring ≡ l.initial.last.ring;
      fill : l.last.fill ≡ l.initial.last.fill;
      pages : g.D.Disk.page_count l.part ≡ g.D.Disk.page_count l.initial.part;
      faults : g.D.Disk.fault_count l.part ≡ g.D.Disk.fault_count l.initial.part;
      past : g.D.Disk.tells_crashes → HistoriesStay (IsOutside 2 l.initial.last.ring) (g.D.Disk.past l.initial.part) (g.D.Disk.past l.part);
      page : 0 < l.i → (text ends : List ℕ) → IsGroup l.initial.last.ring text l.group ends l.ends low (low + l.further) → length text ≡ 4080 * low + l.initial.last.fill
          → IsWritten (text ++ l.group) (ends_with (length text) ends l.ends) (low + l.i) l.last.page.0;
      written : Further g.D.Disk.tells g.D.Disk.tells_crashes l.initial.last.ring low (low + l.further) l.initial.last.fill l.group l.ends
          (g.D.Disk.image l.initial.part) (g.D.Disk.image l.part) (g.D.Disk.past l.initial.part) (g.D.Disk.past l.part) (low + l.i);
    }
