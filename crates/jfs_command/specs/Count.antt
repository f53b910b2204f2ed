-- Counts of faults before a run and after it.
use Rattle.std.specs.Prelude.{◌≡◌, ℕ}
use Rattle.jfs_bits.specs.Count.{Rose}

-- how often calls had failed before, and now
pub record Count : Type 0 where
  pub before : ℕ
  pub now : ℕ

-- how often the disk and the sources of scripts failed
pub record Faults : Type 0 where
  pub disk : Count
  pub scripts : Count

abbrev pub Stays : Count → Type 0
Stays count = count.now ≡ count.before

abbrev pub HasRisen : Count → Type 0
HasRisen count = Rose count.before count.now
