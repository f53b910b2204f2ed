-- The records of a log's text that was read.
use Rattle.std.specs.Prelude.{◌≡◌, ℕ, List, map, reverse}
use Rattle.jfs_logpages.specs.Back.{Met, AreMet}
use Rattle.jfs_logpages.specs.declared.ring_text.RingText.{RingText}

-- these records stand one behind the other up to the end of the text, on a volume of so many blocks, and end where the reading says
pub record AreRecords (blocks : ℕ) (read : RingText) (ms : List Met) : Type 0 where
  pub from : ℕ
  pub met : AreMet blocks read.bytes.items from ms
  pub ends : map (λ m. m.end) ms ≡ reverse read.ends.items
