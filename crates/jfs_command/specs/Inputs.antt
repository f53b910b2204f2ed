-- What a command is given beside the disk and the words.
use Rattle.std.specs.Prelude.{◌≡◌, ℕ, ◌-◌, ◌^◌, min, List, length, map, sum_by}
use Rattle.jfs_bits.specs.declared.descriptor.Moment.{Moment}
use Rattle.jfs_io.specs.declared.source.Source.{Ghosts}

-- the bytes of each script, and the moment now
pub record Inputs : Type 0 where
  pub scripts : List (List ℕ)
  pub now : Moment

-- these are the bytes that the sources have left, as far as they tell
pub record AreInputs {S : Type 0} (s : Ghosts S) (sources : List S) (now : Moment) (inputs : Inputs) : Type 0 where
  pub number : length inputs.scripts ≡ length sources
  pub scripts : s.tells → inputs.scripts ≡ map s.remaining sources
  pub moment : inputs.now ≡ now

-- how often calls on the sources failed, up to the last u64 value
abbrev pub source_faults : {S : Type 0} → Ghosts S → List S → ℕ
source_faults s sources = min (sum_by s.fault_count sources) (2 ^ 64 - 1)
