-- A disk that a view has on loan, as the view's device.
use Rattle.std.specs.Prelude.{◌⊎◌, ℕ, List, [], ◌∷◌}
use Rattle.std.proofs.Common.{inl, inr}
use Rattle.jfs_disk.specs.Crash.{DiskState}
use Rattle.jfs_disk.specs.declared.disk.Disk.{Ghosts}
use Rattle.jfs_ranges.specs.View.{Device}

-- the states of a disk on loan, and before them one that tells the loan's name (for the prover alone)
abbrev pub states_of_loan : {D : Type 0} → (d : Ghosts D) → D → ℕ → Unit {0} ⊎ d.tells_crashes → List DiskState
states_of_loan d disk loan (inl it) = (record { seen = loan ∷ []; stable = []; writes = [] } ∷ []) ∷ []
states_of_loan d disk loan (inr told) = d.past disk

abbrev pub borrowed : {D : Type 0} → (d : Ghosts D) → D → ℕ → Device (Unit {0} ⊎ d.tells_crashes)
borrowed d disk loan = record { pages = d.page_count disk; room = d.room disk; pending = []; states = states_of_loan d disk loan }
