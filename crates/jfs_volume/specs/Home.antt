-- How a page goes home.
use Rattle.std.specs.Prelude.{◌⊎◌, ◌∷◌, [], ℕ, Bool, Result, Ok, Err}
use Rattle.jfs_disk.specs.declared.disk.Fault.{Fault}
use Rattle.jfs_pages.specs.declared.error.HomeError.{HomeError}
use Rattle.jfs_pages.specs.declared.error.HomeError.TheVariants.{NotYet, WriteFault}
use Rattle.jfs_halves.specs.Half.{VolumeHalf}
use Rattle.jfs_halves.specs.Parts.{Parts}
use Rattle.jfs_halves.specs.Change.{GoesHome, Tears, Stops}
use Rattle.jfs_halves.specs.Moves.{Moves}

-- the write of page n failed: it tore, or the disk found no memory to have it pending
abbrev pub FailsAt : (seen asked : Bool) → ℕ → Fault → Parts → Parts → VolumeHalf → Type 0
FailsAt seen asked n fault old new half =
    ((sectors : ℕ) × Moves seen asked old new half (Tears n sectors fault ∷ [])) ⊎ Moves seen asked old new half (Stops fault ∷ [])

abbrev pub HomeIs : (seen asked : Bool) → ℕ → Parts → Parts → VolumeHalf → Result (Unit {0}) HomeError → Type 0
HomeIs seen asked n old new half (Ok done) = Moves seen asked old new half (GoesHome n ∷ [])
HomeIs seen asked n old new half (Err (NotYet lsn told)) = Moves seen asked old new half []
HomeIs seen asked n old new half (Err (WriteFault fault)) = FailsAt seen asked n fault old new half
