-- Blocks that are written past the log.
use Rattle.std.specs.Prelude.{◌≡◌, ◌⊎◌, ◌∷◌, [], ◌++◌, ℕ, Bool, List, map, set, Result, Ok, Err}
use Rattle.jfs_disk.specs.declared.disk.Fault.{Fault}
use Rattle.jfs_marks.specs.data_steps.specs.declared.pages.DataPage.{DataPage}
use Rattle.jfs_halves.specs.Half.{VolumeHalf}
use Rattle.jfs_halves.specs.Parts.{Parts}
use Rattle.jfs_halves.specs.Change.{Change, Writes, WriteTears, Stops}
use Rattle.jfs_halves.specs.Moves.{Moves}

-- blocks are written, each with a whole page, one after the other
abbrev pub writes : List DataPage → List Change
writes pages = map (λ d. Writes d.block d.page.0) pages

-- the last change of a list where the write of a block failed: it tore, or the disk found no memory to have it pending
pub data IsWriteStop (fault : Fault) (d : DataPage) : Change → Type 0 where
  stops : IsWriteStop fault d (Stops fault)
  tears : (sectors : ℕ) → IsWriteStop fault d (WriteTears d.block d.page.0 sectors fault)

-- blocks were written, and then the write of this one failed
pub record StopsAt (seen asked : Bool) (front : List DataPage) (next : DataPage) (old new : Parts) (half : VolumeHalf) (fault : Fault) : Type 0 where
  pub last : Change
  pub is : IsWriteStop fault next last
  pub moves : Moves seen asked old new half (writes front ++ last ∷ [])

-- of these blocks, a front was written, and then the write of the next one failed
pub record StopsWriting (seen asked : Bool) (all : List DataPage) (old new : Parts) (half : VolumeHalf) (fault : Fault) : Type 0 where
  pub front : List DataPage
  pub next : DataPage
  pub rest : List DataPage
  pub split : all ≡ front ++ next ∷ rest
  pub stops : StopsAt seen asked front next old new half fault

abbrev pub WriteIs : (seen asked : Bool) → ℕ → List ℕ → Parts → Parts → VolumeHalf → Result (Unit {0}) Fault → Type 0
WriteIs seen asked n bytes old new half (Ok done) = Moves seen asked old new half (Writes n bytes ∷ [])
WriteIs seen asked n bytes old new half (Err fault) = ((sectors : ℕ) × Moves seen asked old new half (WriteTears n bytes sectors fault ∷ [])) ⊎ Moves seen asked old new half (Stops fault ∷ [])

-- Nothing else changes, also where the disk tells nothing; and the page is given from then on, or some other bytes, where the write failed.
abbrev pub IsWrittenOf : (tells : Type 0) → ℕ → List ℕ → Parts → Parts → Result (Unit {0}) Fault → Type 0
IsWrittenOf tells n bytes old new (Ok done) = (new ≡ record old { view = new.view; disk = new.disk; past = new.past }) × (tells → new.view ≡ set old.view n bytes)
IsWrittenOf tells n bytes old new (Err fault) = (new ≡ record old { view = new.view; disk = new.disk; past = new.past; faults = new.faults; halted = new.halted }) × (tells → (left : List ℕ) × (new.view ≡ set old.view n left))
