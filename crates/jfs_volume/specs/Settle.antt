-- All pages go home, and are synced; and redo begins behind all entries so far.
use Rattle.std.specs.Prelude.{◌≡◌, ◌⊎◌, ◌++◌, ◌∷◌, [], ℕ, ◌+◌, ◌==◌, Bool, List, map, Result, Ok, Err}
use Rattle.jfs_disk.specs.declared.disk.Fault.{Fault}
use Rattle.jfs_halves.specs.Half.{VolumeHalf}
use Rattle.jfs_halves.specs.Parts.{Parts}
use Rattle.jfs_halves.specs.Change.{Change, GoesHome, Tears, Stops, Syncs}
use Rattle.jfs_halves.specs.Moves.{Moves}
use Rattle.jfs_volume.specs.Home.{FailsAt}

abbrev pub go_home : List ℕ → List Change
go_home pages = map GoesHome pages

-- the last change of a list where a call on the low part failed
pub data IsStop (fault : Fault) : Change → Type 0 where
  stops : IsStop fault (Stops fault)
  tears : (n sectors : ℕ) → IsStop fault (Tears n sectors fault)

-- pages went home, and then the write of one failed
pub record StopsHome (seen asked : Bool) (old new : Parts) (half : VolumeHalf) (fault : Fault) : Type 0 where
  pub pages : List ℕ
  pub last : Change
  pub is : IsStop fault last
  pub moves : Moves seen asked old new half (go_home pages ++ last ∷ [])

-- one page went home, or none is dirty
abbrev pub OneHome : (seen asked : Bool) → Parts → Parts → VolumeHalf → Result (Unit {0}) Fault → Type 0
OneHome seen asked old new half (Ok done) = ((n : ℕ) × Moves seen asked old new half (GoesHome n ∷ [])) ⊎ Moves seen asked old new half []
OneHome seen asked old new half (Err fault) = (n : ℕ) × FailsAt seen asked n fault old new half

-- pages went home, one after the other
abbrev pub AllHome : (seen asked : Bool) → Parts → Parts → VolumeHalf → Result (Unit {0}) Fault → Type 0
AllHome seen asked old new half (Ok done) = (pages : List ℕ) × Moves seen asked old new half (go_home pages)
AllHome seen asked old new half (Err fault) = StopsHome seen asked old new half fault

abbrev pub SyncIs : (seen asked : Bool) → Parts → Parts → VolumeHalf → Result (Unit {0}) Fault → Type 0
SyncIs seen asked old new half (Ok done) = Moves seen asked old new half (Syncs ∷ [])
SyncIs seen asked old new half (Err fault) = Moves seen asked old new half (Stops fault ∷ [])

-- nothing joins, is taken, acknowledged or logged
pub record KeepsCounts (old new : Parts) : Type 0 where
  pub blocks : new.blocks ≡ old.blocks
  pub appended : new.appended ≡ old.appended
  pub taken : new.taken ≡ old.taken
  pub told : new.told ≡ old.told
  pub points : new.points ≡ old.points
  pub count : new.count ≡ old.count
  pub room : new.room ≡ old.room
  pub text : new.text ≡ old.text

-- a sync count more, whose SYNCPT is taken at once: redo begins with it
abbrev pub with_point : Parts → Parts
with_point p = record p { points = p.points + 1; taken = p.appended; text = record p.text { place = p.text.place + 36; sync = p.text.place } }

-- groups have taken all entries
abbrev pub is_idle : Parts → Bool
is_idle p = p.taken == p.appended
