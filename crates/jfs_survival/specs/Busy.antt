-- Blocks that entries freed which aren't acknowledged: busy in the core, and in the half's map.
use Rattle.std.specs.Prelude.{◌≡◌, ◌≢◌, ◌<◌, ℕ, Bool, true, List, [], ◌∷◌, length, Option, None, IsSome}
use Rattle.jfs_ranges.specs.declared.edit.Edit.{Edit}
use Rattle.jfs_logged.specs.halves.specs.Entry.{Happened, edits}
use Rattle.jfs_logged.specs.halves.specs.Half.{VolumeHalf, Halves}
use Rattle.jfs_logged.specs.halves.specs.Marks.{takes, frees}
use Rattle.jfs_logged.specs.halves.specs.Change.{MayWrite, Enters}
use Rattle.jfs_logged.specs.halves.specs.Both.{BothChange, Changes, Fits, changed}
use Rattle.jfs_map_files.specs.bmap.specs.States.{Owned, Busy, state_of}
use Rattle.jfs_face.specs.recovery.specs.kinds.specs.Owner.{Owner}
use Rattle.jfs_face.specs.recovery.specs.objects.specs.Readers.{Readers}
use Rattle.jfs_face.specs.recovery.specs.Face.{Face, Pages}
use Rattle.jfs_face.specs.recovery.specs.Core.{Core, Step, count, owner_at, IsBusy, after_steps}
use Rattle.jfs_face.specs.recovery.specs.Core.Step.{Append}
use Rattle.jfs_face.specs.Places.{Places}
use Rattle.jfs_face.specs.Volume.{face_of}
use Rattle.jfs_survival.specs.Stands.{IsCoreOf}
use Rattle.jfs_survival.specs.Played.{IsPlayed}

-- In the half's map a block with an owner is owned, and one that an entry freed which isn't acknowledged is busy for that entry, or for a later one.
pub record HasStates (f : Face) (both : Halves) (core : Core) : Type 0 where
  pub owned : (b : ℕ) → IsSome (owner_at f core b (count core)) → state_of both.volume.shown.map b ≡ Owned
  pub busy : (b : ℕ) (z : IsBusy (owner_at f core b) core.told (count core)) → (k : ℕ) × (z.freed < k) × (state_of both.volume.shown.map b ≡ Busy k)

-- What an entry makes of owners it makes of the map: a block with an owner then is owned, and one that has none any more is freed.
pub record MovesStates (half : VolumeHalf) (h : Happened) (old new : ℕ → Option Owner) : Type 0 where
  pub owned : (b : ℕ) → IsSome (new b) → state_of h.after.map b ≡ Owned
  pub gone : (b : ℕ) → IsSome (old b) → new b ≡ None → (b < length half.shown.map.states) × (frees b (edits h) ≡ true)

-- Each change keeps that, an entry where it moves states so.
pub record StatesLaw : Type 0 where
  pub enters : (r : Readers) (pl : Places) (changes : Pages → List Edit → ℕ → Bool) (both : Halves) (core : Core) (h : Happened) (t : Pages) → IsCoreOf (face_of r pl changes) both core → Fits both (Changes (Enters h))
      → MovesStates both.volume h (λ b. owner_at (face_of r pl changes) core b (count core)) (λ b. (face_of r pl changes).owner t b) → HasStates (face_of r pl changes) both core
      → HasStates (face_of r pl changes) (changed both (Changes (Enters h))) (after_steps (face_of r pl changes) core (Append (edits h) t ∷ []))
  pub others : (r : Readers) (pl : Places) (changes : Pages → List Edit → ℕ → Bool) (both : Halves) (core : Core) (c : BothChange) (steps : List Step) → IsCoreOf (face_of r pl changes) both core → Fits both c → IsPlayed (face_of r pl changes) both core c steps
      → ((h : Happened) → c ≢ Changes (Enters h)) → HasStates (face_of r pl changes) both core → HasStates (face_of r pl changes) (changed both c) (after_steps (face_of r pl changes) core steps)

-- So an entry takes no busy block, and no data is written over one.
pub record FreeLaw : Type 0 where
  pub takes_none : (r : Readers) (pl : Places) (changes : Pages → List Edit → ℕ → Bool) (both : Halves) (core : Core) (h : Happened) (b : ℕ) → HasStates (face_of r pl changes) both core → Fits both (Changes (Enters h)) → takes b (edits h) ≡ true
      → IsBusy (owner_at (face_of r pl changes) core b) core.told (count core) → ⊥
  pub writes_none : (r : Readers) (pl : Places) (changes : Pages → List Edit → ℕ → Bool) (both : Halves) (core : Core) (b : ℕ) → HasStates (face_of r pl changes) both core → MayWrite both.volume b
      → IsBusy (owner_at (face_of r pl changes) core b) core.told (count core) → ⊥
