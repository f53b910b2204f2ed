-- Lists of changes: those of which nothing is asked, and the pages of the maps that go home before a sync.
use Rattle.std.specs.Prelude.{◌≡◌, ℕ, ◌==◌, ◌||◌, Bool, true, false, List, [], ◌∷◌, ◌++◌, None}
use Rattle.jfs_logged.specs.halves.specs.Half.{Halves}
use Rattle.jfs_logged.specs.halves.specs.Change.{Enters, GoesHome, Tears, Writes, WriteTears, Syncs, Points}
use Rattle.jfs_logged.specs.halves.specs.Both.{BothChange, Changes, FitAll, after}
use Rattle.jfs_face.specs.recovery.specs.Face.{Face, Pages}
use Rattle.jfs_face.specs.recovery.specs.Core.{Core, Step, after_steps}
use Rattle.jfs_face.specs.recovery.specs.objects.specs.Readers.{Readers}
use Rattle.jfs_ranges.specs.declared.edit.Edit.{Edit}
use Rattle.jfs_face.specs.Places.{Places, AreInAreas}
use Rattle.jfs_face.specs.Volume.{face_of}
use Rattle.jfs_survival.specs.Stands.{IsCoreOf}
use Rattle.jfs_survival.specs.Played.{IsMapHome, MapsAreSynced, ArePlayed}
use Rattle.jfs_survival.specs.Laws.{IsRunOf}

-- ---- commits

-- nothing is asked of it beside that it fits
abbrev pub IsPlain : BothChange → Type 0
IsPlain (Changes (Enters h)) = ⊥
IsPlain (Changes (GoesHome p)) = ⊥
IsPlain (Changes (Tears p sectors fault)) = ⊥
IsPlain (Changes (Writes p bytes)) = ⊥
IsPlain (Changes (WriteTears p bytes sectors fault)) = ⊥
IsPlain (Changes Points) = ⊥
IsPlain c = Unit {0}

abbrev pub ArePlain : List BothChange → Type 0
ArePlain [] = Unit {0}
ArePlain (c ∷ cs) = IsPlain c × ArePlain cs

-- some steps of the core are these changes, and a run of allowed ones
abbrev pub HasRun : Face → Halves → Core → List BothChange → Type 0
HasRun f both core list = (steps : List Step) × ArePlayed f both core list steps × IsRunOf f both core list steps

-- So a commit is, and so is what a group and its fault change.
abbrev pub PlainLaw : Type 0
PlainLaw = (r : Readers) (pl : Places) (changes : Pages → List Edit → ℕ → Bool) (both : Halves) (core : Core) (list : List BothChange) → AreInAreas pl
    → IsCoreOf (face_of r pl changes) both core → FitAll both list → ArePlain list → HasRun (face_of r pl changes) both core list

-- ---- pages of the maps

-- a page is among these, each with its bytes
abbrev pub is_among : ℕ → List (ℕ × List ℕ) → Bool
is_among p [] = false
is_among p (d ∷ ds) = d.0 == p || is_among p ds

-- they are written, and the low part is synced
abbrev pub maps_written : List (ℕ × List ℕ) → List BothChange
maps_written [] = Changes Syncs ∷ []
maps_written (d ∷ ds) = Changes (Writes d.0 d.1) ∷ maps_written ds

abbrev pub EachOnce : List (ℕ × List ℕ) → Type 0
EachOnce [] = Unit {0}
EachOnce (d ∷ ds) = (is_among d.0 ds ≡ false) × EachOnce ds

abbrev pub AreMapsHome : Face → Core → List (ℕ × List ℕ) → Type 0
AreMapsHome f core [] = Unit {0}
AreMapsHome f core (d ∷ ds) = IsMapHome f core d.0 d.1 × AreMapsHome f core ds

-- all pages of the maps that entries changed, each once, as they are after the acknowledged entries
pub record AllMapsHome (f : Face) (core : Core) (ds : List (ℕ × List ℕ)) : Type 0 where
  pub each : AreMapsHome f core ds
  pub once : EachOnce ds
  pub others : (p : ℕ) → f.is_map p ≡ true → is_among p ds ≡ false → (core.slots p).block.dirty ≡ None

-- So a SYNCPT may be made behind them, as far as maps are concerned.
pub record MapsSettle (f : Face) (both : Halves) (core : Core) (ds : List (ℕ × List ℕ)) : Type 0 where
  pub steps : List Step
  pub played : ArePlayed f both core (maps_written ds) steps
  pub synced : MapsAreSynced f (after_steps f core steps)

abbrev pub MapsLaw : Type 0
MapsLaw = (r : Readers) (pl : Places) (changes : Pages → List Edit → ℕ → Bool) (both : Halves) (core : Core) (ds : List (ℕ × List ℕ)) → AllMapsHome (face_of r pl changes) core ds → MapsSettle (face_of r pl changes) both core ds

-- ---- lists

-- changes, and then others, are the steps of both
abbrev pub TogetherLaw : Type 0
TogetherLaw = (r : Readers) (pl : Places) (changes : Pages → List Edit → ℕ → Bool) (both : Halves) (core : Core) (xs ys : List BothChange) (steps more : List Step) → ArePlayed (face_of r pl changes) both core xs steps
    → ArePlayed (face_of r pl changes) (after both xs) (after_steps (face_of r pl changes) core steps) ys more → ArePlayed (face_of r pl changes) both core (xs ++ ys) (steps ++ more)
