-- An entry of a volume as a change of its halves.
use Rattle.std.specs.Prelude.{◌≡◌, ◌≤◌, ℕ, true, false, [], ◌∷◌, length}
use Rattle.jfs_ranges.specs.Apply.{touches_tx}
use Rattle.jfs_logged.specs.halves.specs.Entry.{Happened, edits}
use Rattle.jfs_logged.specs.halves.specs.Half.{Halves}
use Rattle.jfs_logged.specs.halves.specs.Marks.{takes}
use Rattle.jfs_logged.specs.halves.specs.Change.{Enters}
use Rattle.jfs_logged.specs.halves.specs.Both.{Changes, Fits}
use Rattle.jfs_face.specs.recovery.specs.records.specs.Redo.{closes_in}
use Rattle.jfs_face.specs.recovery.specs.objects.specs.Readers.{Readers}
use Rattle.jfs_face.specs.recovery.specs.objects.specs.Volume.{Volume}
use Rattle.jfs_face.specs.recovery.specs.objects.specs.Owners.{Agrees}
use Rattle.jfs_face.specs.recovery.specs.Face.{Pages, IsStep}
use Rattle.jfs_face.specs.recovery.specs.Core.{Core, count, image}
use Rattle.jfs_face.specs.recovery.specs.Core.Step.{Append}
use Rattle.jfs_face.specs.Places.{Places, AreInAreas, is_map_page, is_fixed_page}
use Rattle.jfs_face.specs.Volume.{face_of}
use Rattle.jfs_logged.specs.Logged.{LogsWell}
use Rattle.jfs_survival.specs.Stands.{IsCoreOf}
use Rattle.jfs_survival.specs.Played.{IsPlayed}
use Rattle.jfs_survival.specs.Busy.{HasStates}
use Rattle.jfs_survival.specs.Entry.{IsSeenBy}
use Rattle.jfs_survival.specs.MapMarks.{map_marks}

-- The volume before it and the one after it have the owners of their images, and their maps agree. Its transaction logs what matters, tells nothing past the volume's part of the disk and no page of a map, and leaves the fixed areas.
pub record IsLoggedEntry (r : Readers) (pl : Places) (both : Halves) (core : Core) (h : Happened) (t : Pages) (v w : Volume) : Type 0 where
  pub follows : IsStep (face_of r pl (map_marks pl)) (image core (count core)) (edits h) t
  pub before : IsSeenBy r pl (image core (count core)) v
  pub after : IsSeenBy r pl t w
  pub agrees : Agrees r v
  pub agrees_then : Agrees r w
  pub logs : LogsWell r v w (edits h)
  pub takes_them : (b : ℕ) → v.used b ≡ false → w.used b ≡ true → takes b (edits h) ≡ true
  pub fixed : (p : ℕ) → is_fixed_page pl p ≡ true → (v.page p ≡ image core (count core) p) × (w.page p ≡ v.page p)
  pub no_maps : (p : ℕ) → is_map_page pl p ≡ true → touches_tx p (edits h) ≡ false
  pub within : (p : ℕ) → length both.volume.blocks ≤ p → (touches_tx p (edits h) ≡ false) × (closes_in p (edits h) ≡ false) × (is_map_page pl p ≡ false)

-- So it is an append that the core allows, where pages of the maps are dirty as their files are marked.
abbrev pub EntersLaw : Type 0
EntersLaw = (r : Readers) (pl : Places) (both : Halves) (core : Core) (h : Happened) (t : Pages) (v w : Volume) → AreInAreas pl → IsCoreOf (face_of r pl (map_marks pl)) both core → HasStates (face_of r pl (map_marks pl)) both core
    → Fits both (Changes (Enters h)) → IsLoggedEntry r pl both core h t v w → IsPlayed (face_of r pl (map_marks pl)) both core (Changes (Enters h)) (Append (edits h) t ∷ [])
