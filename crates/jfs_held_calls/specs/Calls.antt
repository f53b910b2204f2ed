-- A file call that is done: its data is written, and then its entry joins.
use Rattle.std.specs.Prelude.{◌≡◌, ◌⊎◌, ℕ, true, List, [], ◌∷◌, map}
use Rattle.jfs_data_steps.specs.After.{is_put, AreWholePages, with_data}
use Rattle.jfs_data_steps.specs.Laws.{PutsOwn}
use Rattle.jfs_data_steps.specs.declared.pages.DataPage.{DataPage}
use Rattle.jfs_data_steps.specs.meaning.specs.Readers.{readers}
use Rattle.jfs_data_steps.specs.steps.specs.After.{used_after}
use Rattle.jfs_data_steps.specs.steps.specs.bmap.specs.States.{Owned, state_of}
use Rattle.jfs_data_steps.specs.objects.specs.Volume.{Volume}
use Rattle.jfs_data_steps.specs.objects.specs.Owners.{IsSound}
use Rattle.jfs_held_volumes.specs.survival.specs.halves.specs.Entry.{Happened, edits}
use Rattle.jfs_held_volumes.specs.survival.specs.halves.specs.Change.{Enters, Writes}
use Rattle.jfs_held_volumes.specs.survival.specs.halves.specs.Both.{BothChange, Changes, FitAll}
use Rattle.jfs_held_volumes.specs.survival.specs.face.specs.Places.{is_fixed_page}
use Rattle.jfs_held_volumes.specs.canonical_maps.specs.Laws.{StaysWithin}
use Rattle.jfs_held_volumes.specs.image_volumes.specs.Enters.{KeepsToItsPart}
use Rattle.jfs_held_volumes.specs.image_volumes.specs.Stands.{IsVolumeAfter}
use Rattle.jfs_held_volumes.specs.Held.{Mount, Held, IsHeld}
use Rattle.jfs_held_volumes.specs.Changes.{TakesData, with_page, Made, AllMay}

-- ---- its changes

-- Blocks are written, one after the other, and then the entry joins, which leads to another volume.
abbrev pub made_by : Volume → List DataPage → Happened → Volume → List Made
made_by v [] h w = record { change = Changes (Enters h); volume = w } ∷ []
made_by v (d ∷ ds) h w = record { change = Changes (Writes d.block d.page.0); volume = with_page d.block d.page.0 v } ∷ made_by (with_page d.block d.page.0 v) ds h w

abbrev pub changes_of : List Made → List BothChange
changes_of ds = map (λ d. d.change) ds

-- ---- what it has to keep

-- Whole pages go where data may be written. The transaction logs what matters from the volume with this data to the next one, which is sound; it stays within the volume, and within its part of the disk. The pages of the fixed areas beside the maps stay, and what is in use then has an owner in the entry's block map.
pub record IsCall (m : Mount) (x : Held) (put : List DataPage) (h : Happened) (w : Volume) : Type 0 where
  pub takes : (b : ℕ) → is_put b put ≡ true → TakesData m.readers x.volume b
  pub whole : AreWholePages put
  pub after : IsVolumeAfter m.readers (with_data put x.volume) w (edits h)
  pub sound : IsSound m.readers w
  pub used : (b : ℕ) → w.used b ≡ used_after (edits h) x.volume.used b
  pub within : StaysWithin m.places (edits h)
  pub fixed : (p : ℕ) → is_fixed_page m.places p ≡ true → w.page p ≡ x.volume.page p
  pub keeps : KeepsToItsPart m.places x.both h
  pub owned : (b : ℕ) → w.used b ≡ true → state_of h.after.map b ≡ Owned

abbrev pub CallLaw : Type 0
CallLaw = (m : Mount) (x : Held) (put : List DataPage) (h : Happened) (w : Volume) → IsHeld m x → FitAll x.both (changes_of (made_by x.volume put h w)) → IsCall m x put h w → AllMay m x (made_by x.volume put h w)

-- So data goes that is put as file calls put theirs.
abbrev pub OwnLaw : Type 0
OwnLaw = (blocks : ℕ) (v : Volume) (put : List DataPage) → (put ≡ []) ⊎ PutsOwn blocks v put → (b : ℕ) → is_put b put ≡ true → TakesData (readers blocks) v b
