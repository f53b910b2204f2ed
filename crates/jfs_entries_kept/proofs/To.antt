-- Data that is written, and a change behind it.
use Rattle.std.proofs.Common.{◌≡◌, ◌<◌, ◌==◌, ◌++◌, ℕ, Bool, if◌then◌else◌, List, [], ◌∷◌, length, set, refl, sym, ap, ◌∙◌, subst, inl, inr, ◌⊎◌, ◌≢◌}
use Rattle.std.proofs.lemmas.Bool.{cases_eq, eq-eqb, ne_eqb}
use Rattle.std.proofs.lemmas.List.{get_or-set_same, get_or-set_other}
use Rattle.jfs_disk.specs.Image.{Image, page_of}
use Rattle.jfs_kept_volumes.specs.volume_calls.specs.halves.specs.Entry.{Happened}
use Rattle.jfs_kept_volumes.specs.volume_calls.specs.halves.specs.Half.{VolumeHalf}
use Rattle.jfs_kept_volumes.specs.volume_calls.specs.halves.specs.Change.{Change, Enters, Writes, FitAll, changed, after}
use Rattle.jfs_kept_volumes.specs.volume_calls.specs.halves.specs.Both.{Changes}
use Rattle.jfs_kept_volumes.specs.volume_calls.specs.volume.specs.Written.{writes}
use Rattle.jfs_kept_volumes.specs.volume_calls.specs.volume.specs.data_steps.specs.declared.pages.DataPage.{DataPage}
use Rattle.jfs_kept_volumes.specs.volume_calls.specs.volume.specs.data_steps.specs.objects.specs.Volume.{Volume}
use Rattle.jfs_kept_volumes.specs.joined_held.specs.held.specs.Held.{Mount, Held}
use Rattle.jfs_kept_volumes.specs.joined_held.specs.held.specs.Changes.{with_page, Made, next, after as after_all}
use Rattle.jfs_kept_volumes.specs.joined_held.specs.held_calls.specs.Calls.{made_by}
use Rattle.jfs_kept_volumes.specs.Rest.{IsAtRest}
use Rattle.jfs_kept_volumes.specs.Steps.{LeavesRest}
use Rattle.jfs_kept_volumes.proofs.Rests.{rest_law}
use Rattle.jfs_entries_kept.specs.Entries.{made_to}

-- a call that is done makes such changes
pub made_is : (v : Volume) (put : List DataPage) (h : Happened) (w : Volume) → made_by v put h w ≡ made_to v put (Enters h) w
made_is v [] h w = refl
made_is v (d ∷ ds) h w = ap (λ (rest : List Made). record { change = Changes (Writes d.block d.page.0); volume = with_page d.block d.page.0 v } ∷ rest) (made_is (with_page d.block d.page.0 v) ds h w)

pub half_to : (m : Mount) (ds : List DataPage) (c : Change) (x : Held) (v w : Volume) → (after_all m x (made_to v ds c w)).both.volume ≡ after x.both.volume (writes ds ++ c ∷ [])
half_to m [] c x v w = refl
half_to m (d ∷ ds) c x v w = half_to m ds c (next m x (Changes (Writes d.block d.page.0)) (with_page d.block d.page.0 v)) (with_page d.block d.page.0 v) w

pub volume_to : (m : Mount) (ds : List DataPage) (c : Change) (x : Held) (v w : Volume) → (after_all m x (made_to v ds c w)).volume ≡ w
volume_to m [] c x v w = refl
volume_to m (d ∷ ds) c x v w = volume_to m ds c (next m x (Changes (Writes d.block d.page.0)) (with_page d.block d.page.0 v)) (with_page d.block d.page.0 v) w

-- the log stays at rest
pub rest_to : (m : Mount) (blocks : ℕ) (ds : List DataPage) (c : Change) (x : Held) (v w : Volume) → IsAtRest blocks x.both → FitAll x.both.volume (writes ds ++ c ∷ []) → LeavesRest blocks (after x.both.volume (writes ds)) c
    → IsAtRest blocks (after_all m x (made_to v ds c w)).both
rest_to m blocks [] c x v w rest fit leaves = rest_law blocks x.both c rest fit.0 leaves
rest_to m blocks (d ∷ ds) c x v w rest fit leaves =
    rest_to m blocks ds c (next m x (Changes (Writes d.block d.page.0)) (with_page d.block d.page.0 v)) (with_page d.block d.page.0 v) w (rest_law blocks x.both (Writes d.block d.page.0) rest fit.0 tt) fit.1 leaves

-- data changes no history, and no sync counts
pub history_to : (ds : List DataPage) (half : VolumeHalf) → (after half (writes ds)).history ≡ half.history
history_to [] half = refl
history_to (d ∷ ds) half = history_to ds (changed half (Writes d.block d.page.0))

pub points_to : (ds : List DataPage) (half : VolumeHalf) → (after half (writes ds)).points ≡ half.points
points_to [] half = refl
points_to (d ∷ ds) half = points_to ds (changed half (Writes d.block d.page.0))

pub last_to : (ds : List DataPage) (c : Change) (half : VolumeHalf) → after half (writes ds ++ c ∷ []) ≡ changed (after half (writes ds)) c
last_to [] c half = refl
last_to (d ∷ ds) c half = last_to ds c (changed half (Writes d.block d.page.0))

-- a page is put into an image
pub page_set : (image : Image) (p b : ℕ) (bytes : List ℕ) → b < length image → page_of (set image p bytes) b ≡ (if p == b then bytes else page_of image b)
page_set image p b bytes l = by (cases_eq b p)
  where
    by : (b ≡ p) ⊎ (b ≢ p) → page_of (set image p bytes) b ≡ (if p == b then bytes else page_of image b)
    by (inl e) = ap (λ (k : ℕ). page_of (set image p bytes) k) e ∙ get_or-set_same image p bytes [] (subst (λ (k : ℕ). k < length image) e l) ∙ sym (ap (λ (x : Bool). if x then bytes else page_of image b) (eq-eqb p b (sym e)))
    by (inr ne) = get_or-set_other image p b bytes [] ne ∙ sym (ap (λ (x : Bool). if x then bytes else page_of image b) (ne_eqb p b (λ e. ne (sym e))))
