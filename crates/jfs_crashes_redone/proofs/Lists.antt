-- Entries of a history, by their edits.
use Rattle.std.proofs.Common.{◌≡◌, ℕ, zero, suc, Bool, true, false, if◌then◌else◌, List, [], ◌∷◌, ◌++◌, map, get_or, refl, sym, ap, ◌∙◌, subst, ◌⊎◌, inl, inr}
use Rattle.std.specs.List.{AllByRecursion}
use Rattle.std.proofs.lemmas.Bool.{cases_Bool}
use Rattle.jfs_ranges.specs.declared.edit.Edit.{Edit}
use Rattle.jfs_ranges.specs.Apply.{touches_tx}
use Rattle.jfs_records.specs.Records.{tx_of}
use Rattle.jfs_records.specs.Redo.{all_of}
use Rattle.jfs_log_window.specs.Events.{IsQuiet}
use Rattle.jfs_log_window.specs.Window.{committed_in}
use Rattle.jfs_held_maps.specs.mounted_places.specs.held.specs.survival.specs.halves.specs.Entry.{Happened, edits}
use Rattle.jfs_held_maps.specs.mounted_places.specs.held.specs.survival.specs.recovery.specs.Core.{Core, Done, nothing, entry}

-- ---- those without a COMMIT in the log have no edits

no_edits : (h : Happened) → IsQuiet h → h.logs ≡ false → edits h ≡ []
no_edits h quiet e = ap tx_of (quiet e)

pub all_committed : (hs : List Happened) → AllByRecursion IsQuiet hs → all_of (committed_in hs) ≡ all_of (map edits hs)
all_committed [] all = refl
all_committed (h ∷ hs) all = by (cases_Bool h.logs) (all_committed hs all.1)
  where
    by : (h.logs ≡ true) ⊎ (h.logs ≡ false) → all_of (committed_in hs) ≡ all_of (map edits hs) → all_of (if h.logs then edits h ∷ committed_in hs else committed_in hs) ≡ edits h ++ all_of (map edits hs)
    by (inl e) rest = ap (λ (b : Bool). all_of (if b then edits h ∷ committed_in hs else committed_in hs)) e ∙ ap (λ (es : List Edit). edits h ++ es) rest
    by (inr e) rest = ap (λ (b : Bool). all_of (if b then edits h ∷ committed_in hs else committed_in hs)) e ∙ rest ∙ sym (ap (λ (es : List Edit). es ++ all_of (map edits hs)) (no_edits h all.0 e))

-- ---- lines of a page

abbrev IsOff : ℕ → List Edit → Type 0
IsOff p tx = touches_tx p tx ≡ false

off_edits : (p : ℕ) (hs : List Happened) → AllByRecursion (λ h. touches_tx p (edits h) ≡ false) hs → AllByRecursion (IsOff p) (map edits hs)
off_edits p [] all = tt
off_edits p (h ∷ hs) all = (all.0, off_edits p hs all.1)

off_at : (p : ℕ) (ds : List Done) → AllByRecursion (IsOff p) (map (λ (d : Done). d.tx) ds) → (k : ℕ) → touches_tx p (get_or ds k nothing).tx ≡ false
off_at p [] all k = refl
off_at p (d ∷ ds) all zero = all.0
off_at p (d ∷ ds) all (suc k) = off_at p ds all.1 k

-- no entry of a core has any, where none of the history has
pub entry_off : (core : Core) (hs : List Happened) (p : ℕ) → map (λ (d : Done). d.tx) core.history ≡ map edits hs → AllByRecursion (λ h. touches_tx p (edits h) ≡ false) hs → (k : ℕ) → touches_tx p (entry core k) ≡ false
entry_off core hs p same all k = off_at p core.history (subst (AllByRecursion (IsOff p)) (sym same) (off_edits p hs all)) k
