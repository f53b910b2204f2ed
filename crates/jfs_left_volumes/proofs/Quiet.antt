-- Entries without a COMMIT in the log don't matter to redo: they change nothing.
use Rattle.std.proofs.Common.{◌≡◌, ◌⊎◌, inl, inr, ℕ, zero, suc, Bool, true, false, List, [], ◌∷◌, map, take, drop, if◌then◌else◌, refl, sym, ap, subst, ◌∙◌}
use Rattle.std.specs.List.{AllByRecursion}
use Rattle.std.proofs.lemmas.Bool.{cases_Bool}
use Rattle.jfs_ranges.specs.declared.edit.Edit.{Edit}
use Rattle.jfs_records.specs.Records.{tx_of}
use Rattle.jfs_halves.specs.Entry.{Happened, edits}
use Rattle.jfs_recovery.specs.objects.specs.Readers.{Readers}
use Rattle.jfs_recovery.specs.Lines.{rest_of}
use Rattle.jfs_recovery.specs.Face.{Face, Pages, Item, Value, item, redo_page, redo_item, IsClosed, IsRedone}
use Rattle.jfs_face.specs.Places.{Places}
use Rattle.jfs_face.specs.Volume.{face_of}
use Rattle.jfs_log_window.specs.Events.{IsQuiet}
use Rattle.jfs_log_window.specs.Window.{committed_in}

pub quiet-take : (n : ℕ) (hs : List Happened) → AllByRecursion IsQuiet hs → AllByRecursion IsQuiet (take n hs)
quiet-take zero hs all = tt
quiet-take (suc n) [] all = tt
quiet-take (suc n) (h ∷ hs) all = (all.0, quiet-take n hs all.1)

pub quiet-drop : (n : ℕ) (hs : List Happened) → AllByRecursion IsQuiet hs → AllByRecursion IsQuiet (drop n hs)
quiet-drop zero hs all = all
quiet-drop (suc n) [] all = all
quiet-drop (suc n) (h ∷ hs) all = quiet-drop n hs all.1

with_it : (h : Happened) (hs : List Happened) → h.logs ≡ true → committed_in (h ∷ hs) ≡ edits h ∷ committed_in hs
with_it h hs e = ap (λ (b : Bool). if b then edits h ∷ committed_in hs else committed_in hs) e

without : (h : Happened) (hs : List Happened) → h.logs ≡ false → committed_in (h ∷ hs) ≡ committed_in hs
without h hs e = ap (λ (b : Bool). if b then edits h ∷ committed_in hs else committed_in hs) e

no_edits : (h : Happened) → IsQuiet h → h.logs ≡ false → edits h ≡ []
no_edits h quiet e = ap tx_of (quiet e)

module _ (r : Readers) (pl : Places) (changes : Pages → List Edit → ℕ → Bool) where
  abbrev f : Face
  f = face_of r pl changes

  page_of_nothing : (q : ℕ) (left now : List ℕ) → f.redoes [] q (if f.closes [] q then left else now) ≡ now
  unfolding rest_of
  page_of_nothing q left now = refl

  pages_same : (q : ℕ) (left now : List ℕ) (hs : List Happened) → AllByRecursion IsQuiet hs → redo_page f q left now (committed_in hs) ≡ redo_page f q left now (map edits hs)
  unfolding redo_page rest_of
  pages_same q left now [] all = refl
  pages_same q left now (h ∷ hs) all = by (cases_Bool h.logs) (λ next. pages_same q left next hs all.1)
    where
      by : (h.logs ≡ true) ⊎ (h.logs ≡ false) → ((next : List ℕ) → redo_page f q left next (committed_in hs) ≡ redo_page f q left next (map edits hs)) → redo_page f q left now (committed_in (h ∷ hs)) ≡ redo_page f q left now (map edits (h ∷ hs))
      by (inl e) later = ap (redo_page f q left now) (with_it h hs e) ∙ later (f.redoes (edits h) q (if f.closes (edits h) q then left else now))
      by (inr e) later = ap (redo_page f q left now) (without h hs e) ∙ later now ∙ sym (ap (λ (tx : List Edit). redo_page f q left (f.redoes tx q (if f.closes tx q then left else now)) (map edits hs)) (no_edits h all.0 e))

  items_same : (i : Item) (now : Value) (hs : List Happened) → AllByRecursion IsQuiet hs → redo_item f i now (committed_in hs) ≡ redo_item f i now (map edits hs)
  unfolding redo_item
  items_same i now [] all = refl
  items_same i now (h ∷ hs) all = by (cases_Bool h.logs) (λ next. items_same i next hs all.1)
    where
      by : (h.logs ≡ true) ⊎ (h.logs ≡ false) → ((next : Value) → redo_item f i next (committed_in hs) ≡ redo_item f i next (map edits hs)) → redo_item f i now (committed_in (h ∷ hs)) ≡ redo_item f i now (map edits (h ∷ hs))
      by (inl e) later = ap (redo_item f i now) (with_it h hs e) ∙ later (f.sets (edits h) i now)
      by (inr e) later = ap (redo_item f i now) (without h hs e) ∙ later now ∙ sym (ap (λ (tx : List Edit). redo_item f i (f.sets tx i now) (map edits hs)) (no_edits h all.0 e))

  pub redone_same : (left : Pages) (hs : List Happened) (t : Pages) → AllByRecursion IsQuiet hs → IsRedone f left (committed_in hs) t → IsRedone f left (map edits hs) t
  redone_same left hs t all redone =
      subst {A = Pages × (Item → Value)} (λ z. IsClosed f z.0 z.1 t) (λ j. ((λ q. pages_same q (left q) (left q) hs all j), (λ i. items_same i (item f left i) hs all j))) redone
