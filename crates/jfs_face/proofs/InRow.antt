-- Redo of transactions is redo of all their edits in a row.
use Rattle.std.proofs.Common.{◌≡◌, ◌⊎◌, ◌<◌, ◌==◌, ◌&&◌, ◌||◌, not, ℕ, Bool, true, false, if◌then◌else◌, List, [], ◌∷◌, ◌++◌, length, get_or, set, Option, Some, None, refl, sym, ap, ◌∙◌, subst, inl, inr, arith}
use Rattle.std.proofs.Math.Path.{fun_ext}
use Rattle.std.proofs.lemmas.Bool.{cases_Bool, cond-true, cond-false, eqb-true, eq-eqb}
use Rattle.std.proofs.lemmas.List.{length-set, get_or-set_same, get_or-set_other}
use Rattle.jfs_bits.specs.Bits.{is_in_run}
use Rattle.jfs_ranges.specs.declared.edit.Edit.{Edit}
use Rattle.jfs_ranges.specs.declared.edit.Edit.TheVariants.{Lines, NoRedo, Alloc, Free}
use Rattle.jfs_recovery.specs.records.specs.Redo.{all_of}
use Rattle.jfs_steps.specs.objects.specs.Readers.{Readers}
use Rattle.jfs_steps.specs.objects.specs.Image.{extent_place}
use Rattle.jfs_steps.specs.After.{is_extent, place_in, four_from, with_run, without_run, used_after, extents_after}
use Rattle.jfs_recovery.specs.Face.{Face, Pages, Item, Value, IsRedone, redo_page, redo_item}
use Rattle.jfs_recovery.specs.Face.Item.{BlockBit, ExtentPlace}
use Rattle.jfs_recovery.specs.Face.Value.{InUse, At}
use Rattle.jfs_recovery.proofs.EditByEdit.{edit_by_edit}
use Rattle.jfs_face.specs.Places.{Places}
use Rattle.jfs_face.specs.Items.{set_item, set_by, place_of}
use Rattle.jfs_face.specs.MapPages.{IsCanonicalPage}
use Rattle.jfs_face.specs.Volume.{items_on, face_of}
use Rattle.jfs_face.specs.Redo.{pages_redone, IsRedoneInRow, RedoLaw}
use Rattle.jfs_face.proofs.Whole.{reads_edits}

-- ---- items

set_by-append : (tx more : List Edit) (i : Item) (x : Value) → set_by (tx ++ more) i x ≡ set_by more i (set_by tx i x)
set_by-append [] more i x = refl
set_by-append (e ∷ tx) more i x = set_by-append tx more i (set_item e i x)

items_in_row : (r : Readers) (pl : Places) (changes : Pages → List Edit → ℕ → Bool) (i : Item) (txs : List (List Edit)) (x : Value) → redo_item (face_of r pl changes) i x txs ≡ set_by (all_of txs) i x
unfolding redo_item
items_in_row r pl changes i [] x = refl
items_in_row r pl changes i (tx ∷ txs) x = items_in_row r pl changes i txs (set_by tx i x) ∙ sym (set_by-append tx (all_of txs) i x)

in_row : (r : Readers) (pl : Places) (changes : Pages → List Edit → ℕ → Bool) (low new : Pages) (txs : List (List Edit)) → IsRedoneInRow pl low txs new → IsRedone (face_of r pl changes) low txs new
in_row r pl changes low new txs is = record {
  pages = λ p e. is.pages p e ∙ sym (page p);
  maps = λ p e.
      subst (λ (s : Pages). IsCanonicalPage pl s (λ i. redo_item f i (items_on pl low i) txs) p (new p)) (sym (fun_ext page))
      (subst (λ (items : Item → Value). IsCanonicalPage pl (pages_redone low txs) items p (new p)) (sym (fun_ext (λ i. items_in_row r pl changes i txs (items_on pl low i)))) (is.maps p e));
}
  where
    f : Face
    f = face_of r pl changes

    page : (p : ℕ) → redo_page f p (low p) (low p) txs ≡ pages_redone low txs p
    page p = edit_by_edit f (reads_edits r pl changes) p (low p) txs

-- ---- what edits leave

by_test : (t u : Bool) → (if t then InUse true else InUse u) ≡ InUse (t || u)
by_test true u = refl
by_test false u = refl

by_free : (t u : Bool) → (if t then InUse false else InUse u) ≡ InUse (not t && u)
by_free true u = refl
by_free false u = refl

blocks_left : (tx : List Edit) (used : ℕ → Bool) (b : ℕ) → set_by tx (BlockBit b) (InUse (used b)) ≡ InUse (used_after tx used b)
blocks_left [] used b = refl
blocks_left (Lines page kind first bytes ∷ tx) used b = at (is_extent kind first bytes) (blocks_left tx (with_run (four_from page) used) b) (blocks_left tx used b)
  where
    at : (t : Bool) → set_by tx (BlockBit b) (InUse (with_run (four_from page) used b)) ≡ InUse (used_after tx (with_run (four_from page) used) b) → set_by tx (BlockBit b) (InUse (used b)) ≡ InUse (used_after tx used b) →
        set_by tx (BlockBit b) (if t && is_in_run page 4 b then InUse true else InUse (used b)) ≡ InUse (used_after tx (if t then with_run (four_from page) used else used) b)
    at true marked passed = ap (set_by tx (BlockBit b)) (by_test (is_in_run page 4 b) (used b)) ∙ marked
    at false marked passed = passed
blocks_left (NoRedo page ∷ tx) used b = blocks_left tx used b
blocks_left (Alloc run ∷ tx) used b = ap (set_by tx (BlockBit b)) (by_test (is_in_run run.addr run.len b) (used b)) ∙ blocks_left tx (with_run run used) b
blocks_left (Free run ∷ tx) used b = ap (set_by tx (BlockBit b)) (by_free (is_in_run run.addr run.len b) (used b)) ∙ blocks_left tx (without_run run used) b

one_put : (page k e : ℕ) (extents : List (Option ℕ)) (x : Value) → e < length extents → extent_place (place_of x) ≡ get_or extents e None →
    extent_place (place_of (if k == e then At (four_from page) else x)) ≡ get_or (set extents k (Some page)) e None
one_put page k e extents x low same = at (cases_Bool (k == e))
  where
    at : ((k == e) ≡ true) ⊎ ((k == e) ≡ false) → extent_place (place_of (if k == e then At (four_from page) else x)) ≡ get_or (set extents k (Some page)) e None
    at (inl h) =
        let is = eqb-true k e h in
        ap (λ (v : Value). extent_place (place_of v)) (cond-true (k == e) (At (four_from page)) x h)
        ∙ sym (ap (λ (j : ℕ). get_or (set extents j (Some page)) e None) is ∙ get_or-set_same extents e (Some page) None low)
    at (inr h) =
        ap (λ (v : Value). extent_place (place_of v)) (cond-false (k == e) (At (four_from page)) x h) ∙ same
        ∙ sym (get_or-set_other extents k e (Some page) None (λ (q : e ≡ k). let t : true ≡ false = sym (eq-eqb k e (sym q)) ∙ h in cc))

extents_left : (tx : List Edit) (extents : List (Option ℕ)) (e : ℕ) (x : Value) → e < length extents → extent_place (place_of x) ≡ get_or extents e None →
    extent_place (place_of (set_by tx (ExtentPlace e) x)) ≡ get_or (extents_after tx extents) e None
extents_left [] extents e x low same = same
extents_left (Lines page kind first bytes ∷ tx) extents e x low same =
    at (is_extent kind first bytes)
    (extents_left tx (set extents (place_in bytes) (Some page)) e (if place_in bytes == e then At (four_from page) else x) (omega (arith, low, length-set extents (place_in bytes) (Some page))) (one_put page (place_in bytes) e extents x low same))
    (extents_left tx extents e x low same)
  where
    at : (t : Bool) →
        extent_place (place_of (set_by tx (ExtentPlace e) (if place_in bytes == e then At (four_from page) else x))) ≡ get_or (extents_after tx (set extents (place_in bytes) (Some page))) e None →
        extent_place (place_of (set_by tx (ExtentPlace e) x)) ≡ get_or (extents_after tx extents) e None →
        extent_place (place_of (set_by tx (ExtentPlace e) (if t && place_in bytes == e then At (four_from page) else x))) ≡ get_or (extents_after tx (if t then set extents (place_in bytes) (Some page) else extents)) e None
    at true put passed = put
    at false put passed = passed
extents_left (NoRedo page ∷ tx) extents e x low same = extents_left tx extents e x low same
extents_left (Alloc run ∷ tx) extents e x low same = extents_left tx extents e x low same
extents_left (Free run ∷ tx) extents e x low same = extents_left tx extents e x low same

pub redo_law : RedoLaw
redo_law = record { redo = in_row; blocks = blocks_left; extents = extents_left }
