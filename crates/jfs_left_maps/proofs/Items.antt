-- What a crash leaves of the items of the maps, and what redo makes of them.
use Rattle.std.proofs.Common.{◌≡◌, ◌⊎◌, ◌≤◌, ◌<◌, ◌&&◌, ◌==◌, ℕ, zero, suc, Bool, true, false, if◌then◌else◌, List, [], ◌∷◌, ◌++◌, refl, sym, ap, ◌∙◌, subst, inl, inr, arith}
use Rattle.std.proofs.lemmas.Bool.{cases_lt}
use Rattle.jfs_ranges.specs.declared.edit.Edit.{Edit}
use Rattle.jfs_ranges.specs.declared.edit.Edit.TheVariants.{Lines, NoRedo, Alloc, Free}
use Rattle.jfs_steps.specs.After.{is_extent, place_in, four_from}
use Rattle.jfs_recovery.specs.objects.specs.Readers.{Readers}
use Rattle.jfs_recovery.specs.Face.{Face, IsFace, Pages, Item, Value, item, redo_item}
use Rattle.jfs_recovery.specs.Face.Item.{ExtentPlace}
use Rattle.jfs_recovery.specs.Face.Value.{At}
use Rattle.jfs_recovery.specs.crash_core.specs.Sound.{SameCell}
use Rattle.jfs_recovery.specs.Core.{Core, count, entry, image, matters_at}
use Rattle.jfs_recovery.specs.records.specs.Redo.{all_of}
use Rattle.jfs_recovery.specs.Sound.{IsSound, window}
use Rattle.jfs_recovery.proofs.Images.{item_next, redo_item_none, redo_item_next}
use Rattle.jfs_recovery.proofs.Redo.{Facts, facts, known_cells}
use Rattle.jfs_face.specs.Places.{Places}
use Rattle.jfs_face.specs.Items.{place_of, set_item, set_by}
use Rattle.jfs_face.specs.Volume.{items_on, face_of}
use Rattle.jfs_face.proofs.Whole.{is_face}
use Rattle.jfs_left_maps.specs.Items.{ItemsLaw, IsExtent, FoursLaw}

-- ---- redo

module _ (f : Face) (laws : IsFace f) (core : Core) (sound : IsSound f core) (i : Item) (c j : ℕ) (early : c ≤ j) where
  abbrev at : ℕ → Value
  at k = item f (image core k) i

  -- the item as it was after entry j, redone by entries from c on before k
  abbrev now : ℕ → Value
  now k = redo_item f i (at j) (window core c k)

  -- Up to entry j it stays that, or is what it was after the last entry.
  first : (k : ℕ) → c ≤ k → k ≤ j → j ≤ count core → (now k ≡ at j) ⊎ (now k ≡ at k)
  first zero h l w = inl (ap (λ (d : ℕ). redo_item f i (at j) (window core d 0)) (let e : c ≡ 0 = omega (arith, h) in e) ∙ redo_item_none f core i 0 (at j))
  first (suc k) h l w = by (cases_lt k c) (λ from. first k from (omega (arith, l)) w)
    where
      more : (c ≤ k) → (now k ≡ at j) ⊎ (now k ≡ at k) → (now (suc k) ≡ at j) ⊎ (now (suc k) ≡ at (suc k))
      more from before = which (laws.sets_or_passes (entry core k) i) before
        where
          next : now (suc k) ≡ f.sets (entry core k) i (now k)
          next = redo_item_next f core i c k (at j) from (omega (arith, l, w))

          after : at (suc k) ≡ f.sets (entry core k) i (at k)
          after = item_next f laws core sound i k (omega (arith, l, w))

          which : ((x y : Value) → f.sets (entry core k) i x ≡ f.sets (entry core k) i y) ⊎ ((x : Value) → f.sets (entry core k) i x ≡ x) → (now k ≡ at j) ⊎ (now k ≡ at k) → (now (suc k) ≡ at j) ⊎ (now (suc k) ≡ at (suc k))
          which (inl sets) old = inr (next ∙ sets (now k) (at k) ∙ sym after)
          which (inr passes) (inl same) = inl (next ∙ passes (now k) ∙ same)
          which (inr passes) (inr same) = inr (next ∙ ap (f.sets (entry core k) i) same ∙ sym after)

      by : (k < c) ⊎ (c ≤ k) → (c ≤ k → (now k ≡ at j) ⊎ (now k ≡ at k)) → (now (suc k) ≡ at j) ⊎ (now (suc k) ≡ at (suc k))
      by (inl none) back = inl (ap (λ (d : ℕ). redo_item f i (at j) (window core d (suc k))) (let e : c ≡ suc k = omega (arith, none, h) in e) ∙ redo_item_none f core i (suc k) (at j))
      by (inr from) back = more from (back from)

  -- From then on it follows the entries.
  then_on : (k : ℕ) → j ≤ k → k ≤ count core → now k ≡ at k
  then_on zero h w = ends (first zero (omega (arith, early, h)) (omega arith) (omega (arith, h)))
    where
      ends : (now zero ≡ at j) ⊎ (now zero ≡ at zero) → now zero ≡ at zero
      ends (inl same) = same ∙ ap at (let e : j ≡ 0 = omega (arith, h) in e)
      ends (inr same) = same
  then_on (suc k) h w = by (cases_lt k j) (λ from. then_on k from (omega (arith, w)))
    where
      ends : j ≡ suc k → (now (suc k) ≡ at j) ⊎ (now (suc k) ≡ at (suc k)) → now (suc k) ≡ at (suc k)
      ends e (inl same) = same ∙ ap at e
      ends e (inr same) = same

      by : (k < j) ⊎ (j ≤ k) → (j ≤ k → now k ≡ at k) → now (suc k) ≡ at (suc k)
      by (inl last) back = let e : j ≡ suc k = omega (arith, last, h) in ends e (first (suc k) (omega (arith, early, h)) (omega (arith, last)) (omega (arith, e, w)))
      by (inr from) back = redo_item_next f core i c k (at j) (omega (arith, early, from)) (omega (arith, w)) ∙ ap (f.sets (entry core k) i) (back from) ∙ sym (item_next f laws core sound i k (omega (arith, w)))

-- ---- edits in a row

set_by_append : (tx more : List Edit) (i : Item) (x : Value) → set_by (tx ++ more) i x ≡ set_by more i (set_by tx i x)
set_by_append [] more i x = refl
set_by_append (e ∷ tx) more i x = set_by_append tx more i (set_item e i x)

in_row : (r : Readers) (pl : Places) (changes : Pages → List Edit → ℕ → Bool) (i : Item) (txs : List (List Edit)) (x : Value) → redo_item (face_of r pl changes) i x txs ≡ set_by (all_of txs) i x
unfolding redo_item
in_row r pl changes i [] x = refl
in_row r pl changes i (tx ∷ txs) x = in_row r pl changes i txs (set_by tx i x) ∙ sym (set_by_append tx (all_of txs) i x)

-- ---- what a crash left

pub items_law : ItemsLaw
items_law r pl changes core low c n areas sound left log i = record {
  entry = cell.0;
  there = omega (arith, cell.2, known.later, known.within);
  left = was;
  redone = sym (in_row r pl changes i (window core c n) (items_on pl low i)) ∙ ap (λ (x : Value). redo_item f i x (window core c n)) was ∙ then_on f laws core sound i c cell.0 cell.1 n (omega (arith, cell.2, known.later)) known.within;
}
  where
    f : Face
    f = face_of r pl changes

    laws : IsFace f
    laws = is_face r pl changes areas

    known : Facts core c n
    known = facts f core sound c n log

    p : ℕ
    p = f.home i

    p_matters : (k : ℕ) → c ≤ k → k ≤ core.told → matters_at f core p k ≡ true
    p_matters k a b = laws.area (image core k) p (laws.at_home i)

    cell : (k : ℕ) × (c ≤ k) × (k ≤ core.told) × SameCell (low p) (image core k p) (f.cell i)
    cell = (known_cells f core sound low left c known.early known.told p p_matters).each (f.cell i) (laws.in_page i) (inr (i, refl, refl))

    was : items_on pl low i ≡ items_on pl (image core cell.0) i
    was = laws.in_cell i (low p) (image core cell.0 p) cell.3

-- ---- inode extents

extents_after_edits : (tx : List Edit) (e : ℕ) (x : Value) → IsExtent (place_of x) → IsExtent (place_of (set_by tx (ExtentPlace e) x))
extents_after_edits [] e x is = is
extents_after_edits (Lines page kind first bytes ∷ tx) e x is = extents_after_edits tx e (if is_extent kind first bytes && place_in bytes == e then At (four_from page) else x) (by (is_extent kind first bytes && place_in bytes == e))
  where
    by : (t : Bool) → IsExtent (place_of (if t then At (four_from page) else x))
    by true = inr refl
    by false = is
extents_after_edits (NoRedo page ∷ tx) e x is = extents_after_edits tx e x is
extents_after_edits (Alloc run ∷ tx) e x is = extents_after_edits tx e x is
extents_after_edits (Free run ∷ tx) e x is = extents_after_edits tx e x is

pub fours_law : FoursLaw
fours_law r pl changes core areas sound were zero low e within = were e within
fours_law r pl changes core areas sound were (suc k) low e within =
    subst (λ (x : Value). IsExtent (place_of x)) (sym (item_next (face_of r pl changes) (is_face r pl changes areas) core sound (ExtentPlace e) k (omega (arith, low))))
    (extents_after_edits (entry core k) e (items_on pl (image core k) (ExtentPlace e)) (fours_law r pl changes core areas sound were k (omega (arith, low)) e within))
