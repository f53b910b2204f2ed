-- An entry sets an item, whatever it was, or leaves it.
use Rattle.std.proofs.Common.{◌≡◌, ◌⊎◌, ◌==◌, ◌&&◌, Bool, true, false, if◌then◌else◌, List, [], ◌∷◌, refl, sym, ◌∙◌, inl, inr}
use Rattle.std.proofs.lemmas.Bool.{cases_Bool, cond-true, cond-false}
use Rattle.jfs_bits.specs.Bits.{is_in_run}
use Rattle.jfs_ranges.specs.declared.edit.Edit.{Edit}
use Rattle.jfs_ranges.specs.declared.edit.Edit.TheVariants.{Lines, NoRedo, Alloc, Free}
use Rattle.jfs_steps.specs.After.{is_extent, place_in, four_from}
use Rattle.jfs_recovery.specs.Face.{Item, Value}
use Rattle.jfs_recovery.specs.Face.Item.{BlockBit, ExtentPlace}
use Rattle.jfs_recovery.specs.Face.Value.{InUse, At}
use Rattle.jfs_face.specs.Items.{set_item, set_by}

abbrev Sets : (Value → Value) → Type 0
Sets f = (x y : Value) → f x ≡ f y

abbrev Leaves : (Value → Value) → Type 0
Leaves f = (x : Value) → f x ≡ x

by_test : (test : Bool) (v : Value) → Sets (λ x. if test then v else x) ⊎ Leaves (λ x. if test then v else x)
by_test test v = at (cases_Bool test)
  where
    at : (test ≡ true) ⊎ (test ≡ false) → Sets (λ x. if test then v else x) ⊎ Leaves (λ x. if test then v else x)
    at (inl e) = inl (λ x y. cond-true test v x e ∙ sym (cond-true test v y e))
    at (inr e) = inr (λ x. cond-false test v x e)

edit_sets : (edit : Edit) (i : Item) → Sets (set_item edit i) ⊎ Leaves (set_item edit i)
edit_sets (Lines page kind first bytes) (BlockBit b) = by_test (is_extent kind first bytes && is_in_run page 4 b) (InUse true)
edit_sets (NoRedo page) (BlockBit b) = inr (λ x. refl)
edit_sets (Alloc run) (BlockBit b) = by_test (is_in_run run.addr run.len b) (InUse true)
edit_sets (Free run) (BlockBit b) = by_test (is_in_run run.addr run.len b) (InUse false)
edit_sets (Lines page kind first bytes) (ExtentPlace e) = by_test (is_extent kind first bytes && place_in bytes == e) (At (four_from page))
edit_sets (NoRedo page) (ExtentPlace e) = inr (λ x. refl)
edit_sets (Alloc run) (ExtentPlace e) = inr (λ x. refl)
edit_sets (Free run) (ExtentPlace e) = inr (λ x. refl)

pub sets_or_leaves : (tx : List Edit) (i : Item) → Sets (set_by tx i) ⊎ Leaves (set_by tx i)
sets_or_leaves [] i = inr (λ x. refl)
sets_or_leaves (edit ∷ edits) i = at (edit_sets edit i) (sets_or_leaves edits i)
  where
    at : Sets (set_item edit i) ⊎ Leaves (set_item edit i) → Sets (set_by edits i) ⊎ Leaves (set_by edits i) → Sets (set_by (edit ∷ edits) i) ⊎ Leaves (set_by (edit ∷ edits) i)
    at first (inl sets) = inl (λ x y. sets (set_item edit i x) (set_item edit i y))
    at (inl sets) (inr leaves) = inl (λ x y. leaves (set_item edit i x) ∙ sets x y ∙ sym (leaves (set_item edit i y)))
    at (inr first) (inr leaves) = inr (λ x. leaves (set_item edit i x) ∙ first x)
