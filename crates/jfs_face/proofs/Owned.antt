-- Pages of maps, of fixed areas and of inodes matter.
use Rattle.std.proofs.Common.{◌≡◌, ◌⊎◌, ◌<◌, ◌≤◌, ◌+◌, ◌&&◌, ◌==◌, not, nat_lt, ℕ, zero, suc, Bool, true, false, if◌then◌else◌, List, [], ◌∷◌, get_or, Option, Some, None, refl, sym, ap, ◌∙◌, subst, inl, inr, arith}
use Rattle.std.proofs.lemmas.Bool.{cases_Bool, or_cases, ltb-true, lt-ltb, eqb-true, cond-true, cond-false}
use Rattle.std.proofs.lemmas.List.{get_or-map}
use Rattle.std.proofs.lemmas.List.FromFn.{get_or-range_with_len, length-range_with_len}
use Rattle.std.specs.List.{range_with_len}
use Rattle.jfs_bits.specs.Bits.{any_below}
use Rattle.jfs_bits.proofs.Buds.{any_below-at}
use Rattle.jfs_steps.specs.bmap.specs.MapFile.{pages_of, is_in_use}
use Rattle.jfs_steps.specs.objects.specs.Readers.{Readers}
use Rattle.jfs_steps.specs.objects.specs.Volume.{Volume, room}
use Rattle.jfs_steps.specs.objects.specs.Owners.{extent_has, extents_have}
use Rattle.jfs_steps.specs.objects.specs.Image.{extent_place}
use Rattle.jfs_recovery.specs.kinds.specs.Owner.{Owner, owner_of, owner_below, or_else, is_logged}
use Rattle.jfs_recovery.specs.kinds.specs.Owner.Owner.{Area, Inodes}
use Rattle.jfs_recovery.specs.Face.{Item, Value, Pages}
use Rattle.jfs_recovery.specs.Face.Item.{ExtentPlace}
use Rattle.jfs_face.specs.Places.{Places, is_block_page, is_inode_page, is_map_page, is_fixed_page, AreInAreas}
use Rattle.jfs_face.specs.Items.{places, place_of, extent_by}
use Rattle.jfs_face.specs.MapPages.{has_inodes}
use Rattle.jfs_face.specs.Volume.{items_on, volume_with}

split : (u v : Bool) → (u && v) ≡ true → (u ≡ true) × (v ≡ true)
split true true h = (refl, refl)
split true false h = absurd (cc (h))
split false v h = absurd (cc (h))

-- ---- areas

in_area : (r : Readers) (v : Volume) (b : ℕ) → 0 < v.area b → is_logged (owner_of r v b) ≡ true
unfolding owner_of
in_area r v b h = ap is_logged (cond-true (nat_lt 0 (v.area b)) (Some Area) (or_else (extents_have v.extents b) Inodes (owner_below (room v) r v b)) (lt-ltb 0 (v.area b) h))

pub map_matters : (r : Readers) (pl : Places) → AreInAreas pl → (s : Pages) (p : ℕ) → is_map_page pl p ≡ true → is_logged (owner_of r (volume_with pl s) p) ≡ true
map_matters r pl areas s p is_map = in_area r (volume_with pl s) p (at (or_cases (is_block_page pl p) (is_inode_page pl p) is_map))
  where
    at : (is_block_page pl p ≡ true) ⊎ (is_inode_page pl p ≡ true) → 0 < pl.area p
    at (inl e) =
        let found = any_below-at (pages_of pl.blocks) (λ k. is_in_use pl.blocks k && pl.block_map k == p) e in
        let both = split (is_in_use pl.blocks found.0) (pl.block_map found.0 == p) found.2 in
        subst (λ (x : ℕ). 0 < pl.area x) (eqb-true (pl.block_map found.0) p both.1) (areas.block_map found.0 both.0)
    at (inr e) =
        let found = any_below-at (suc pl.iags) (λ k. pl.inode_map k == p) e in
        subst (λ (x : ℕ). 0 < pl.area x) (eqb-true (pl.inode_map found.0) p found.2) (areas.inode_map found.0 (omega (arith, found.1)))

pub fixed_matters : (r : Readers) (pl : Places) (s : Pages) (p : ℕ) → is_fixed_page pl p ≡ true → is_logged (owner_of r (volume_with pl s) p) ≡ true
fixed_matters r pl s p fixed = in_area r (volume_with pl s) p (ltb-true 0 (pl.area p) (split (nat_lt 0 (pl.area p)) (not (is_map_page pl p)) fixed).0)

-- ---- inodes

in_extents : (r : Readers) (v : Volume) (b : ℕ) → 0 < extents_have v.extents b → is_logged (owner_of r v b) ≡ true
unfolding owner_of
in_extents r v b h = at (cases_Bool (nat_lt 0 (v.area b)))
  where
    rest : Option Owner
    rest = or_else (extents_have v.extents b) Inodes (owner_below (room v) r v b)

    at : (nat_lt 0 (v.area b) ≡ true) ⊎ (nat_lt 0 (v.area b) ≡ false) → is_logged (if nat_lt 0 (v.area b) then Some Area else rest) ≡ true
    at (inl e) = ap is_logged (cond-true (nat_lt 0 (v.area b)) (Some Area) rest e)
    at (inr e) =
        ap is_logged (cond-false (nat_lt 0 (v.area b)) (Some Area) rest e
        ∙ cond-true (nat_lt 0 (extents_have v.extents b)) (Some Inodes) (owner_below (room v) r v b) (lt-ltb 0 (extents_have v.extents b) h))

one_of : (es : List (Option ℕ)) (e b : ℕ) → extent_has (get_or es e None) b ≤ extents_have es b
one_of [] e b = omega arith
one_of (x ∷ es) zero b = omega arith
one_of (x ∷ es) (suc e) b = let rest = one_of es e b in omega (arith, rest)

pub inodes_matter : (r : Readers) (pl : Places) (s : Pages) (items : Item → Value) → ((i : Item) → items i ≡ items_on pl s i) → (q : ℕ) → has_inodes pl items q ≡ true → is_logged (owner_of r (volume_with pl s) q) ≡ true
inodes_matter r pl s items same q has =
    let both = split (not (is_map_page pl q)) (any_below (places pl) (λ e. nat_lt 0 (extent_has (extent_place (extent_by items e)) q))) has in
    let found = any_below-at (places pl) (λ e. nat_lt 0 (extent_has (extent_place (extent_by items e)) q)) both.1 in
    let e = found.0 in
    let size = length-range_with_len 0 (places pl) in
    let start : 0 + e ≡ e = omega arith in
    let there : get_or (volume_with pl s).extents e None ≡ extent_place (extent_by items e) =
    get_or-map (λ e. extent_place (extent_by (items_on pl s) e)) (range_with_len 0 (places pl)) e 0 None (omega (arith, size, found.1))
    ∙ ap (λ (j : ℕ). extent_place (extent_by (items_on pl s) j)) (get_or-range_with_len 0 (places pl) e 0 found.1 ∙ start)
    ∙ sym (ap (λ (v : Value). extent_place (place_of v)) (same (ExtentPlace e))) in
    let one = one_of (volume_with pl s).extents e q in
    let some = ltb-true 0 (extent_has (extent_place (extent_by items e)) q) found.2 in
    let count = ap (λ (o : Option ℕ). extent_has o q) there in
    in_extents r (volume_with pl s) q (omega (arith, one, some, count))
