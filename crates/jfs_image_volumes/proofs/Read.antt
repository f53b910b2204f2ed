-- What the items of an image say of the volume that it is.
use Rattle.std.proofs.Common.{◌≡◌, ◌⊎◌, ◌<◌, ◌+◌, ◌*◌, ◌/◌, ◌%◌, ◌&&◌, ◌==◌, nat_lt, nat_le, ℕ, zero, suc, Bool, true, false, List, [], map, is_some, unwrap_or, Option, Some, None, refl, sym, ap, ◌∙◌, subst, inl, inr, arith}
use Rattle.std.specs.List.{range_with_len}
use Rattle.std.proofs.lemmas.Bool.{cases_Bool, cond-true, lt-ltb, ltb-true, le-leb, and_from, and_parts, or_cases, or_right, eqb-true}
use Rattle.jfs_bits.specs.Bits.{is_taken}
use Rattle.jfs_bits.specs.Descriptor.{pxd_of}
use Rattle.jfs_bits.specs.Field.{range_of}
use Rattle.jfs_bits.specs.declared.descriptor.Pxd.{Pxd}
use Rattle.jfs_bits.proofs.Buds.{any_below-at}
use Rattle.jfs_iag.specs.Iag.{no_run}
use Rattle.jfs_survival.specs.face.specs.steps.specs.bmap.specs.MapFile.{pages_of, is_in_use}
use Rattle.jfs_survival.specs.recovery.specs.objects.specs.Readers.{Readers}
use Rattle.jfs_survival.specs.recovery.specs.objects.specs.Contents.{block_of, bytes_at}
use Rattle.jfs_survival.specs.recovery.specs.objects.specs.Image.{file_extents, file_page, iag_page, is_block_used, extent_place, extent_on, extents_on}
use Rattle.jfs_survival.specs.recovery.specs.Face.Item.{BlockBit, ExtentPlace}
use Rattle.jfs_survival.specs.recovery.specs.Face.Value.{InUse}
use Rattle.jfs_survival.specs.face.specs.Places.{Places, AreInAreas, is_block_page, is_inode_page, is_map_page}
use Rattle.jfs_survival.specs.face.specs.Items.{home, places, extent_by, no_block, no_extent}
use Rattle.jfs_survival.specs.face.specs.Mounted.{places_on, HasMapPages}
use Rattle.jfs_survival.specs.face.specs.Volume.{items_on, volume_with}

-- ---- map pages are areas

map_area : (pl : Places) (b : ℕ) → AreInAreas pl → is_map_page pl b ≡ true → 0 < pl.area b
map_area pl b areas is_map = at (or_cases (is_block_page pl b) (is_inode_page pl b) is_map)
  where
    at : (is_block_page pl b ≡ true) ⊎ (is_inode_page pl b ≡ true) → 0 < pl.area b
    at (inl e) =
        let found = any_below-at (pages_of pl.blocks) (λ k. is_in_use pl.blocks k && pl.block_map k == b) e in
        let both = and_parts (is_in_use pl.blocks found.0) (pl.block_map found.0 == b) found.2 in
        subst (λ (x : ℕ). 0 < pl.area x) (eqb-true (pl.block_map found.0) b both.1) (areas.block_map found.0 both.0)
    at (inr e) =
        let found = any_below-at (suc pl.iags) (λ k. pl.inode_map k == b) e in
        let within = found.1 in
        subst (λ (x : ℕ). 0 < pl.area x) (eqb-true (pl.inode_map found.0) b found.2) (areas.inode_map found.0 (omega (arith, within)))

pub no_map_page : (pl : Places) (b : ℕ) → AreInAreas pl → pl.area b ≡ 0 → is_map_page pl b ≡ false
no_map_page pl b areas none = at (cases_Bool (is_map_page pl b))
  where
    at : (is_map_page pl b ≡ true) ⊎ (is_map_page pl b ≡ false) → is_map_page pl b ≡ false
    at (inr e) = e
    at (inl e) = let some = map_area pl b areas e in absurd (omega (arith, some, none))

-- ---- pages of files

there : (o : Option ℕ) → is_some o ≡ true → o ≡ Some (unwrap_or o 0)
there None h = absurd (cc (h))
there (Some b) h = refl

pub file_page_is : (r : Readers) (page : ℕ → List ℕ) (f k : ℕ) → is_some (block_of (file_extents r page f) k) ≡ true → page (unwrap_or (block_of (file_extents r page f) k) 0) ≡ file_page r page f k
unfolding file_page
file_page_is r page f k h = ap (λ (o : Option ℕ). unwrap_or (bytes_at page o) []) (sym (there (block_of (file_extents r page f) k) h))

pub dmap_in_use : (blocks b : ℕ) → b < blocks → is_in_use blocks (4 + b / 8192) ≡ true
dmap_in_use blocks b h =
    let k = 4 + b / 8192 in
    or_right (k == 0) (nat_le 3 k && nat_lt k (pages_of blocks)) (and_from (nat_le 3 k) (nat_lt k (pages_of blocks)) (le-leb 3 k (omega arith)) (lt-ltb k (pages_of blocks) (omega arith)))

-- ---- the blocks in use

pub used_is : (r : Readers) (blocks agsize numag : ℕ) (table map : Pxd) (page : ℕ → List ℕ) → HasMapPages r blocks page → (b : ℕ) → items_on (places_on r blocks agsize numag table map page) page (BlockBit b) ≡ InUse (is_block_used r page blocks b)
unfolding is_block_used
used_is r blocks agsize numag table map page has b = at (cases_Bool (nat_lt b blocks))
  where
    pl : Places
    pl = places_on r blocks agsize numag table map page

    said : List ℕ → Bool
    said a = is_taken (range_of a 3072 1024) (b % 8192)

    at : (nat_lt b blocks ≡ true) ⊎ (nat_lt b blocks ≡ false) → items_on (places_on r blocks agsize numag table map page) page (BlockBit b) ≡ InUse (nat_lt b blocks && is_taken (range_of (file_page r page 2 (4 + b / 8192)) 3072 1024) (b % 8192))
    at (inl e) =
        let four : suc (suc (suc (suc (b / 8192)))) ≡ 4 + b / 8192 = omega arith in
        let here : home pl (BlockBit b) ≡ pl.block_map (4 + b / 8192) = cond-true (nat_lt b blocks) (pl.block_map (suc (suc (suc (suc (b / 8192)))))) (no_block pl) e ∙ ap pl.block_map four in
        ap (λ (a : List ℕ). InUse (nat_lt b blocks && said a)) (ap page here ∙ file_page_is r page 2 (4 + b / 8192) (has.block_map (4 + b / 8192) (dmap_in_use blocks b (ltb-true b blocks e))))
    at (inr e) =
        ap (λ (x : Bool). InUse (x && said (page (home pl (BlockBit b))))) e ∙ sym (ap (λ (x : Bool). InUse (x && said (file_page r page 2 (4 + b / 8192)))) e)

-- ---- inode extents

same_map : (f g : ℕ → Option ℕ) (n a : ℕ) → ((e : ℕ) → e < a + n → f e ≡ g e) → map f (range_with_len a n) ≡ map g (range_with_len a n)
same_map f g zero a h = refl
same_map f g (suc n) a h = rw (h a (omega arith), same_map f g n (a + 1) (λ e l. h e (omega arith))) refl

extent_is : (r : Readers) (blocks agsize numag : ℕ) (table second : Pxd) (page : ℕ → List ℕ) → HasMapPages r blocks page → (e : ℕ) → e < places (places_on r blocks agsize numag table second page) →
    extent_place (extent_by (items_on (places_on r blocks agsize numag table second page) page) e) ≡ extent_on r page e
extent_is r blocks agsize numag table second page has e within =
    let pl = places_on r blocks agsize numag table second page in
    let low = lt-ltb e (places pl) within in
    let at : home pl (ExtentPlace e) ≡ pl.inode_map (suc (e / 128)) = cond-true (nat_lt e (places pl)) (pl.inode_map (suc (e / 128))) (no_extent pl) low in
    let bytes : page (home pl (ExtentPlace e)) ≡ iag_page r page (e / 128) = ap page at ∙ file_page_is r page 16 (suc (e / 128)) (has.inode_map (suc (e / 128)) (omega (arith, within))) in
    ap extent_place
    (cond-true (nat_lt e (places pl)) (pxd_of (page (home pl (ExtentPlace e))) (3072 + 8 * (e % 128))) no_run low
    ∙ ap (λ (a : List ℕ). pxd_of a (3072 + 8 * (e % 128))) bytes)

pub extents_are : (r : Readers) (blocks agsize numag : ℕ) (table second : Pxd) (page : ℕ → List ℕ) → HasMapPages r blocks page → extents_on r page ≡ (volume_with (places_on r blocks agsize numag table second page) page).extents
unfolding extents_on
extents_are r blocks agsize numag table second page has =
    let pl = places_on r blocks agsize numag table second page in
    same_map (extent_on r page) (λ e. extent_place (extent_by (items_on pl page) e)) (places pl) 0 (λ e l. sym (extent_is r blocks agsize numag table second page has e (omega (arith, l))))
