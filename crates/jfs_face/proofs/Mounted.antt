-- The places that an image gives are where its maps stand.
use Rattle.std.proofs.Common.{◌≡◌, ◌<◌, ◌+◌, ◌*◌, ◌/◌, ◌%◌, nat_lt, ℕ, zero, suc, true, List, [], map, is_some, unwrap_or, Option, Some, None, refl, sym, ap, ◌∙◌, arith}
use Rattle.std.proofs.lemmas.Bool.{cond-true, lt-ltb}
use Rattle.std.specs.List.{range_with_len}
use Rattle.jfs_bits.specs.Descriptor.{pxd_of}
use Rattle.jfs_bits.specs.declared.descriptor.Pxd.{Pxd}
use Rattle.jfs_iag.specs.Iag.{no_run}
use Rattle.jfs_steps.specs.objects.specs.Readers.{Readers}
use Rattle.jfs_steps.specs.objects.specs.Volume.{home}
use Rattle.jfs_steps.specs.objects.specs.Objects.{object_in, objects}
use Rattle.jfs_steps.specs.objects.specs.Contents.{block_of, bytes_at}
use Rattle.jfs_steps.specs.objects.specs.Image.{file_extents, file_page, file_has, iag_page, extent_place, extent_on, extents_on, area_on, volume_on}
use Rattle.jfs_steps.specs.objects.proofs.Blocks.{covered}
use Rattle.jfs_recovery.specs.kinds.proofs.Stay.{same_owners}
use Rattle.jfs_recovery.specs.Face.Item.{ExtentPlace}
use Rattle.jfs_face.specs.Places.{AreInAreas}
use Rattle.jfs_face.specs.Items.{home as home_of, places, extent_by, no_extent}
use Rattle.jfs_face.specs.Volume.{items_on, volume_with}
use Rattle.jfs_face.specs.Mounted.{places_on, HasMapPages, MountedLaw}

there : (o : Option ℕ) → is_some o ≡ true → o ≡ Some (unwrap_or o 0)
there None h = absurd (cc (h))
there (Some b) h = refl

-- ---- areas

file_counts : (r : Readers) (page : ℕ → List ℕ) (f k : ℕ) → is_some (block_of (file_extents r page f) k) ≡ true → 0 < file_has r page f (unwrap_or (block_of (file_extents r page f) k) 0)
unfolding file_has
file_counts r page f k h =
    let es = file_extents r page f in
    let b = unwrap_or (block_of es k) 0 in
    let c = covered es k b (there (block_of es k) h) in
    omega (arith, c)

in_areas : (r : Readers) (blocks agsize numag : ℕ) (table map : Pxd) (page : ℕ → List ℕ) → HasMapPages r blocks page → AreInAreas (places_on r blocks agsize numag table map page)
unfolding area_on
in_areas r blocks agsize numag table map page has = record {
  block_map = λ k used. let c = file_counts r page 2 k (has.block_map k used) in omega (arith, c);
  inode_map = λ k low. let c = file_counts r page 16 k (has.inode_map k low) in omega (arith, c);
}

-- ---- extents

same_map : {A : Type 0} (f g : ℕ → A) (n a : ℕ) → ((e : ℕ) → e < a + n → f e ≡ g e) → map f (range_with_len a n) ≡ map g (range_with_len a n)
same_map f g zero a h = refl
same_map f g (suc n) a h = rw (h a (omega arith), same_map f g n (a + 1) (λ e l. h e (omega arith))) refl

file_page_is : (r : Readers) (page : ℕ → List ℕ) (f k : ℕ) → is_some (block_of (file_extents r page f) k) ≡ true → page (unwrap_or (block_of (file_extents r page f) k) 0) ≡ file_page r page f k
unfolding file_page
file_page_is r page f k h = ap (λ (o : Option ℕ). unwrap_or (bytes_at page o) []) (sym (there (block_of (file_extents r page f) k) h))

extent_is : (r : Readers) (blocks agsize numag : ℕ) (table map : Pxd) (page : ℕ → List ℕ) → HasMapPages r blocks page → (e : ℕ) → e < places (places_on r blocks agsize numag table map page) →
    extent_place (extent_by (items_on (places_on r blocks agsize numag table map page) page) e) ≡ extent_on r page e
extent_is r blocks agsize numag table map page has e within =
    let pl = places_on r blocks agsize numag table map page in
    let low = lt-ltb e (places pl) within in
    let at : home_of pl (ExtentPlace e) ≡ pl.inode_map (suc (e / 128)) = cond-true (nat_lt e (places pl)) (pl.inode_map (suc (e / 128))) (no_extent pl) low in
    let bytes : page (home_of pl (ExtentPlace e)) ≡ iag_page r page (e / 128) = ap page at ∙ file_page_is r page 16 (suc (e / 128)) (has.inode_map (suc (e / 128)) (omega (arith, within))) in
    ap extent_place
    (cond-true (nat_lt e (places pl)) (pxd_of (page (home_of pl (ExtentPlace e))) (3072 + 8 * (e % 128))) no_run low
    ∙ ap (λ (a : List ℕ). pxd_of a (3072 + 8 * (e % 128))) bytes)

extents_are : (r : Readers) (blocks agsize numag : ℕ) (table map : Pxd) (page : ℕ → List ℕ) → HasMapPages r blocks page → extents_on r page ≡ (volume_with (places_on r blocks agsize numag table map page) page).extents
unfolding extents_on
extents_are r blocks agsize numag table map page has =
    let pl = places_on r blocks agsize numag table map page in
    same_map (extent_on r page) (λ e. extent_place (extent_by (items_on pl page) e)) (places pl) 0 (λ e l. sym (extent_is r blocks agsize numag table map page has e (omega (arith, l))))

objects_are : (r : Readers) (blocks agsize numag : ℕ) (table map : Pxd) (page : ℕ → List ℕ) → HasMapPages r blocks page → (n : ℕ) → objects r (volume_with (places_on r blocks agsize numag table map page) page) n ≡ objects r (volume_on r blocks table map page) n
unfolding objects
objects_are r blocks agsize numag table map page has n = ap (λ (es : List (Option ℕ)). object_in r page n (home es n)) (sym (extents_are r blocks agsize numag table map page has))

pub seen_as_it_is : MountedLaw
seen_as_it_is r blocks agsize numag table map page has = record {
  areas = in_areas r blocks agsize numag table map page has;
  owners = same_owners r (volume_on r blocks table map page) (volume_with (places_on r blocks agsize numag table map page) page)
      (record { extents = sym (extents_are r blocks agsize numag table map page has); area = λ b. refl })
      (objects_are r blocks agsize numag table map page has);
}
