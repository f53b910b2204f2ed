-- The files of both maps lie where they did, as long as the fixed areas stay beside the maps.
use Rattle.std.proofs.Common.{◌≡◌, ◌⊎◌, ◌<◌, ◌≤◌, ◌+◌, ◌&&◌, ◌==◌, nat_lt, nat_le, not, ℕ, suc, Bool, true, false, if◌then◌else◌, length, is_some, unwrap_or, Option, Some, None, refl, sym, ap, ◌∙◌, subst, inl, inr, arith}
use Rattle.std.proofs.lemmas.Bool.{cases_Bool, and_from, and_parts, or_cases, eqb-true, lt-ltb, ltb-true, cond-true}
use Rattle.std.proofs.lemmas.Bool.Decides.{nat_tests}
use Rattle.jfs_bits.specs.declared.descriptor.Pxd.{Pxd}
use Rattle.jfs_bits.proofs.Buds.{any_below-at}
use Rattle.jfs_steps.specs.bmap.specs.MapFile.{pages_of, is_in_use}
use Rattle.jfs_shown.specs.objects.specs.Readers.{Readers}
use Rattle.jfs_shown.specs.objects.specs.Contents.{block_of}
use Rattle.jfs_shown.specs.objects.specs.Image.{file_walk, file_extents, file_has, is_block_used, area_on, volume_on}
use Rattle.jfs_shown.specs.objects.specs.Owners.{bit, run_has, covers, unless_broken}
use Rattle.jfs_shown.specs.objects.specs.Objects.{met}
use Rattle.jfs_shown.specs.kinds.specs.Images.{IsWholeFile}
use Rattle.jfs_disk.specs.Image.{page_of}
use Rattle.jfs_shown.specs.objects.proofs.Blocks.{covered}
use Rattle.jfs_shown.specs.Laws.{map_pages}
use Rattle.jfs_shown.proofs.Places.{keeps_law, files_law}
use Rattle.jfs_mounted_places.specs.held.specs.survival.specs.face.specs.Mounted.{places_on, HasMapPages}
use Rattle.jfs_mounted_places.specs.held.specs.survival.specs.face.specs.Places.{Places, AreInAreas, is_block_page, is_inode_page, is_map_page}
use Rattle.jfs_mounted_places.specs.held.specs.survival.specs.face.specs.Recovered.{IsVolumeAt}
use Rattle.jfs_mounted_places.specs.held.specs.survival.specs.recovery.specs.Face.{Pages}
use Rattle.jfs_mounted_places.specs.held.specs.image_volumes.proofs.Next.{in_areas}
use Rattle.jfs_mounted_places.specs.held.specs.survival.specs.MapMarks.{map_marks}
use Rattle.jfs_mounted_places.specs.held.specs.survival.specs.Laws.{left_by}
use Rattle.jfs_mounted_places.specs.held.specs.survival.proofs.Crashes.{left as crash_left}
use Rattle.jfs_mounted_places.specs.held.specs.survival.specs.face.proofs.Whole.{is_face}
use Rattle.jfs_mounted_places.specs.held.specs.survival.specs.recovery.proofs.Parts.{fixed_low}
use Rattle.jfs_mounted_places.specs.held.specs.Held.{face_at}
use Rattle.jfs_mounted_places.specs.held.proofs.Played.{areas}
use Rattle.jfs_held_maps.specs.Places.{PlacesLaw, FirstLaw, FixedLaw}

found : (o : Option ℕ) (b : ℕ) → is_some o ≡ true → unwrap_or o 0 ≡ b → o ≡ Some b
found None b h e = absurd (cc (h))
found (Some a) b h e = ap Some e

-- a page of a map is one of the maps' files
map_page_is : (r : Readers) (blocks agsize numag : ℕ) (table map : Pxd) (s : Pages) → HasMapPages r blocks s → (b : ℕ) → is_map_page (places_on r blocks agsize numag table map s) b ≡ true → 0 < map_pages r s b
map_page_is r blocks agsize numag table map s has b is_map = at (or_cases (is_block_page pl b) (is_inode_page pl b) is_map)
  where
    pl : Places
    pl = places_on r blocks agsize numag table map s

    at : (is_block_page (places_on r blocks agsize numag table map s) b ≡ true) ⊎ (is_inode_page (places_on r blocks agsize numag table map s) b ≡ true) → 0 < map_pages r s b
    at (inl e) =
        let one = any_below-at (pages_of blocks) (λ k. is_in_use blocks k && pl.block_map k == b) e in
        let both = and_parts (is_in_use blocks one.0) (pl.block_map one.0 == b) one.2 in
        let c = covered (file_extents r s 2) one.0 b (found (block_of (file_extents r s 2) one.0) b (has.block_map one.0 both.0) (eqb-true (pl.block_map one.0) b both.1)) in
        omega (arith, c)
    at (inr e) =
        let one = any_below-at (suc pl.iags) (λ k. pl.inode_map k == b) e in
        let within = one.1 in
        let c = covered (file_extents r s 16) one.0 b (found (block_of (file_extents r s 16) one.0) b (has.inode_map one.0 (omega (arith, within))) (eqb-true (pl.inode_map one.0) b one.2)) in
        omega (arith, c)

no_map : (r : Readers) (blocks agsize numag : ℕ) (table map : Pxd) (s : Pages) → HasMapPages r blocks s → (b : ℕ) → map_pages r s b ≡ 0 → is_map_page (places_on r blocks agsize numag table map s) b ≡ false
no_map r blocks agsize numag table map s has b none = by (cases_Bool (is_map_page (places_on r blocks agsize numag table map s) b))
  where
    by : (is_map_page (places_on r blocks agsize numag table map s) b ≡ true) ⊎ (is_map_page (places_on r blocks agsize numag table map s) b ≡ false) → is_map_page (places_on r blocks agsize numag table map s) b ≡ false
    by (inr e) = e
    by (inl e) = let some = map_page_is r blocks agsize numag table map s has b e in absurd (omega (arith, some, none))

pub places_law : PlacesLaw
places_law r blocks agsize numag table map pl s t at fixed =
    files_law r table map s t (keeps_law r table map (volume_on r blocks table map s) t at.sound.agrees (λ b. refl) at.files (λ b other some none.
    let area : area_on r table map s b ≡ pl.area b = ap (λ (x : Places). x.area b) at.places in
    let clear : is_map_page pl b ≡ false = ap (λ (x : Places). is_map_page x b) (sym at.places) ∙ no_map r blocks agsize numag table map s at.pages b none in
    fixed b (and_from (nat_lt 0 (pl.area b)) (not (is_map_page pl b)) (lt-ltb 0 (pl.area b) (omega (arith, some, area))) (ap not clear))))

-- ---- the first pages

in_first : (b : ℕ) → b < 16 → 1 ≤ run_has (record { len = 16; addr = 0 }) b
in_first b h = within (nat_le 0 b && nat_lt b (0 + 16)) (grind (arith, nat_tests))
  where
    within : (x : Bool) → x ≡ true → 1 ≤ (if x then 1 else 0)
    within true h = omega arith
    within false h = absurd (cc (h))

at_most : (t : Bool) → bit t ≤ 1
at_most true = omega arith
at_most false = omega arith

-- a tree that breaks no rule has its pages
whole_has : (r : Readers) (page : Pages) (f b : ℕ) → IsWholeFile r page f → file_has r page f b ≡ met (file_walk r page f) b + covers b (file_extents r page f)
unfolding file_has
whole_has r page f b whole = ap (λ l. unless_broken l (met (file_walk r page f) b) + covers b (file_extents r page f)) whole.1

pub first_law : FirstLaw
unfolding area_on
first_law r blocks agsize numag table map pl s at b low =
    let area : area_on r table map s b ≡ pl.area b = ap (λ (x : Places). x.area b) at.places in
    let agreed = at.sound.agrees.blocks b in
    let one = at_most (is_block_used r s blocks b) in
    let first = in_first b low in
    let two = whole_has r s 2 b at.files.block_map in
    let sixteen = whole_has r s 16 b at.files.inode_map in
    let none : map_pages r s b ≡ 0 = omega (arith, agreed, one, first, two, sixteen) in
    let clear : is_map_page pl b ≡ false = ap (λ (x : Places). is_map_page x b) (sym at.places) ∙ no_map r blocks agsize numag table map s at.pages b none in
    and_from (nat_lt 0 (pl.area b)) (not (is_map_page pl b)) (lt-ltb 0 (pl.area b) (omega (arith, area, first))) (ap not clear)

pub fixed_law : FixedLaw
fixed_law m x low held crash p e there =
    let f = face_at m in
    let parts = and_parts (nat_lt 0 (m.places.area p)) (not (is_map_page m.places p)) e in
    let here : left_by x.core low p ≡ page_of low p = cond-true (nat_lt p (length low)) (page_of low p) (x.core.slots p).block.pages.seen (lt-ltb p (length low) there) in
    sym here ∙ fixed_low f (is_face m.readers m.places (map_marks m.places) (areas m x held)) x.core held.core_is.sound (left_by x.core low) (crash_left f x.both x.core held.core_is low crash) p (other (is_map_page m.places p) parts.1) e
  where
    other : (b : Bool) → not b ≡ true → b ≡ false
    other true h = absurd (cc (h))
    other false h = refl

-- ---- the fixed areas lie within the volume

used_bit : (t : Bool) → 0 < bit t → t ≡ true
used_bit true h = refl
used_bit false h = absurd (omega (arith, h))

pub used_within : (r : Readers) (blocks b : ℕ) (page : Pages) → is_block_used r page blocks b ≡ true → b < blocks
unfolding is_block_used
used_within r blocks b page used = ltb-true b blocks (and_parts (nat_lt b blocks) _ used).0

pub area_within : (r : Readers) (blocks agsize numag : ℕ) (table map : Pxd) (pl : Places) (s : Pages) → IsVolumeAt r blocks agsize numag table map pl s → (b : ℕ) → 0 < pl.area b → b < blocks
area_within r blocks agsize numag table map pl s at b some =
    let area : area_on r table map s b ≡ pl.area b = ap (λ (x : Places). x.area b) at.places in
    let agreed = at.sound.agrees.blocks b in
    used_within r blocks b s (used_bit (is_block_used r s blocks b) (omega (arith, area, agreed, some)))

-- so do the pages of the maps
pub map_within : (r : Readers) (blocks agsize numag : ℕ) (table map : Pxd) (pl : Places) (s : Pages) → IsVolumeAt r blocks agsize numag table map pl s → (b : ℕ) → is_map_page pl b ≡ true → b < blocks
map_within r blocks agsize numag table map pl s at b is_map = area_within r blocks agsize numag table map pl s at b (by (or_cases (is_block_page pl b) (is_inode_page pl b) is_map))
  where
    areas_are : AreInAreas pl
    areas_are = in_areas r blocks agsize numag table map pl s at

    by : (is_block_page pl b ≡ true) ⊎ (is_inode_page pl b ≡ true) → 0 < pl.area b
    by (inl e) =
        let one = any_below-at (pages_of pl.blocks) (λ k. is_in_use pl.blocks k && pl.block_map k == b) e in
        let both = and_parts (is_in_use pl.blocks one.0) (pl.block_map one.0 == b) one.2 in
        subst (λ (x : ℕ). 0 < pl.area x) (eqb-true (pl.block_map one.0) b both.1) (areas_are.block_map one.0 both.0)
    by (inr e) =
        let one = any_below-at (suc pl.iags) (λ k. pl.inode_map k == b) e in
        let within = one.1 in
        subst (λ (x : ℕ). 0 < pl.area x) (eqb-true (pl.inode_map one.0) b one.2) (areas_are.inode_map one.0 (omega (arith, within)))
