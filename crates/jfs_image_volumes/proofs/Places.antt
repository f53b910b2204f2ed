-- An entry leaves the maps where they are.
use Rattle.std.proofs.Common.{◌≡◌, ◌⊎◌, ◌<◌, ◌&&◌, ◌==◌, nat_lt, not, ℕ, suc, Bool, true, false, List, is_some, unwrap_or, Option, Some, None, refl, sym, ap, ◌∙◌, subst, inl, inr, arith}
use Rattle.std.proofs.Math.Path.{fun_ext}
use Rattle.std.proofs.lemmas.Bool.{cases_Bool, and_from, and_parts, or_cases, eqb-true, lt-ltb}
use Rattle.jfs_bits.specs.Field.{field_of}
use Rattle.jfs_bits.specs.declared.descriptor.Pxd.{Pxd}
use Rattle.jfs_bits.specs.declared.extent.Xad.{Xad}
use Rattle.jfs_bits.proofs.Buds.{any_below-at}
use Rattle.jfs_ranges.specs.declared.edit.Edit.{Edit}
use Rattle.jfs_survival.specs.face.specs.steps.specs.bmap.specs.MapFile.{pages_of, is_in_use}
use Rattle.jfs_survival.specs.recovery.specs.objects.specs.Readers.{Readers}
use Rattle.jfs_survival.specs.recovery.specs.objects.specs.Contents.{block_of}
use Rattle.jfs_survival.specs.recovery.specs.objects.specs.Image.{file_extents, iags_on, area_on, volume_on}
use Rattle.jfs_survival.specs.recovery.specs.objects.proofs.Blocks.{covered}
use Rattle.jfs_survival.specs.recovery.specs.Face.{Pages, IsStep}
use Rattle.jfs_shown.specs.Laws.{SamePlaces, map_pages}
use Rattle.jfs_shown.proofs.Places.{keeps_law, files_law}
use Rattle.jfs_survival.specs.face.specs.Places.{Places, is_block_page, is_inode_page, is_map_page}
use Rattle.jfs_survival.specs.face.specs.Mounted.{places_on, HasMapPages}
use Rattle.jfs_survival.specs.face.specs.Recovered.{IsVolumeAt}
use Rattle.jfs_survival.specs.face.specs.Volume.{face_of}
use Rattle.jfs_survival.specs.face.proofs.Reading.{inode_page}
use Rattle.jfs_image_volumes.specs.Stands.{FixedStay, MapsStandAt, PlacesLaw}
use Rattle.jfs_image_volumes.proofs.Read.{file_page_is}

found : (o : Option ℕ) (b : ℕ) → is_some o ≡ true → unwrap_or o 0 ≡ b → o ≡ Some b
found None b h e = absurd (cc (h))
found (Some a) b h e = ap Some e

-- a page of a map is one of the maps' files
map_page_is : (r : Readers) (blocks agsize numag : ℕ) (table map : Pxd) (s : Pages) → HasMapPages r blocks s → (b : ℕ) → is_map_page (places_on r blocks agsize numag table map s) b ≡ true → 0 < map_pages r s b
map_page_is r blocks agsize numag table map s has b is_map = at (or_cases (is_block_page pl b) (is_inode_page pl b) is_map)
  where
    pl : Places
    pl = places_on r blocks agsize numag table map s

    at : (is_block_page (places_on r blocks agsize numag table map s) b ≡ true) ⊎ (is_inode_page (places_on r blocks agsize numag table map s) b ≡ true) → 0 < map_pages r s b
    at (inl e) =
        let one = any_below-at (pages_of blocks) (λ k. is_in_use blocks k && pl.block_map k == b) e in
        let k = one.0 in
        let both = and_parts (is_in_use blocks k) (pl.block_map k == b) one.2 in
        let c = covered (file_extents r s 2) k b (found (block_of (file_extents r s 2) k) b (has.block_map k both.0) (eqb-true (pl.block_map k) b both.1)) in
        omega (arith, c)
    at (inr e) =
        let one = any_below-at (suc pl.iags) (λ k. pl.inode_map k == b) e in
        let k = one.0 in
        let within = one.1 in
        let c = covered (file_extents r s 16) k b (found (block_of (file_extents r s 16) k) b (has.inode_map k (omega (arith, within))) (eqb-true (pl.inode_map k) b one.2)) in
        omega (arith, c)

-- the places by the extents of both files
abbrev by_extents : (blocks agsize numag iags : ℕ) (two sixteen : List Xad) (area : ℕ → ℕ) → Places
by_extents blocks agsize numag iags two sixteen area = record {
  blocks = blocks;
  agsize = agsize;
  iags = iags;
  numag = numag;
  block_map = λ k. unwrap_or (block_of two k) 0;
  inode_map = λ k. unwrap_or (block_of sixteen k) 0;
  area = area;
}

-- what stands in the control page of the inode map
number_said : (r : Readers) (pl : Places) (changes : Pages → List Edit → ℕ → Bool) (s t : Pages) (tx : List Edit) → IsStep (face_of r pl changes) s tx t → field_of (t (pl.inode_map 0)) 4 4 ≡ pl.iags
number_said r pl changes s t tx follows =
    let page = follows.maps (pl.inode_map 0) (inode_page pl 0 (omega arith)) in
    let control = page.inode_map 0 (omega arith) refl in
    sym control.held.nextiag ∙ control.canonical.nextiag

module _ (r : Readers) (blocks agsize numag : ℕ) (table map : Pxd) (changes : Pages → List Edit → ℕ → Bool) (s t : Pages) (tx : List Edit) (at : IsVolumeAt r blocks agsize numag table map (places_on r blocks agsize numag table map s) s)
    (follows : IsStep (face_of r (places_on r blocks agsize numag table map s) changes) s tx t) (fixed : FixedStay (places_on r blocks agsize numag table map s) s t) where
  abbrev mounted : Places
  mounted = places_on r blocks agsize numag table map s

  no_map : (b : ℕ) → map_pages r s b ≡ 0 → is_map_page mounted b ≡ false
  no_map b none = by (cases_Bool (is_map_page mounted b))
    where
      by : (is_map_page mounted b ≡ true) ⊎ (is_map_page mounted b ≡ false) → is_map_page mounted b ≡ false
      by (inr e) = e
      by (inl e) = let some = map_page_is r blocks agsize numag table map s at.pages b e in absurd (omega (arith, some, none))

  same : SamePlaces r table map s t
  same = files_law r table map s t (keeps_law r table map (volume_on r blocks table map s) t at.sound.agrees (λ b. refl) at.files
      (λ b other some none. fixed b (and_from (nat_lt 0 (area_on r table map s b)) (not (is_map_page mounted b)) (lt-ltb 0 (area_on r table map s b) some) (ap not (no_map b none)))))

  number : iags_on r t ≡ iags_on r s
  number =
      let here : is_some (block_of (file_extents r t 16) 0) ≡ true = ap (λ (es : List Xad). is_some (block_of es 0)) same.inode_map ∙ at.pages.inode_map 0 (omega arith) in
      let place : unwrap_or (block_of (file_extents r t 16) 0) 0 ≡ mounted.inode_map 0 = ap (λ (es : List Xad). unwrap_or (block_of es 0) 0) same.inode_map in
      ap (λ (a : List ℕ). field_of a 4 4) (sym (file_page_is r t 16 0 here) ∙ ap t place) ∙ number_said r mounted changes s t tx follows

  pub stands : MapsStandAt r blocks agsize numag table map mounted t
  stands = record {
    files = same.whole at.files;
    pages = record {
      block_map = λ k used. ap (λ (es : List Xad). is_some (block_of es k)) same.block_map ∙ at.pages.block_map k used;
      inode_map = λ k low. ap (λ (es : List Xad). is_some (block_of es k)) same.inode_map ∙ at.pages.inode_map k (let n = number in omega (arith, low, n));
    };
    places =
        ap (λ (i : ℕ). by_extents blocks agsize numag i (file_extents r t 2) (file_extents r t 16) (area_on r table map t)) number
        ∙ ap (λ (es : List Xad). by_extents blocks agsize numag (iags_on r s) es (file_extents r t 16) (area_on r table map t)) same.block_map
        ∙ ap (λ (es : List Xad). by_extents blocks agsize numag (iags_on r s) (file_extents r s 2) es (area_on r table map t)) same.inode_map
        ∙ ap (λ (a : ℕ → ℕ). by_extents blocks agsize numag (iags_on r s) (file_extents r s 2) (file_extents r s 16) a) (fun_ext same.areas);
  }

-- what is asked, for any places
record Asked (r : Readers) (blocks agsize numag : ℕ) (table map : Pxd) (changes : Pages → List Edit → ℕ → Bool) (s t : Pages) (tx : List Edit) (pl : Places) : Type 0 where
  is_at : IsVolumeAt r blocks agsize numag table map pl s
  follows : IsStep (face_of r pl changes) s tx t
  fixed : FixedStay pl s t

abbrev Stands : Readers → ℕ → ℕ → ℕ → Pxd → Pxd → (Pages → List Edit → ℕ → Bool) → Pages → Pages → List Edit → Places → Type 0
Stands r blocks agsize numag table map changes s t tx pl = Asked r blocks agsize numag table map changes s t tx pl → MapsStandAt r blocks agsize numag table map pl t

pub places_law : PlacesLaw
places_law r blocks agsize numag table map pl changes s t tx is_at follows fixed =
    subst (λ (x : Places). Stands r blocks agsize numag table map changes s t tx x) is_at.places
    (λ asked. stands r blocks agsize numag table map changes s t tx asked.is_at asked.follows asked.fixed)
    (record { is_at = is_at; follows = follows; fixed = fixed })
