-- No rule of the maps is broken in what a crash leaves.
use Rattle.std.proofs.Common.{◌≡◌, ◌<◌, ◌≤◌, ◌+◌, ◌*◌, ◌/◌, ◌%◌, ◌&&◌, nat_le, ℕ, suc, Bool, true, false, List, map, get_or, is_some, Option, Some, None, refl, sym, ap, ◌∙◌, inl, inr, arith}
use Rattle.std.specs.List.{range_with_len, prefix_len}
use Rattle.std.proofs.lemmas.Bool.{eq-eqb, le-leb, and_from}
use Rattle.std.proofs.lemmas.List.FromFn.{get_or-map-range_with_len}
use Rattle.jfs_bits.specs.Descriptor.{pxd_of}
use Rattle.jfs_bits.specs.Field.{field_of}
use Rattle.jfs_bits.specs.declared.descriptor.Pxd.{Pxd}
use Rattle.jfs_bits.proofs.Broken.{none-first_broken}
use Rattle.jfs_disk.specs.Image.{Image, page_of}
use Rattle.jfs_super.specs.Rules.{blocks_of}
use Rattle.jfs_super.specs.declared.fields.Super.{Super}
use Rattle.jfs_shown.specs.bmap.specs.MapFile.{pages_of}
use Rattle.jfs_shown.specs.meaning.specs.Readers.{readers}
use Rattle.jfs_shown.specs.objects.specs.Image.{file_page, extent_place, extents_on, is_block_used}
use Rattle.jfs_shown.specs.objects.specs.Owners.{bit, extents_have}
use Rattle.jfs_shown.specs.objects.specs.Readers.{Readers}
use Rattle.jfs_shown.specs.objects.specs.Volume.{page_in}
use Rattle.jfs_shown.specs.objects.proofs.Homes.{home_counts}
use Rattle.jfs_left_maps.specs.Items.{IsExtent, HasFours, IsOfHistory}
use Rattle.jfs_left_maps.proofs.Items.{fours_law, items_law}
use Rattle.jfs_held_maps.proofs.Extents.{extent_read, fits, four_fits}
use Rattle.jfs_held_maps.proofs.Places.{used_within}
use Rattle.jfs_held_maps.specs.mounted_places.specs.held.specs.image_volumes.proofs.Read.{extents_are}
use Rattle.jfs_held_maps.specs.mounted_places.specs.held.specs.survival.specs.MapMarks.{map_marks}
use Rattle.jfs_held_maps.specs.mounted_places.specs.held.specs.survival.specs.face.specs.Items.{places, place_of, extent_by}
use Rattle.jfs_held_maps.specs.mounted_places.specs.held.specs.survival.specs.face.specs.Mounted.{places_on, HasMapPages}
use Rattle.jfs_held_maps.specs.mounted_places.specs.held.specs.survival.specs.face.specs.Places.{Places}
use Rattle.jfs_held_maps.specs.mounted_places.specs.held.specs.survival.specs.face.specs.Volume.{items_on}
use Rattle.jfs_held_maps.specs.mounted_places.specs.held.specs.survival.specs.recovery.specs.Core.{Core, count, image}
use Rattle.jfs_held_maps.specs.mounted_places.specs.held.specs.survival.specs.recovery.specs.Face.{Pages, Value}
use Rattle.jfs_held_maps.specs.mounted_places.specs.held.specs.survival.specs.recovery.specs.Face.Item.{ExtentPlace}
use Rattle.jfs_held_maps.specs.mounted_places.specs.held.specs.survival.specs.recovery.specs.Sound.{IsLogImage}
use Rattle.jfs_redo.specs.mount_rules.specs.Mount.{place, covered, iags, extent_at, fits_extent, fitting, map_rows, broken_maps}
use Rattle.jfs_redo.specs.mount_rules.specs.Subject.{Subject, subject_of}
use Rattle.jfs_redo.specs.mount_rules.proofs.Passed.{prefix_is}
use Rattle.jfs_crashes_redone.proofs.Facts.{AreFacts}

used_bit : (t : Bool) → 0 < bit t → t ≡ true
used_bit true h = refl
used_bit false h = absurd (omega (arith, h))

all_there : (p : ℕ → Bool) (n : ℕ) → ((j : ℕ) → j < n → p j ≡ true) → prefix_len p (range_with_len 0 n) ≡ n
all_there p n all = prefix_is p n n (omega arith) all (λ past. absurd (omega (arith, past)))

-- ---- the extents of an image, by its items

pub extents_list : (r : Readers) (blocks agsize numag : ℕ) (table second : Pxd) (pl : Places) (page : Pages) → HasMapPages r blocks page → places_on r blocks agsize numag table second page ≡ pl
    → extents_on r page ≡ map (λ e. extent_place (extent_by (items_on pl page) e)) (range_with_len 0 (places pl))
extents_list r blocks agsize numag table second pl page has are =
    extents_are r blocks agsize numag table second page has ∙ ap (λ (q : Places). map (λ e. extent_place (extent_by (items_on q page) e)) (range_with_len 0 (places q))) are

-- the last block of an extent is one of the list's
last_counts : (es : List (Option ℕ)) (e first : ℕ) → get_or es e None ≡ Some first → 1 ≤ extents_have es (first + 3)
last_counts es e first at =
    let n : ℕ = 32 * e + 24 in
    let here : get_or es (n / 32) None ≡ Some first = ap (λ (k : ℕ). get_or es k None) (let k : (32 * e + 24) / 32 ≡ e = omega arith in k) ∙ at in
    home_counts es n (first + 3) (ap (λ (o : Option ℕ). page_in o n) here ∙ ap (λ (k : ℕ). Some (first + k)) (let k : (32 * e + 24) % 32 / 8 ≡ 3 = omega arith in k))

module _ (s : Super) (pl : Places) (core : Core) (left : Pages) (old : Image) (facts : AreFacts s pl core left old) where
  abbrev pub r : Readers
  r = readers (blocks_of s)

  abbrev pub sub : Subject
  sub = subject_of s (page_of old)

  -- ---- extents of the history have four blocks of the volume

  -- a block that inode extents have is one of the volume's
  pub extent_within : (k b : ℕ) → k ≤ count core → 1 ≤ extents_have (extents_on r (image core k)) b → b < blocks_of s
  extent_within k b low some =
      let agreed = (facts.stands k low).sound.agrees.blocks b in
      used_within r (blocks_of s) b (image core k) (used_bit (is_block_used r (image core k) (blocks_of s) b) (omega (arith, agreed, some)))

  pub four_then : (k : ℕ) → k ≤ count core → HasFours pl (image core k)
  four_then k low = fours_law r pl (map_marks pl) core facts.areas facts.sound facts.fours k low

  fits_then : (k e : ℕ) → k ≤ count core → e < places pl → fits (blocks_of s) (extent_by (items_on pl (image core k)) e) ≡ true
  fits_then k e low within = by (four_then k low e within)
    where
      d : Pxd
      d = extent_by (items_on pl (image core k)) e

      at : (d : Pxd) → extent_by (items_on pl (image core k)) e ≡ d → IsExtent d → fits (blocks_of s) d ≡ true
      at d is (inl none) = ap (fits (blocks_of s)) none
      at d is (inr four) =
          let list = extents_list r (blocks_of s) s.agsize _ s.ait2 s.aim2 pl (image core k) (facts.stands k low).pages (facts.stands k low).places in
          let said : get_or (extents_on r (image core k)) e None ≡ Some d.addr =
          ap (λ (es : List (Option ℕ)). get_or es e None) list ∙ get_or-map-range_with_len (λ e. extent_place (extent_by (items_on pl (image core k)) e)) 0 (places pl) e e None within (omega arith) ∙ ap extent_place is ∙ ap extent_place four in
          let last = extent_within k (d.addr + 3) low (last_counts (extents_on r (image core k)) e d.addr said) in
          ap (fits (blocks_of s)) four ∙ four_fits (blocks_of s) d.addr (omega (arith, last))

      by : IsExtent (extent_by (items_on pl (image core k)) e) → fits (blocks_of s) (extent_by (items_on pl (image core k)) e) ≡ true
      by is = at (extent_by (items_on pl (image core k)) e) refl is

  -- ---- and so has each that the crash left

  module _ (c n : ℕ) (log : IsLogImage core c n) where
    of_history : (e : ℕ) → IsOfHistory pl core left c n (ExtentPlace e)
    of_history e = items_law r pl (map_marks pl) core left c n facts.areas facts.sound facts.is_left log (ExtentPlace e)

    fits_now : (e : ℕ) → e < 128 * iags sub → fits_extent sub e ≡ true
    fits_now e low =
        let groups = facts.number in
        let within : e < places pl = omega (arith, low, groups) in
        let was = of_history e in
        let at : extent_at sub e ≡ extent_by (items_on pl left) e =
        ap (λ (a : List ℕ). pxd_of a (3072 + 8 * (e % 128))) (facts.inode_left (suc (e / 128)) (omega (arith, within))) ∙ sym (extent_read pl left e within) in
        ap (fits (blocks_of s)) (at ∙ ap (λ (v : Value). place_of v) was.left) ∙ fits_then was.entry e was.there within

    mapsize : (field_of (file_page r (page_of old) 2 0) 0 8) ≡ blocks_of s
    mapsize = ap (λ (a : List ℕ). field_of a 0 8) facts.block_left ∙ (facts.says (pl.block_map 0)).blocks refl ∙ sym (ap (λ (q : Places). q.blocks) facts.places_are)

    covered_blocks : covered sub 2 (pages_of (blocks_of s)) ≡ pages_of (blocks_of s)
    unfolding covered
    covered_blocks = all_there (λ j. is_some (place sub 2 j)) (pages_of (blocks_of s)) facts.whole

    covered_inodes : covered sub 16 (suc (iags sub)) ≡ suc (iags sub)
    unfolding covered
    covered_inodes = all_there (λ j. is_some (place sub 16 j)) (suc (iags sub)) (λ j low. facts.has_pages.inode_map j (omega (arith, low)))

    all_fit : fitting sub ≡ 128 * iags sub
    unfolding fitting
    all_fit = all_there (fits_extent sub) (128 * iags sub) fits_now

    numbers : (nat_le 1 (iags sub) && nat_le (iags sub) 65536) ≡ true
    numbers =
        let groups = facts.number in
        let few = facts.few in
        let some = facts.some in
        and_from (nat_le 1 (iags sub)) (nat_le (iags sub) 65536) (le-leb 1 (iags sub) (omega (arith, groups, some))) (le-leb (iags sub) 65536 (omega (arith, groups, few)))

    pub unbroken : broken_maps sub ≡ None
    unfolding map_rows
    unbroken = none-first_broken (map_rows sub) (
      eq-eqb (covered sub 2 (pages_of (blocks_of s))) (pages_of (blocks_of s)) covered_blocks,
      (
        eq-eqb (covered sub 16 (suc (iags sub))) (suc (iags sub)) covered_inodes,
        (eq-eqb (field_of (file_page r (page_of old) 2 0) 0 8) (blocks_of s) mapsize, (numbers, (eq-eqb (fitting sub) (128 * iags sub) all_fit, tt))),
      ),
    )
