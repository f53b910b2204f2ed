-- The maps of a volume that a crash left are where they were mounted, and its own log keeps off them.
use Rattle.std.proofs.Common.{◌≡◌, ◌⊎◌, ◌<◌, ◌≤◌, ◌+◌, ◌*◌, ◌/◌, ◌%◌, ◌&&◌, ◌==◌, nat_lt, ℕ, suc, Bool, true, false, true≢false, List, [], length, refl, sym, ap, subst, ◌∙◌, inl, inr, arith}
use Rattle.std.specs.Prelude.{Option, Some, None, is_some, unwrap_or}
use Rattle.std.proofs.lemmas.Bool.{cases_Bool, cond-true, lt-ltb, ltb-true, eq-eqb, eqb-true, and_parts, or_left, or_right, or_cases}
use Rattle.std.proofs.lemmas.Option.{none-some}
use Rattle.jfs_bits.specs.Bits.{any_below}
use Rattle.jfs_bits.proofs.Buds.{any_below-from, any_below-at}
use Rattle.jfs_bits.specs.declared.extent.Xad.{Xad}
use Rattle.jfs_bits.specs.Descriptor.{pxd_of}
use Rattle.jfs_disk.specs.Image.{Image, page_of}
use Rattle.jfs_ranges.specs.declared.edit.Edit.{Edit}
use Rattle.jfs_ranges.specs.Apply.{touches_tx}
use Rattle.jfs_super.specs.Rules.{blocks_of}
use Rattle.jfs_super.specs.declared.fields.Super.{Super}
use Rattle.jfs_iag.specs.Iag.{no_run}
use Rattle.jfs_recovery.specs.records.specs.Redo.{all_of, redone}
use Rattle.jfs_recovery.specs.objects.specs.page_tree.specs.Walk.{Marks}
use Rattle.jfs_recovery.specs.objects.specs.Readers.{Readers}
use Rattle.jfs_recovery.specs.objects.specs.Objects.{met, listed}
use Rattle.jfs_recovery.specs.objects.specs.Owners.{unless_broken, entries, covers, extent_has, extents_have, bit}
use Rattle.jfs_recovery.specs.objects.specs.Contents.{block_of, bytes_at}
use Rattle.jfs_recovery.specs.objects.specs.Image.{file_walk, file_extents, file_page, file_has, iag_page, iags_on, is_block_used, extent_place, extent_on, extents_on, area_on}
use Rattle.jfs_recovery.specs.objects.proofs.Blocks.{covered}
use Rattle.jfs_recovery.specs.kinds.specs.Images.{IsWholeFile}
use Rattle.jfs_recovery.specs.Face.{Face, IsFace, Pages, Item}
use Rattle.jfs_recovery.specs.Face.Item.{ExtentPlace}
use Rattle.jfs_recovery.specs.Core.{Core, count, image}
use Rattle.jfs_recovery.specs.Sound.{IsSound, window}
use Rattle.jfs_recovery.proofs.EditByEdit.{edit_by_edit}
use Rattle.jfs_recovery.proofs.Parts.{fixed_image, fixed_low}
use Rattle.jfs_recovery.proofs.Redo.{Facts, facts, known_cells, recovers_page, size_left}
use Rattle.jfs_face.specs.Places.{Places, AreInAreas, is_map_page, is_fixed_page}
use Rattle.jfs_face.specs.Items.{places, place_of, no_extent}
use Rattle.jfs_face.proofs.Whole.{is_face, reads_edits}
use Rattle.jfs_face.proofs.Mounted.{seen_as_it_is}
use Rattle.jfs_redo.specs.redo_steps.specs.Pages.{redone_page}
use Rattle.jfs_redo.specs.mount_rules.specs.bmap.specs.MapFile.{is_in_use, pages_of}
use Rattle.jfs_redo.specs.mount_rules.specs.meaning.specs.Readers.{readers}
use Rattle.jfs_redo.specs.mount_rules.specs.Mount.{iags}
use Rattle.jfs_redo.specs.mount_rules.specs.Subject.{Subject, subject_of, volume}
use Rattle.jfs_redo.specs.Put.{place_if}
use Rattle.jfs_redo.specs.Redo.{IsMapPlace}
use Rattle.jfs_redo.specs.Apart.{map_files_have, KeepsOffMaps}
use Rattle.jfs_redo.proofs.Apart.{place_is, in_area}
use Rattle.jfs_redo.proofs.Located.{not_redone, same_walk}
use Rattle.jfs_redo.proofs.Named.{first_area, extents_clear}
use Rattle.jfs_crashed.specs.Crashed.{IsVolumeOf, face_on, LogsNoMaps, HasCrashed, KeepsApart, OwnLogLaw}
use Rattle.jfs_crashed.proofs.Windows.{window_clear, have_none, has_none}

there : (o : Option ℕ) → is_some o ≡ true → o ≡ Some (unwrap_or o 0)
there None h = absurd (true≢false (sym h))
there (Some b) h = refl

use_of : (t : Bool) (o : Option ℕ) (b : ℕ) → place_if t o ≡ Some b → t ≡ true
use_of true o b h = refl
use_of false o b h = absurd (none-some b h)

used_bit : (t : Bool) → 0 < bit t → t ≡ true
used_bit true h = refl
used_bit false h = absurd (omega (arith, h))

at_most : (t : Bool) → bit t ≤ 1
at_most true = omega arith
at_most false = omega arith

-- a tree that breaks no rule has its pages
whole_has : (r : Readers) (page : Pages) (f b : ℕ) → IsWholeFile r page f → file_has r page f b ≡ met (file_walk r page f) b + covers b (file_extents r page f)
unfolding file_has
whole_has r page f b whole = ap (λ l. unless_broken l (met (file_walk r page f) b) + covers b (file_extents r page f)) whole.1

-- and what they have is the same where the walk is
same_has : (r : Readers) (old new : Pages) (f b : ℕ) → file_walk r new f ≡ file_walk r old f → file_has r new f b ≡ file_has r old f b
unfolding file_has
same_has r old new f b walk = ap (λ (ms : Marks ℕ Xad). unless_broken (listed r.extents_order ms) (met ms b) + covers b (entries (listed r.extents_order ms))) walk

module _ (s : Super) (numag : ℕ) (pl : Places) (changes : Pages → List Edit → ℕ → Bool) (core : Core) (c n : ℕ) (left : Pages) (low : Image) (sound : IsSound (face_on s pl changes) core)
    (volumes : (k : ℕ) → k ≤ count core → IsVolumeOf s numag pl (image core k)) (no_maps : LogsNoMaps pl core) (crashed : HasCrashed s core c n left low) (groups : iags (subject_of s (page_of low)) ≡ pl.iags) where
  abbrev r : Readers
  r = readers (blocks_of s)

  abbrev f : Face
  f = face_on s pl changes

  abbrev sub : Subject
  sub = subject_of s (page_of low)

  first : IsVolumeOf s numag pl core.mounted
  first = volumes 0 (omega arith)

  -- ---- the volume as it was mounted

  areas : AreInAreas pl
  areas = subst (λ (x : Places). AreInAreas x) first.places (seen_as_it_is r (blocks_of s) s.agsize numag s.ait2 s.aim2 core.mounted first.pages).areas

  laws : IsFace f
  laws = is_face r pl changes areas

  area_is : (b : ℕ) → area_on r s.ait2 s.aim2 core.mounted b ≡ pl.area b
  area_is b = ap (λ (x : Places). x.area b) first.places

  once : (b : ℕ) → pl.area b ≤ 1
  once b = let a = area_is b in let e = first.sound.agrees.blocks b in let o = at_most (is_block_used r core.mounted (blocks_of s) b) in omega (arith, a, e, o)

  in_volume : (b : ℕ) → 0 < pl.area b → b < blocks_of s
  unfolding is_block_used
  in_volume b h =
      let a = area_is b in
      let e = first.sound.agrees.blocks b in
      let used = used_bit (is_block_used r core.mounted (blocks_of s) b) (omega (arith, a, e, h)) in
      ltb-true b (blocks_of s) (and_parts (nat_lt b (blocks_of s)) _ used).0

  -- a page of the maps is one of a file's own
  own_page : (b : ℕ) → is_map_page pl b ≡ true → 0 < covers b (file_extents r core.mounted 2) + covers b (file_extents r core.mounted 16)
  own_page b is = at (or_cases (any_below (pages_of pl.blocks) (λ k. is_in_use pl.blocks k && pl.block_map k == b)) (any_below (suc pl.iags) (λ k. pl.inode_map k == b)) is)
    where
      in_file : (g k : ℕ) → is_some (block_of (file_extents r core.mounted g) k) ≡ true → unwrap_or (block_of (file_extents r core.mounted g) k) 0 ≡ b → 0 < covers b (file_extents r core.mounted g)
      in_file g k some e = covered (file_extents r core.mounted g) k b (there (block_of (file_extents r core.mounted g) k) some ∙ ap Some e)

      blocks_are : blocks_of s ≡ pl.blocks
      blocks_are = ap (λ (x : Places). x.blocks) first.places

      block_page : (k : ℕ) → (is_in_use pl.blocks k && pl.block_map k == b) ≡ true → 0 < covers b (file_extents r core.mounted 2)
      block_page k both =
          let parts = and_parts (is_in_use pl.blocks k) (pl.block_map k == b) both in
          let used : is_in_use (blocks_of s) k ≡ true = ap (λ (m : ℕ). is_in_use m k) blocks_are ∙ parts.0 in
          in_file 2 k (first.pages.block_map k used) (ap (λ (x : Places). x.block_map k) first.places ∙ eqb-true (pl.block_map k) b parts.1)

      inode_page : (k : ℕ) → k < suc pl.iags → (pl.inode_map k == b) ≡ true → 0 < covers b (file_extents r core.mounted 16)
      inode_page k under e =
          let many = ap (λ (x : Places). x.iags) first.places in
          in_file 16 k (first.pages.inode_map k (omega (arith, under, many))) (ap (λ (x : Places). x.inode_map k) first.places ∙ eqb-true (pl.inode_map k) b e)

      at : (any_below (pages_of pl.blocks) (λ k. is_in_use pl.blocks k && pl.block_map k == b) ≡ true) ⊎ (any_below (suc pl.iags) (λ k. pl.inode_map k == b) ≡ true)
          → 0 < covers b (file_extents r core.mounted 2) + covers b (file_extents r core.mounted 16)
      at (inl found) = let k = any_below-at (pages_of pl.blocks) (λ k. is_in_use pl.blocks k && pl.block_map k == b) found in let h = block_page k.0 k.2 in omega (arith, h)
      at (inr found) = let k = any_below-at (suc pl.iags) (λ k. pl.inode_map k == b) found in let h = inode_page k.0 k.1 k.2 in omega (arith, h)

  -- so no other page of the areas is one
  not_map : (b : ℕ) → covers b (file_extents r core.mounted 2) + covers b (file_extents r core.mounted 16) < pl.area b → is_map_page pl b ≡ false
  not_map b more = at (is_map_page pl b) refl
    where
      at : (t : Bool) → is_map_page pl b ≡ t → t ≡ false
      at false e = refl
      at true e = let own = own_page b e in let o = once b in absurd (omega (arith, own, o, more))

  first_page : (b : ℕ) → b < 16 → covers b (file_extents r core.mounted 2) + covers b (file_extents r core.mounted 16) < pl.area b
  unfolding area_on
  first_page b under =
      let a = area_is b in
      let w = first_area b under in
      let x = whole_has r core.mounted 2 b first.files.block_map in
      let y = whole_has r core.mounted 16 b first.files.inode_map in
      omega (arith, a, w, x, y)

  tree_page : (b : ℕ) → 0 < met (file_walk r core.mounted 2) b + met (file_walk r core.mounted 4) b + met (file_walk r core.mounted 16) b
      → covers b (file_extents r core.mounted 2) + covers b (file_extents r core.mounted 16) < pl.area b
  unfolding area_on
  tree_page b h =
      let a = area_is b in
      let x = whole_has r core.mounted 2 b first.files.block_map in
      let y = whole_has r core.mounted 16 b first.files.inode_map in
      let z = whole_has r core.mounted 4 b first.files.bad_blocks in
      omega (arith, a, x, y, z, h)

  -- ---- what the crash left of the fixed areas

  is_fixed : (b : ℕ) → 0 < pl.area b → is_map_page pl b ≡ false → is_fixed_page pl b ≡ true
  is_fixed b some other = rw (lt-ltb 0 (pl.area b) some, other) refl

  as_mounted : (b : ℕ) → 0 < pl.area b → is_map_page pl b ≡ false → page_of low b ≡ core.mounted b
  as_mounted b some other = crashed.same b (in_volume b some) ∙ fixed_low f laws core sound left crashed.pages b other (is_fixed b some other)

  beside : (b : ℕ) → covers b (file_extents r core.mounted 2) + covers b (file_extents r core.mounted 16) < pl.area b → page_of low b ≡ core.mounted b
  beside b more = as_mounted b (omega (arith, more)) (not_map b more)

  block_walk : file_walk r (page_of low) 2 ≡ file_walk r core.mounted 2
  block_walk = same_walk r core.mounted (page_of low) 2 (beside 11 (first_page 11 (omega arith))) (λ b h. beside b (tree_page b (omega (arith, h))))

  bad_walk : file_walk r (page_of low) 4 ≡ file_walk r core.mounted 4
  bad_walk = same_walk r core.mounted (page_of low) 4 (beside 11 (first_page 11 (omega arith))) (λ b h. beside b (tree_page b (omega (arith, h))))

  inode_walk : file_walk r (page_of low) 16 ≡ file_walk r core.mounted 16
  inode_walk = same_walk r core.mounted (page_of low) 16 (beside 13 (first_page 13 (omega arith))) (λ b h. beside b (tree_page b (omega (arith, h))))

  area_same : (b : ℕ) → area_on r s.ait2 s.aim2 (page_of low) b ≡ pl.area b
  unfolding area_on
  area_same b =
      let a = area_is b in
      let x = same_has r core.mounted (page_of low) 2 b block_walk in
      let y = same_has r core.mounted (page_of low) 4 b bad_walk in
      let z = same_has r core.mounted (page_of low) 16 b inode_walk in
      omega (arith, a, x, y, z)

  -- ---- the places of the maps

  is_page : (b : ℕ) → IsMapPlace sub b → is_map_page pl b ≡ true
  is_page b (inl (k, under, at)) =
      let blocks_are : blocks_of s ≡ pl.blocks = ap (λ (x : Places). x.blocks) first.places in
      let used : is_in_use pl.blocks k ≡ true = ap (λ (m : ℕ). is_in_use m k) (sym blocks_are) ∙ use_of (is_in_use (blocks_of s) k) (block_of (file_extents r (page_of low) 2) k) b at in
      let place : block_of (file_extents r core.mounted 2) k ≡ Some b =
      ap (λ (ms : Marks ℕ Xad). block_of (entries (listed r.extents_order ms)) k) (sym block_walk) ∙ place_is (is_in_use (blocks_of s) k) (block_of (file_extents r (page_of low) 2) k) b at in
      let is : pl.block_map k ≡ b = sym (ap (λ (x : Places). x.block_map k) first.places) ∙ ap (λ (o : Option ℕ). unwrap_or o 0) place in
      or_left (any_below (pages_of pl.blocks) (λ k. is_in_use pl.blocks k && pl.block_map k == b)) (any_below (suc pl.iags) (λ k. pl.inode_map k == b))
      (any_below-from (pages_of pl.blocks) (λ k. is_in_use pl.blocks k && pl.block_map k == b) k (subst (λ (m : ℕ). k < pages_of m) blocks_are under) (rw (used, eq-eqb (pl.block_map k) b is) refl))
  is_page b (inr (k, under, at)) =
      let place : block_of (file_extents r core.mounted 16) k ≡ Some b = ap (λ (ms : Marks ℕ Xad). block_of (entries (listed r.extents_order ms)) k) (sym inode_walk) ∙ at in
      let is : pl.inode_map k ≡ b = sym (ap (λ (x : Places). x.inode_map k) first.places) ∙ ap (λ (o : Option ℕ). unwrap_or o 0) place in
      or_right (any_below (pages_of pl.blocks) (λ k. is_in_use pl.blocks k && pl.block_map k == b)) (any_below (suc pl.iags) (λ k. pl.inode_map k == b))
      (any_below-from (suc pl.iags) (λ k. pl.inode_map k == b) k (omega (arith, under, groups)) (eq-eqb (pl.inode_map k) b is))

  -- ---- the log keeps off them

  no_line : (b : ℕ) → is_map_page pl b ≡ true → touches_tx b (all_of (window core c n)) ≡ false
  no_line b is = window_clear core c n b (λ k. no_maps k b is)

  some_area : (b : ℕ) → 0 < map_files_have sub b → 0 < pl.area b
  some_area b has = let i = in_area sub b in let a = area_same b in omega (arith, has, i, a)

  size : (b : ℕ) → b < blocks_of s → length (page_of low b) ≡ 4096
  size b under = ap (λ (page : List ℕ). length page) (crashed.same b under) ∙ size_left f core sound left crashed.pages b

  known : Facts core c n
  known = facts f core sound c n crashed.log

  -- a fixed page is redone to what it is
  fixed_stays : (b : ℕ) → 0 < pl.area b → is_map_page pl b ≡ false → redone_page (blocks_of s) (all_of (window core c n)) low b ≡ page_of low b
  fixed_stays b some other =
      let fixed = is_fixed b some other in
      let here : page_of low b ≡ left b = crashed.same b (in_volume b some) in
      cond-true (nat_lt b (blocks_of s)) (redone b (page_of low b) (page_of low b) (all_of (window core c n))) (page_of low b) (lt-ltb b (blocks_of s) (in_volume b some))
      ∙ ap (λ (page : List ℕ). redone b page page (all_of (window core c n))) here
      ∙ sym (edit_by_edit f (reads_edits r pl changes) b (left b) (window core c n))
      ∙ recovers_page f laws core sound left crashed.pages c n known b other (laws.fixed (image core n) b fixed)
      ∙ fixed_image f core sound b other fixed n known.within ∙ sym (as_mounted b some other)

  off : KeepsOffMaps s (window core c n) low
  off = record {
    maps = λ b is. no_line b (is_page b is);
    files = λ b has. elim (cases_Bool (is_map_page pl b)) [
      | inl is ↦ not_redone s (window core c n) low b (size b) (no_line b is)
      | inr other ↦ fixed_stays b (some_area b has) other
    ];
  }

  -- ---- no inode extent has one of their pages

  -- the page of an inode allocation group, in its place
  iag_low : (i : ℕ) → i < pl.iags → iag_page r (page_of low) i ≡ left (pl.inode_map (suc i))
  unfolding file_page
  iag_low i under =
      let many = ap (λ (x : Places). x.iags) first.places in
      let place = there (block_of (file_extents r core.mounted 16) (suc i)) (first.pages.inode_map (suc i) (omega (arith, under, many))) ∙ ap (λ (x : Places). Some (x.inode_map (suc i))) first.places in
      let here : block_of (file_extents r (page_of low) 16) (suc i) ≡ Some (pl.inode_map (suc i)) = ap (λ (ms : Marks ℕ Xad). block_of (entries (listed r.extents_order ms)) (suc i)) inode_walk ∙ place in
      ap (λ (o : Option ℕ). unwrap_or (bytes_at (page_of low) o) []) here ∙ crashed.same (pl.inode_map (suc i)) (in_volume (pl.inode_map (suc i)) (areas.inode_map (suc i) (omega (arith, under))))

  iag_then : (k i : ℕ) → k ≤ count core → i < pl.iags → iag_page r (image core k) i ≡ image core k (pl.inode_map (suc i))
  unfolding file_page
  iag_then k i within under =
      let at = volumes k within in
      let many = ap (λ (x : Places). x.iags) at.places in
      let place = there (block_of (file_extents r (image core k) 16) (suc i)) (at.pages.inode_map (suc i) (omega (arith, under, many))) ∙ ap (λ (x : Places). Some (x.inode_map (suc i))) at.places in
      ap (λ (o : Option ℕ). unwrap_or (bytes_at (image core k) o) []) place

  own_area : (b : ℕ) → is_map_page pl b ≡ true → 0 < pl.area b
  unfolding area_on
  own_area b is =
      let own = own_page b is in
      let a = area_is b in
      let x = whole_has r core.mounted 2 b first.files.block_map in
      let y = whole_has r core.mounted 16 b first.files.inode_map in
      omega (arith, a, x, y, own)

  -- after each entry none has
  none_then : (k b e : ℕ) → k ≤ count core → is_map_page pl b ≡ true → e < 128 * pl.iags → extent_has (extent_on r (image core k) e) b ≡ 0
  unfolding extents_on
  none_then k b e within is under =
      let at = volumes k within in
      let many = ap (λ (x : Places). x.iags) at.places in
      let area = ap (λ (x : Places). x.area b) at.places in
      let some = own_area b is in
      let agreed = at.sound.agrees.blocks b in
      let o = at_most (is_block_used r (image core k) (blocks_of s) b) in
      has_none (extent_on r (image core k)) b (128 * iags_on r (image core k)) 0 e (omega (arith, area, some, agreed, o)) (omega arith) (omega (arith, under, many))

  -- and what the crash left of an extent's descriptor is that of some entry
  extent_left : (e : ℕ) → e < 128 * pl.iags → (k : ℕ) × (k ≤ count core) × (extent_on r (page_of low) e ≡ extent_on r (image core k) e)
  extent_left e under =
      let i : Item = ExtentPlace e in
      let p : ℕ = f.home i in
      let low_e : nat_lt e (places pl) ≡ true = lt-ltb e (places pl) under in
      let at : p ≡ pl.inode_map (suc (e / 128)) = cond-true (nat_lt e (places pl)) (pl.inode_map (suc (e / 128))) (no_extent pl) low_e in
      let cells = known_cells f core sound left crashed.pages c known.early known.told p (λ k a b. laws.area (image core k) p (laws.at_home i)) in
      let cell = cells.each (f.cell i) (laws.in_page i) (inr (i, refl, refl)) in
      let within : cell.0 ≤ count core = omega (arith, cell.2, known.later, known.within) in
      let same = laws.in_cell i (left p) (image core cell.0 p) cell.3 in
      let descriptor : pxd_of (left p) (3072 + 8 * (e % 128)) ≡ pxd_of (image core cell.0 p) (3072 + 8 * (e % 128)) =
      sym (cond-true (nat_lt e (places pl)) (pxd_of (left p) (3072 + 8 * (e % 128))) no_run low_e) ∙ ap place_of same ∙ cond-true (nat_lt e (places pl)) (pxd_of (image core cell.0 p) (3072 + 8 * (e % 128))) no_run low_e in (
        cell.0,
        within,
        ap (λ (page : List ℕ). extent_place (pxd_of page (3072 + 8 * (e % 128)))) (iag_low (e / 128) (omega (arith, under)) ∙ ap left (sym at))
            ∙ ap extent_place descriptor
            ∙ ap (λ (page : List ℕ). extent_place (pxd_of page (3072 + 8 * (e % 128)))) (ap (image core cell.0) at ∙ sym (iag_then cell.0 (e / 128) within (omega (arith, under)))),
      )

  none_left : (b : ℕ) → is_map_page pl b ≡ true → extents_have (volume sub).extents b ≡ 0
  unfolding extents_on
  none_left b is = have_none (extent_on r (page_of low)) b (128 * iags_on r (page_of low)) 0 (λ e under.
      let low_e : e < 128 * pl.iags = omega (arith, under, groups) in
      let was = extent_left e low_e in
      ap (λ (o : Option ℕ). extent_has o b) was.2 ∙ none_then was.0 b e was.1 is low_e)

  pub apart : KeepsApart s (window core c n) low
  apart = record {
    once = record {
      areas = λ b has. (let a = area_same b in let o = once b in omega (arith, a, o));
      extents = λ b is. extents_clear (all_of (window core c n)) (volume sub).extents b (off.maps b is) (none_left b (is_page b is));
    };
    off = off;
  }

pub own_log : OwnLogLaw
own_log s numag pl changes core c n left low sound volumes no_maps crashed groups = apart s numag pl changes core c n left low sound volumes no_maps crashed groups
