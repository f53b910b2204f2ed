-- The maps of a redone volume agree with its inodes: each page of both stands where it did, in the canonical form of the sets that are the volume's.
use Rattle.std.proofs.Common.{◌≡◌, ◌⊎◌, ◌<◌, ◌≤◌, ◌+◌, ◌*◌, ◌/◌, ◌%◌, ◌&&◌, ◌||◌, ◌==◌, nat_lt, nat_le, ℕ, zero, suc, Bool, true, false, List, [], length, map, get_or, is_some, unwrap_or, Option, Some, None, refl, sym, ap, subst, ◌∙◌, inl, inr, arith}
use Rattle.std.specs.List.{range_with_len}
use Rattle.std.proofs.lemmas.Bool.{cases_lt, lt-ltb, le-leb, lt-leb, eqb-true}
use Rattle.std.proofs.lemmas.List.{length-map, get_or-map}
use Rattle.std.proofs.lemmas.List.FromFn.{get_or-map-range_with_len, length-range_with_len}
use Rattle.jfs_bits.specs.Bits.{is_taken}
use Rattle.jfs_bits.specs.Broken.{AllHold, Holds}
use Rattle.jfs_bits.specs.Descriptor.{pxd_of}
use Rattle.jfs_bits.specs.Field.{field_of, range_of}
use Rattle.jfs_bits.specs.declared.extent.Xad.{Xad}
use Rattle.jfs_bits.proofs.Broken.{first_broken-none}
use Rattle.jfs_disk.specs.Image.{Image, page_of}
use Rattle.jfs_ranges.specs.declared.edit.Edit.{Edit}
use Rattle.jfs_super.specs.Rules.{blocks_of}
use Rattle.jfs_super.specs.declared.fields.Super.{Super}
use Rattle.jfs_crashes_redone.specs.redo.specs.records.specs.Redo.{all_of}
use Rattle.jfs_crashes_redone.specs.redo.specs.mount_rules.specs.bmap.specs.MapFile.{IsMapPage, IsDmapPage, is_in_use, pages_of}
use Rattle.jfs_crashes_redone.specs.redo.specs.mount_rules.specs.meaning.specs.Readers.{readers}
use Rattle.jfs_crashes_redone.specs.redo.specs.mount_rules.specs.Mount.{place, covered, iags, extent_at, map_rows, broken_maps}
use Rattle.jfs_crashes_redone.specs.redo.specs.mount_rules.specs.Subject.{Subject, subject_of, volume, object}
use Rattle.jfs_crashes_redone.specs.redo.specs.mount_rules.proofs.Passed.{all_pass}
use Rattle.jfs_crashes_redone.specs.redo.specs.redo_steps.specs.Pages.{redone_page}
use Rattle.jfs_crashes_redone.specs.redo.specs.redo_steps.specs.each.specs.Each.{found_at, live_in}
use Rattle.jfs_crashes_redone.specs.redo.specs.redo_steps.specs.objects.specs.page_tree.specs.Walk.{Marks}
use Rattle.jfs_crashes_redone.specs.redo.specs.redo_steps.specs.objects.specs.Contents.{block_of, bytes_at}
use Rattle.jfs_crashes_redone.specs.redo.specs.redo_steps.specs.objects.specs.Image.{file_walk, file_extents, file_page, iag_page, extent_place, extent_on, extents_on, is_block_used, is_inode_used}
use Rattle.jfs_crashes_redone.specs.redo.specs.redo_steps.specs.objects.specs.Objects.{met, listed}
use Rattle.jfs_crashes_redone.specs.redo.specs.redo_steps.specs.objects.specs.Owners.{IsSound, owners, entries, bit}
use Rattle.jfs_crashes_redone.specs.redo.specs.redo_steps.specs.objects.specs.Readers.{Readers}
use Rattle.jfs_crashes_redone.specs.redo.specs.redo_steps.specs.objects.specs.Volume.{home, page_in}
use Rattle.jfs_crashes_redone.specs.redo.specs.Apart.{map_files_have}
use Rattle.jfs_crashes_redone.specs.redo.specs.Put.{place_if}
use Rattle.jfs_crashes_redone.specs.redo.specs.Partly.{extents_then, inodes_then, LocatesMaps, MapsStandApart}
use Rattle.jfs_crashes_redone.specs.redo.specs.Redo.{block_map_place, inode_map_place, IsMapPlace, IsBlockMapPlace, IsInodeMapPlace, IsRedone}
use Rattle.jfs_crashes_redone.specs.redo.proofs.Apart.{in_both, block_tree, inode_tree}
use Rattle.jfs_crashes_redone.specs.redo.proofs.Extents.{LowPagesStay}
use Rattle.jfs_crashes_redone.specs.redo.proofs.Located.{same_walk, not_redone}
use Rattle.jfs_crashes_redone.specs.redo.proofs.Places.{extents-number}
use Rattle.jfs_legal.specs.served.specs.mounted.specs.sets.specs.Sets.{extent_from}
use Rattle.jfs_legal.specs.served.specs.mounted.specs.mount_maps.specs.imap.specs.Inodes.{Inodes, IsInodePage, is_used, extent_at as extent_of}
use Rattle.jfs_legal.specs.served.specs.mounted.specs.mount_maps.specs.imap.proofs.Listed.{same-sets}
use Rattle.jfs_findings_new.specs.findings.specs.Blocks.{is_owned}
use Rattle.jfs_findings_new.specs.findings.specs.Maps.{has_to_be_taken, IsInodeControlAs, IsInodeMapPage}
use Rattle.jfs_findings_new.specs.findings.proofs.Compared.{map_page_as, iag_page_as, control_page_as}
use Rattle.jfs_mounted_maps.specs.mounted_held.specs.mounted_places.proofs.Places.{in_file}
use Rattle.jfs_mounted_maps.specs.mounted_held.specs.mounted_places.specs.held.specs.survival.specs.face.proofs.Reading.{dmap_in_use}
use Rattle.jfs_agree.specs.Agree.{MapsAgree}

-- ---- small things

there : (o : Option ℕ) → is_some o ≡ true → o ≡ Some (unwrap_or o 0)
there None h = absurd (cc (h))
there (Some b) h = refl

some_bit : (t : Bool) → nat_lt 0 (bit t) ≡ t
some_bit true = refl
some_bit false = refl

-- an extent of four blocks is told by its place
place_told : (o : Option ℕ) → extent_place (extent_from o) ≡ o
place_told None = refl
place_told (Some first) = refl

-- an inode that is live has a home
live_at_home : (page : ℕ → List ℕ) (n : ℕ) (o : Option ℕ) → (is_some o && is_some (live_in page n o)) ≡ is_some (live_in page n o)
live_at_home page n None = refl
live_at_home page n (Some p) = refl

-- Redo made this of an image whose maps stood apart and broke no rule, and where page 8 was one fixed area's alone. The log has no line of the first pages.
module _ (s : Super) (txs : List (List Edit)) (old new : Image) (is : IsRedone s txs old new) (apart : MapsStandApart s txs old) (unbroken : broken_maps (subject_of s (page_of old)) ≡ None)
    (once : (volume (subject_of s (page_of old))).area 8 ≤ 1) (low_pages : LowPagesStay (all_of txs)) (sizes : (p : ℕ) → p < blocks_of s → length (page_of old p) ≡ 4096) where
  abbrev r : Readers
  r = readers (blocks_of s)

  abbrev was : Subject
  was = subject_of s (page_of old)

  abbrev now : Subject
  now = subject_of s (page_of new)

  -- ---- where the maps stand

  not_eight : (b : ℕ) → 0 < map_files_have was b → b ≡ 8 → ⊥
  not_eight b has e =
      let both = in_both was 8 (omega arith) in
      let some : 0 < map_files_have was 8 = subst (λ (k : ℕ). 0 < map_files_have was k) e has in
      omega (arith, both, some, once)

  stays : (p : ℕ) → LocatesMaps was p → (p ≡ 8 → ⊥) → page_of new p ≡ page_of old p
  stays p locates other = is.rest p other ∙ is.others p (λ place. apart.located p place locates) ∙ is.pages.pages p ∙ left_alone (cases_lt p 16)
    where
      left_alone : (p < 16) ⊎ (16 ≤ p) → redone_page (blocks_of s) (all_of txs) old p ≡ page_of old p
      left_alone (inl first) = not_redone s txs old p (sizes p) (low_pages p first)
      left_alone (inr high) = apart.stays p high locates

  block_extents : file_extents r (page_of new) 2 ≡ file_extents r (page_of old) 2
  block_extents = ap (λ (ms : Marks ℕ Xad). entries (listed r.extents_order ms))
      (same_walk r (page_of old) (page_of new) 2 (stays 11 (inr (inl refl)) (λ e. omega (arith, e)))
      (λ b h. stays b (inr (inr (inr (inl h)))) (not_eight b (let t = block_tree s old unbroken b in omega (arith, t, h)))))

  inode_extents : file_extents r (page_of new) 16 ≡ file_extents r (page_of old) 16
  inode_extents = ap (λ (ms : Marks ℕ Xad). entries (listed r.extents_order ms))
      (same_walk r (page_of old) (page_of new) 16 (stays 13 (inr (inr (inl refl))) (λ e. omega (arith, e)))
      (λ b h. stays b (inr (inr (inr (inr h)))) (not_eight b (let t = inode_tree s old unbroken b in omega (arith, t, h)))))

  stands : (f k p : ℕ) → file_extents r (page_of new) f ≡ file_extents r (page_of old) f → block_of (file_extents r (page_of old) f) k ≡ Some p → IsMapPlace was p → page_of is.mapped p ≡ file_page r (page_of new) f k
  unfolding file_page
  stands f k p same at here =
      sym (ap (λ (es : List Xad). unwrap_or (bytes_at (page_of new) (block_of es k)) []) same ∙ ap (λ (o : Option ℕ). unwrap_or (bytes_at (page_of new) o) []) at ∙ is.rest p (λ e. apart.located p here (inl e)))

  were : AllHold Holds (map_rows was)
  were = first_broken-none (map_rows was) unbroken

  -- ---- the block map

  block_page : (k : ℕ) → is_in_use (blocks_of s) k ≡ true → IsMapPage (blocks_of s) s.agsize is.taken k (file_page r (page_of new) 2 k)
  unfolding map_rows covered
  block_page k used =
      let low = in_file (blocks_of s) k used in
      let p = unwrap_or (block_of (file_extents r (page_of old) 2) k) 0 in
      let at : block_of (file_extents r (page_of old) 2) k ≡ Some p =
      there (block_of (file_extents r (page_of old) 2) k) (all_pass (λ j. is_some (place was 2 j)) (pages_of (blocks_of s)) k (eqb-true (covered was 2 (pages_of (blocks_of s))) (pages_of (blocks_of s)) were.0) low) in
      let here : block_map_place was k ≡ Some p = ap (λ (t : Bool). place_if t (block_of (file_extents r (page_of old) 2) k)) used ∙ at in
      let in_place : IsBlockMapPlace was k p = record {
        low = low;
        is = here;
        last = λ j few e. (let same = apart.blocks j k p e here in omega (arith, same));
        apart = λ j few e. apart.both k j p here e;
      } in
      subst (IsMapPage (blocks_of s) s.agsize is.taken k) (stands 2 k p block_extents at (inl (k, low, here))) (is.block_map k p in_place).0

  -- ---- the inode map

  abbrev m : Inodes
  m = inodes_then s txs old is.set

  inode_page : (k : ℕ) → k ≤ iags was → IsInodePage m k (file_page r (page_of new) 16 k)
  unfolding map_rows covered
  inode_page k low =
      let p = unwrap_or (block_of (file_extents r (page_of old) 16) k) 0 in
      let at : block_of (file_extents r (page_of old) 16) k ≡ Some p =
      there (block_of (file_extents r (page_of old) 16) k) (all_pass (λ j. is_some (place was 16 j)) (suc (iags was)) k (eqb-true (covered was 16 (suc (iags was))) (suc (iags was)) were.1.0) (omega (arith, low))) in
      let in_place : IsInodeMapPlace was k p = record { low = low; is = at; last = λ j few e. (let same = apart.inodes j k p e at in omega (arith, same)) } in
      subst (IsInodePage m k) (stands 16 k p inode_extents at (inr (k, low, at))) (is.inode_map k p in_place).0

  groups : iags now ≡ iags was
  groups = let control = (inode_page 0 (omega arith)).control refl in sym control.held.nextiag ∙ control.canonical.nextiag

  extents_same : (e : ℕ) → e < 128 * iags was → extent_of m e ≡ extent_at now e
  extents_same e low =
      let iag = ((inode_page (suc (e / 128)) (omega (arith, low))).iag (e / 128) (omega arith)).2 in
      sym (sym (iag.held.inoext (e % 128) (omega arith)) ∙ iag.canonical.inoext (e % 128) (omega arith) ∙ ap (extent_of m) (let k : 128 * (e / 128) + e % 128 ≡ e = omega arith in k))

  number : length (extents_then s txs old) ≡ 128 * iags was
  unfolding extents_on
  number = extents-number (all_of txs) (volume was).extents ∙ length-map (range_with_len 0 (128 * iags was)) _ ∙ length-range_with_len 0 (128 * iags was)

  homes_same : (n : ℕ) → n < 4096 * iags was → home (extents_on r (page_of new)) n ≡ home (extents_then s txs old) n
  unfolding extents_on
  homes_same n low =
      ap (λ (o : Option ℕ). page_in o n) (
      get_or-map-range_with_len (extent_on r (page_of new)) 0 (128 * iags now) (n / 32) (n / 32) None (omega (arith, low, groups)) (omega arith)
      ∙ ap extent_place (sym (extents_same (n / 32) (omega (arith, low))) ∙ get_or-map extent_from (extents_then s txs old) (n / 32) None (record { len = 0; addr = 0 }) (omega (arith, low, number)))
      ∙ place_told (get_or (extents_then s txs old) (n / 32) None))

  in_use_same : (n : ℕ) → n < 4096 * iags was → (volume now).in_use n ≡ is_used m n
  unfolding is_inode_used
  in_use_same n low =
      let iag = ((inode_page (suc (n / 4096)) (omega (arith, low))).iag (n / 4096) (omega arith)).2 in
      let said : is_taken (range_of (iag_page r (page_of new) (n / 4096)) 2560 512) (n % 4096) ≡ is_used m n =
      ap (λ (a : List ℕ). is_taken a (n % 4096)) (sym iag.held.pmap) ∙ iag.canonical.pmap (n % 4096) (omega arith) ∙ ap (is_used m) (let k : 4096 * (n / 4096) + n % 4096 ≡ n = omega arith in k) in
      let live : is_used m n ≡ is_some (found_at (page_of is.redone) (extents_then s txs old) n) =
      sym ((same-sets is.set m.extents m.iags m.agsize m.numag).inodes n low) ∙ is.in_use.bits n (omega (arith, low, number)) in
      ap (λ (o : Option ℕ). is_some o && is_taken (range_of (iag_page r (page_of new) (n / 4096)) 2560 512) (n % 4096)) (homes_same n low)
      ∙ ap (λ (t : Bool). is_some (home (extents_then s txs old) n) && t) (said ∙ live)
      ∙ live_at_home (page_of is.redone) n (home (extents_then s txs old) n)
      ∙ sym live

  -- ---- both, where the volume is sound

  module _ (sound : IsSound r (volume now)) where
    taken_is : (b : ℕ) → is.taken b ≡ has_to_be_taken now b
    unfolding is_block_used
    taken_is b = by (cases_lt b (blocks_of s))
      where
        owned : is_owned now b ≡ (volume now).used b
        owned = ap (λ (n : ℕ). nat_lt 0 n) (sound.agrees.blocks b) ∙ some_bit ((volume now).used b)

        by : (b < blocks_of s) ⊎ (blocks_of s ≤ b) → is.taken b ≡ has_to_be_taken now b
        by (inr high) = is.taken_past b high ∙ sym (ap (λ (t : Bool). t || is_owned now b) (le-leb (blocks_of s) b high))
        by (inl low) =
            let k = b / 8192 in
            let dmap : IsDmapPage (blocks_of s) is.taken k (file_page r (page_of new) 2 (suc (suc (suc (suc k))))) = block_page (suc (suc (suc (suc k)))) (dmap_in_use (blocks_of s) b low) in
            let said : is_taken (range_of (file_page r (page_of new) 2 (4 + k)) 3072 1024) (b % 8192) ≡ is.taken b =
            ap (λ (j : ℕ). is_taken (range_of (file_page r (page_of new) 2 j) 3072 1024) (b % 8192)) (let e : 4 + k ≡ suc (suc (suc (suc k))) = omega arith in e)
            ∙ dmap.dmap.canonical.same (b % 8192) ∙ dmap.set (b % 8192) (omega (arith, low)) (omega arith) ∙ ap is.taken (let e : 8192 * k + b % 8192 ≡ b = omega arith in e) in
            sym (
            ap (λ (t : Bool). t || is_owned now b) (lt-leb (blocks_of s) b low)
            ∙ owned
            ∙ ap (λ (t : Bool). t && is_taken (range_of (file_page r (page_of new) 2 (4 + k)) 3072 1024) (b % 8192)) (lt-ltb b (blocks_of s) low)
            ∙ said)

    inodes_same : (n : ℕ) → n < 4096 * iags was → is_used m n ≡ is_some (object now n)
    inodes_same n low = sym (in_use_same n low) ∙ sound.agrees.inodes n

    inode_map : (k : ℕ) → k ≤ iags was → IsInodeMapPage now k
    inode_map zero low = subst (λ (n : ℕ). IsControl n) (sym groups) (control_page_as (is_used m) (λ n. is_some (object now n)) (extent_of m) (extent_at now) (iags was) inodes_same extents_same m.numag (file_page r (page_of new) 16 0) ((inode_page 0 low).control refl))
      where
        IsControl : ℕ → Type 0
        IsControl n = IsInodeControlAs (λ n. is_some (object now n)) (extent_at now) n (file_page r (page_of new) 16 0)
    inode_map (suc k) low =
        let iag = (inode_page (suc k) low).iag k (omega arith) in
        iag_page_as (λ i. is_used m (4096 * k + i)) (λ i. is_some (object now (4096 * k + i))) (λ e. extent_of m (128 * k + e)) (λ e. extent_at now (128 * k + e))
        (λ i small. inodes_same (4096 * k + i) (omega (arith, small, low))) (λ e small. extents_same (128 * k + e) (omega (arith, small, low)))
        k (k % m.numag * m.agsize) iag.0 (file_page r (page_of new) 16 (suc k)) iag.2

    pub maps_agree : MapsAgree now
    maps_agree = record {
      sets = sound.agrees;
      block_map = λ k used. map_page_as (blocks_of s) s.agsize is.taken (has_to_be_taken now) taken_is k (file_page r (page_of new) 2 k) (block_page k used);
      inode_map = λ k low. inode_map k (omega (arith, low, groups));
    }
