-- The sets and the inode extents of a new volume.
use Rattle.std.proofs.Common.{◌≡◌, ◌≤◌, ◌<◌, refl, sym, ap, ap₂, ◌∙◌, subst, ℕ, zero, suc, ◌+◌, ◌-◌, ◌*◌, ◌/◌, ◌%◌, Bool, true, false, ◌&&◌, ◌||◌, ◌==◌, ◌⊎◌, nat_le, nat_lt, if◌then◌else◌, List, get_or, replicate, map, Option, Some, None, is_some, inl, inr, arith}
use Rattle.std.specs.List.{range_with_len}
use Rattle.std.proofs.lemmas.Bool.{cases_lt}
use Rattle.std.proofs.lemmas.Bool.Decides.{nat_tests}
use Rattle.std.proofs.lemmas.List.FromFn.{get_or-map-range_with_len, length-map-range_with_len}
use Rattle.jfs_bits.specs.Bits.{is_taken, is_in_run}
use Rattle.jfs_bits.specs.Descriptor.{pxd_of}
use Rattle.jfs_bits.specs.Field.{field_of, range_of}
use Rattle.jfs_disk.specs.Image.{Image, page_of}
use Rattle.jfs_iag.specs.Iag.{no_run}
use Rattle.jfs_iag.specs.declared.canonical.Links.{Links}
use Rattle.jfs_iag.specs.Canonical.{IsIagPage}
use Rattle.jfs_format.specs.imap.specs.Inodes.{is_used, extent_at}
use Rattle.jfs_format.specs.bmap.specs.MapFile.{IsMapPage, IsDmapPage}
use Rattle.jfs_meaning.specs.objects.specs.Readers.{Readers}
use Rattle.jfs_meaning.specs.objects.specs.Volume.{home, page_in}
use Rattle.jfs_meaning.specs.objects.specs.Owners.{extent_has, extents_have}
use Rattle.jfs_meaning.specs.objects.specs.Image.{file_page, iag_page, iags_on, extent_place, extent_on, extents_on, is_block_used, is_inode_used}
use Rattle.jfs_meaning.specs.objects.proofs.Owned.{get_past}
use Rattle.jfs_format.specs.Layout.{IsLayout, map_pages, inode_map, first_inodes, owned_blocks, is_taken_block}
use Rattle.jfs_format.specs.Inodes.{in_use}
use Rattle.jfs_format.specs.Volume.{inodes_in, IsNewVolume}
use Rattle.jfs_format.specs.declared.tables.Table.TheVariants.{Fileset}
use Rattle.jfs_format.specs.declared.volume.NewVolume.{NewVolume}
use Rattle.jfs_new_volume.specs.Roots.{ReadsRoots}
use Rattle.jfs_new_volume.proofs.Files.{page_is}

-- a list of none has no block
have_none : (f : ℕ → Option ℕ) (a m b : ℕ) → ((k : ℕ) → a ≤ k → k < a + m → f k ≡ None) → extents_have (map f (range_with_len a m)) b ≡ 0
have_none f a zero b h = refl
have_none f a (suc m) b h =
    let here = ap (λ o. extent_has o b) (h a (omega arith) (omega arith)) in
    let rest = have_none f (a + 1) m b (λ k l w. h k (omega (arith, l)) (omega (arith, w))) in
    omega (arith, here, rest)

-- where the first one alone is there
have_first : (f : ℕ → Option ℕ) (first m b : ℕ) → 0 < m → f 0 ≡ Some first → ((k : ℕ) → 0 < k → k < m → f k ≡ None) → extents_have (map f (range_with_len 0 m)) b ≡ extent_has (Some first) b
have_first f first zero b l h k = absurd (omega (arith, l))
have_first f first (suc m) b l h k =
    let here = ap (λ o. extent_has o b) h in
    let rest = have_none f 1 m b (λ j i w. k j (omega (arith, i)) (omega (arith, w))) in
    omega (arith, here, rest)

module _ (r : Readers) (pages : ℕ) (v : NewVolume) (image : Image) (layout : IsLayout pages v.layout) (roots : ReadsRoots r v.layout.blocks) (is : IsNewVolume v image) where
  inode_page : (j : ℕ) → j < 1 + v.layout.iags → file_page r (page_of image) 16 j ≡ page_of image (inode_map v.layout + j)
  inode_page j l = page_is r v image roots is 16 (record { len = 1 + v.layout.iags; addr = inode_map v.layout }) (omega arith) (omega arith)
      (let w = layout.within in omega (arith, w)) refl j l

  some_iags : 0 < v.layout.iags
  some_iags = let e = layout.each_group in let g = layout.some_groups in omega (arith, e, g)

  pub iags_are : iags_on r (page_of image) ≡ v.layout.iags
  iags_are =
      let control = (is.rest.inode_map 0 (omega arith)).control refl in
      ap (λ (p : List ℕ). field_of p 4 4) (inode_page 0 (omega arith)) ∙ sym control.held.nextiag ∙ control.canonical.nextiag

  iag_is : (k : ℕ) → k < v.layout.iags → iag_page r (page_of image) k ≡ page_of image (inode_map v.layout + suc k)
  iag_is k l = inode_page (suc k) (omega (arith, l))

  on_iag : (k : ℕ) → k < v.layout.iags → (links : Links) × IsIagPage (λ i. is_used (inodes_in Fileset v.layout) (4096 * k + i)) (λ e. extent_at (inodes_in Fileset v.layout) (128 * k + e)) k (k % v.layout.groups * v.layout.agsize) links (page_of image (inode_map v.layout + suc k))
  on_iag k l = let p = (is.rest.inode_map (suc k) (omega (arith, l))).iag k (omega arith) in (p.0, p.2)

  no_run_at : (n i : ℕ) → get_or (replicate n no_run) i no_run ≡ no_run
  no_run_at zero i = refl
  no_run_at (suc n) zero = refl
  no_run_at (suc n) (suc i) = no_run_at n i

  later_extent : (e : ℕ) → 0 < e → extent_at (inodes_in Fileset v.layout) e ≡ no_run
  later_extent zero l = absurd (omega (arith, l))
  later_extent (suc e) l = no_run_at (128 * v.layout.iags - 1) e

  pub extent_is : (e : ℕ) → e < 128 * v.layout.iags → extent_on r (page_of image) e ≡ extent_place (extent_at (inodes_in Fileset v.layout) e)
  extent_is e l =
      let k : e / 128 < v.layout.iags = omega (arith, l) in
      let page = (on_iag (e / 128) k).1 in
      let same : 128 * (e / 128) + e % 128 ≡ e = omega arith in
      ap extent_place (
      ap (λ (p : List ℕ). pxd_of p (3072 + 8 * (e % 128))) (iag_is (e / 128) k)
      ∙ sym (page.held.inoext (e % 128) (omega arith))
      ∙ page.canonical.inoext (e % 128) (omega arith)
      ∙ ap (extent_at (inodes_in Fileset v.layout)) same)

  first_is : extent_on r (page_of image) 0 ≡ Some (first_inodes v.layout)
  first_is = extent_is 0 (let s = some_iags in omega (arith, s))

  later_is : (e : ℕ) → 0 < e → e < 128 * v.layout.iags → extent_on r (page_of image) e ≡ None
  later_is e l w = extent_is e w ∙ ap extent_place (later_extent e l)

  -- the list of places
  place_is : (i : ℕ) → get_or (extents_on r (page_of image)) i None ≡ (if i == 0 then Some (first_inodes v.layout) else None)
  unfolding extents_on
  place_is i = ap (λ n. get_or (map (extent_on r (page_of image)) (range_with_len 0 (128 * n))) i None) iags_are ∙ by i (cases_lt i (128 * v.layout.iags))
    where
      none : (i : ℕ) → None ≡ (if suc i == 0 then Some (first_inodes v.layout) else None)
      none i = sym (ap (λ (x : Bool). if x then Some (first_inodes v.layout) else None) (zero_not i))
        where
          zero_not : (i : ℕ) → (suc i == 0) ≡ false
          zero_not i = grind (arith, nat_tests)

      by : (i : ℕ) → (i < 128 * v.layout.iags) ⊎ (128 * v.layout.iags ≤ i) → get_or (map (extent_on r (page_of image)) (range_with_len 0 (128 * v.layout.iags))) i None ≡ (if i == 0 then Some (first_inodes v.layout) else None)
      by zero (inl l) = get_or-map-range_with_len (extent_on r (page_of image)) 0 (128 * v.layout.iags) 0 0 None l refl ∙ first_is
      by (suc i) (inl l) = get_or-map-range_with_len (extent_on r (page_of image)) 0 (128 * v.layout.iags) (suc i) (suc i) None l (omega arith) ∙ later_is (suc i) (omega arith) l ∙ none i
      by zero (inr l) = absurd (let s = some_iags in omega (arith, s, l))
      by (suc i) (inr l) = get_past (map (extent_on r (page_of image)) (range_with_len 0 (128 * v.layout.iags))) (suc i) (let e = length-map-range_with_len (extent_on r (page_of image)) 0 (128 * v.layout.iags) in omega (arith, e, l)) ∙ none i

  pub home_is : (n : ℕ) → home (extents_on r (page_of image)) n ≡ page_in (if n / 32 == 0 then Some (first_inodes v.layout) else None) n
  home_is n = ap (λ o. page_in o n) (place_is (n / 32))

  pub extents_have_it : (b : ℕ) → extents_have (extents_on r (page_of image)) b ≡ extent_has (Some (first_inodes v.layout)) b
  unfolding extents_on
  extents_have_it b =
      ap (λ n. extents_have (map (extent_on r (page_of image)) (range_with_len 0 (128 * n))) b) iags_are
      ∙ have_map (128 * v.layout.iags) (let s = some_iags in omega (arith, s)) (extent_on r (page_of image)) first_is later_is
    where
      have_map : (m : ℕ) → 0 < m → (f : ℕ → Option ℕ) → f 0 ≡ Some (first_inodes v.layout) → ((e : ℕ) → 0 < e → e < m → f e ≡ None) → extents_have (map f (range_with_len 0 m)) b ≡ extent_has (Some (first_inodes v.layout)) b
      have_map m l f h k = have_first f (first_inodes v.layout) m b l h k

  -- ---- the two sets

  dmap_on : (k : ℕ) → k < v.layout.dmaps → IsDmapPage v.layout.blocks (is_taken_block v.layout) k (page_of image (16 + (4 + k)))
  dmap_on k l = subst (λ n. IsMapPage v.layout.blocks v.layout.agsize (is_taken_block v.layout) n (page_of image (16 + n)) → IsDmapPage v.layout.blocks (is_taken_block v.layout) k (page_of image (16 + n))) (four k) (λ p. p) (is.rest.block_map (4 + k) (omega (arith, l)))
    where
      four : (k : ℕ) → suc (suc (suc (suc k))) ≡ 4 + k
      four k = omega arith

  pub block_is : (b : ℕ) → is_block_used r (page_of image) v.layout.blocks b ≡ nat_lt b (owned_blocks v.layout)
  unfolding is_block_used
  block_is b = elim (cases_lt b v.layout.blocks) [
    | inl l ↦ (
        let k : b / 8192 < v.layout.dmaps = (let d = layout.dmaps in omega (arith, d, l)) in
        let page = dmap_on (b / 8192) k in
        let same : 8192 * (b / 8192) + b % 8192 ≡ b = omega arith in
        ap (λ (x : Bool). x && is_taken (range_of (file_page r (page_of image) 2 (4 + b / 8192)) 3072 1024) (b % 8192)) (is_less b v.layout.blocks l)
        ∙ ap (λ (p : List ℕ). is_taken (range_of p 3072 1024) (b % 8192)) (page_is r v image roots is 2 (record { len = map_pages v.layout; addr = 16 }) (omega arith) (omega arith)
        (let w = layout.within in omega (arith, w)) refl (4 + b / 8192) (omega (arith, k)))
        ∙ page.dmap.canonical.same (b % 8192) ∙ page.set (b % 8192) (omega (arith, l)) (omega arith)
        ∙ ap (is_taken_block v.layout) same ∙ within b (owned_blocks v.layout) v.layout.blocks l)
    | inr l ↦ (let w = layout.within in past b (owned_blocks v.layout) v.layout.blocks (is_taken (range_of (file_page r (page_of image) 2 (4 + b / 8192)) 3072 1024) (b % 8192)) l w)
  ]
    where
      is_less : (b n : ℕ) → b < n → nat_lt b n ≡ true
      is_less b n l = grind (arith, nat_tests)

      within : (b m n : ℕ) → b < n → (nat_lt b m || nat_le n b) ≡ nat_lt b m
      within b m n l = grind (arith, nat_tests)

      past : (b m n : ℕ) (x : Bool) → n ≤ b → m < n → (nat_lt b n && x) ≡ nat_lt b m
      past b m n x l w = grind (arith, nat_tests)

  taken_is : (n : ℕ) → n < 4096 → is_used (inodes_in Fileset v.layout) (4096 * 0 + n) ≡ nat_lt n 4
  taken_is n l =
      get_or-map-range_with_len (in_use Fileset) 0 (4096 * v.layout.iags) (4096 * 0 + n) n false (let s = some_iags in omega (arith, s, l)) (omega arith)
      ∙ low n
    where
      low : (n : ℕ) → is_in_run 0 4 n ≡ nat_lt n 4
      low n = grind (arith, nat_tests)

  pub inode_is : (n : ℕ) → is_inode_used r (page_of image) n ≡ nat_lt n 4
  unfolding is_inode_used
  inode_is n = elim (cases_lt n 32) [
    | inl l ↦ (
        let there : n / 32 ≡ 0 = omega (arith, l) in
        let low : n % 4096 ≡ n = omega (arith, l) in
        let first : n / 4096 ≡ 0 = omega (arith, l) in
        let page = (on_iag 0 some_iags).1 in
        ap (λ o. is_some o && is_taken (range_of (iag_page r (page_of image) (n / 4096)) 2560 512) (n % 4096)) (home_is n ∙ ap (λ (k : ℕ). page_in (if k == 0 then Some (first_inodes v.layout) else None) n) there)
        ∙ ap₂ (λ (k j : ℕ). is_taken (range_of (iag_page r (page_of image) k) 2560 512) j) first low
        ∙ ap (λ (p : List ℕ). is_taken (range_of p 2560 512) n) (iag_is 0 some_iags)
        ∙ ap (λ (bits : List ℕ). is_taken bits n) (sym page.held.pmap)
        ∙ page.canonical.pmap n (omega (arith, l)) ∙ taken_is n (omega (arith, l)))
    | inr l ↦ ap (λ o. is_some o && is_taken (range_of (iag_page r (page_of image) (n / 4096)) 2560 512) (n % 4096)) (home_is n ∙ ap (λ (x : Bool). page_in (if x then Some (first_inodes v.layout) else None) n) (later n l)) ∙ sym (late n l)
  ]
    where
      later : (n : ℕ) → 32 ≤ n → (n / 32 == 0) ≡ false
      later n l = not_zero (n / 32) (omega (arith, l))
        where
          not_zero : (k : ℕ) → 0 < k → (k == 0) ≡ false
          not_zero k l = grind (arith, nat_tests)

      late : (n : ℕ) → 32 ≤ n → nat_lt n 4 ≡ false
      late n l = grind (arith, nat_tests)
