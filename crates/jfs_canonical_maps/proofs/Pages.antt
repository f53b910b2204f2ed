-- In each place of a map a canonical page.
use Rattle.std.proofs.Common.{◌≡◌, ◌⊎◌, ◌<◌, ◌≤◌, ◌==◌, ◌&&◌, ℕ, zero, suc, Bool, true, false, if◌then◌else◌, List, length, inl, inr, sym, ◌∙◌, subst, arith}
use Rattle.std.proofs.lemmas.Bool.{cases_Bool, cond-true, cond-false, eqb-true, and_parts, or_cases, true≢false}
use Rattle.jfs_bits.specs.Bits.{any_below}
use Rattle.jfs_bits.specs.declared.descriptor.Pxd.{Pxd}
use Rattle.jfs_map_bytes.specs.BlockMap.{block_map_bytes}
use Rattle.jfs_map_bytes.specs.InodeMap.{links_of, inode_map_bytes}
use Rattle.jfs_map_bytes.specs.Laws.{FitsInodeMap, IsInodePage}
use Rattle.jfs_map_bytes.proofs.Whole.{block_pages, inode_pages}
use Rattle.jfs_face.specs.steps.specs.bmap.specs.MapFile.{pages_of, is_in_use, IsMapPage}
use Rattle.jfs_face.specs.recovery.specs.Face.{Pages, Item, Value}
use Rattle.jfs_face.specs.Places.{Places, is_block_page, is_inode_page}
use Rattle.jfs_face.specs.Items.{extent_by}
use Rattle.jfs_face.specs.MapPages.{taken_by, inode_used_by, IsInodeMapPage, IsCanonicalPage}
use Rattle.jfs_canonical_maps.specs.Places.{FitMaps, HaveOwnPlaces}
use Rattle.jfs_canonical_maps.specs.Images.{last_that, block_number, inode_number, map_page}
use Rattle.jfs_canonical_maps.specs.Laws.{FitItems, MapPageLaw}

-- ---- which page it is

last-is : (n : ℕ) (test : ℕ → Bool) → any_below n test ≡ true → (last_that n test < n) × (test (last_that n test) ≡ true)
unfolding last_that any_below
last-is zero test h = absurd (true≢false (sym h))
last-is (suc n) test h = at (cases_Bool (test n)) (last-is n test)
  where
    rest : ℕ
    rest = last_that n test

    Found : ℕ → Type 0
    Found k = (k < suc n) × (test k ≡ true)

    at : (test n ≡ true) ⊎ (test n ≡ false) → (any_below n test ≡ true → (rest < n) × (test rest ≡ true)) → Found (if test n then n else rest)
    at (inl e) more = subst Found (sym (cond-true (test n) n rest e)) (omega arith, e)
    at (inr e) more = subst Found (sym (cond-false (test n) n rest e)) (below (or_cases (any_below n test) (test n) h))
      where
        below : (any_below n test ≡ true) ⊎ (test n ≡ true) → Found rest
        below (inl some) = let found = more some in let within = found.0 in (omega (arith, within), found.1)
        below (inr this) = absurd (true≢false (sym this ∙ e))

record IsBlockNumber (pl : Places) (p n : ℕ) : Type 0 where
  within : n < pages_of pl.blocks
  used : is_in_use pl.blocks n ≡ true
  here : pl.block_map n ≡ p

block-number : (pl : Places) (p : ℕ) → is_block_page pl p ≡ true → IsBlockNumber pl p (block_number pl p)
block-number pl p e =
    let found = last-is (pages_of pl.blocks) (λ k. is_in_use pl.blocks k && pl.block_map k == p) e in
    let n = block_number pl p in
    let both = and_parts (is_in_use pl.blocks n) (pl.block_map n == p) found.1 in
    record { within = found.0; used = both.0; here = eqb-true (pl.block_map n) p both.1 }

record IsInodeNumber (pl : Places) (p n : ℕ) : Type 0 where
  within : n ≤ pl.iags
  here : pl.inode_map n ≡ p

inode-number : (pl : Places) (p : ℕ) → is_inode_page pl p ≡ true → IsInodeNumber pl p (inode_number pl p)
inode-number pl p e =
    let found = last-is (suc pl.iags) (λ k. pl.inode_map k == p) e in
    let within = found.0 in
    let n = inode_number pl p in
    record { within = omega (arith, within); here = eqb-true (pl.inode_map n) p found.1 }

-- ---- its bytes

block-size : (blocks agsize n : ℕ) (taken : ℕ → Bool) (page : List ℕ) → IsMapPage blocks agsize taken n page → length page ≡ 4096
block-size blocks agsize zero taken page c = c.size
block-size blocks agsize (suc zero) taken page c = c.size
block-size blocks agsize (suc (suc zero)) taken page c = c.size
block-size blocks agsize (suc (suc (suc zero))) taken page c = c.size
block-size blocks agsize (suc (suc (suc (suc k)))) taken page c = c.dmap.canonical.size

inode-size : (taken : ℕ → Bool) (extent : ℕ → Pxd) (iags numag agsize n : ℕ) (page : List ℕ) → IsInodePage taken extent iags numag agsize n page → length page ≡ 4096
inode-size taken extent iags numag agsize zero page c = c.size
inode-size taken extent iags numag agsize (suc k) page c = c.1.size

as-seen : (pl : Places) (taken : ℕ → Bool) (extent : ℕ → Pxd) (n : ℕ) (page : List ℕ) → IsInodePage taken extent pl.iags pl.numag pl.agsize n page → IsInodeMapPage pl taken extent n page
as-seen pl taken extent zero page c = c
as-seen pl taken extent (suc k) page c = (links_of taken extent pl.iags pl.numag k, c.0, c.1)

block_canonical : (pl : Places) (s : Pages) (items : Item → Value) (p n : ℕ) → FitMaps pl → HaveOwnPlaces pl → FitItems pl items → IsBlockNumber pl p n → IsCanonicalPage pl s items p (block_map_bytes pl.blocks pl.agsize (taken_by pl items) n)
block_canonical pl s items p n fits own fit is =
    let taken : ℕ → Bool = taken_by pl items in
    let page : List ℕ = block_map_bytes pl.blocks pl.agsize taken n in
    let there = block_pages pl.blocks pl.agsize n taken fits.block_map is.within in
    record {
      size = block-size pl.blocks pl.agsize n taken page there.canonical;
      bytes = there.bytes;
      kept = fit.kept;
      block_map = λ k used here. subst (λ (j : ℕ). IsMapPage pl.blocks pl.agsize taken j page) (own.block_map n k is.used used (is.here ∙ sym here)) there.canonical;
      inode_map = λ k low here. absurd (own.both n k is.used low (is.here ∙ sym here));
    }

inode_canonical : (pl : Places) (s : Pages) (items : Item → Value) (p n : ℕ) → FitMaps pl → HaveOwnPlaces pl → FitItems pl items → IsInodeNumber pl p n →
    IsCanonicalPage pl s items p (inode_map_bytes (inode_used_by pl s items) (extent_by items) pl.iags pl.numag pl.agsize n)
inode_canonical pl s items p n fits own fit is =
    let used : ℕ → Bool = inode_used_by pl s items in
    let extent : ℕ → Pxd = extent_by items in
    let page : List ℕ = inode_map_bytes used extent pl.iags pl.numag pl.agsize n in
    let sizes : FitsInodeMap extent pl.iags pl.numag pl.agsize = record { most = fits.iags; groups = fits.groups; group_size = fits.block_map.group_size; extents = fit.extents } in
    let there = inode_pages used extent pl.iags pl.numag pl.agsize n sizes is.within in
    record {
      size = inode-size used extent pl.iags pl.numag pl.agsize n page there.canonical;
      bytes = there.bytes;
      kept = fit.kept;
      block_map = λ k in_use here. absurd (own.both k n in_use is.within (here ∙ sym is.here));
      inode_map = λ k low here. subst (λ (j : ℕ). IsInodeMapPage pl used extent j page) (own.inode_map n k is.within low (is.here ∙ sym here)) (as-seen pl used extent n page there.canonical);
    }

pub map_pages : MapPageLaw
unfolding map_page
map_pages pl s items p fits own fit is_map = at (cases_Bool (is_block_page pl p))
  where
    block : List ℕ
    block = block_map_bytes pl.blocks pl.agsize (taken_by pl items) (block_number pl p)

    inode : List ℕ
    inode = inode_map_bytes (inode_used_by pl s items) (extent_by items) pl.iags pl.numag pl.agsize (inode_number pl p)

    at : (is_block_page pl p ≡ true) ⊎ (is_block_page pl p ≡ false) → IsCanonicalPage pl s items p (if is_block_page pl p then block else inode)
    at (inl e) = subst (λ (z : List ℕ). IsCanonicalPage pl s items p z) (sym (cond-true (is_block_page pl p) block inode e)) (block_canonical pl s items p (block_number pl p) fits own fit (block-number pl p e))
    at (inr e) = subst (λ (z : List ℕ). IsCanonicalPage pl s items p z) (sym (cond-false (is_block_page pl p) block inode e)) (inode_canonical pl s items p (inode_number pl p) fits own fit (inode-number pl p (other (or_cases (is_block_page pl p) (is_inode_page pl p) is_map))))
      where
        other : (is_block_page pl p ≡ true) ⊎ (is_inode_page pl p ≡ true) → is_inode_page pl p ≡ true
        other (inl this) = absurd (true≢false (sym this ∙ e))
        other (inr this) = this
