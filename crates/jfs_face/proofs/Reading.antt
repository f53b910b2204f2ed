-- A canonical page tells what the maps keep.
use Rattle.std.proofs.Common.{◌≡◌, ◌⊎◌, ◌<◌, ◌≤◌, ◌+◌, ◌*◌, ◌/◌, ◌%◌, ◌&&◌, ◌||◌, ◌==◌, not, nat_lt, nat_le, ℕ, suc, Bool, true, false, if◌then◌else◌, List, refl, sym, ap, ◌∙◌, inl, inr, arith}
use Rattle.std.proofs.lemmas.Bool.{cases_Bool, cond-true, cond-false, eq-eqb, ltb-true, lt-ltb, le-leb, and_from, or_left, or_right}
use Rattle.jfs_bits.specs.Bits.{is_taken}
use Rattle.jfs_bits.specs.Field.{range_of}
use Rattle.jfs_bits.specs.Descriptor.{pxd_of}
use Rattle.jfs_bits.specs.declared.descriptor.Pxd.{Pxd}
use Rattle.jfs_bits.proofs.Buds.{any_below-from}
use Rattle.jfs_iag.specs.Iag.{no_run}
use Rattle.jfs_steps.specs.bmap.specs.MapFile.{pages_of, is_in_use, IsDmapPage}
use Rattle.jfs_recovery.specs.Face.{Item, Value, Pages}
use Rattle.jfs_recovery.specs.Face.Item.{BlockBit, ExtentPlace}
use Rattle.jfs_recovery.specs.Face.Value.{InUse, At}
use Rattle.jfs_face.specs.Places.{Places, is_block_page, is_inode_page, is_map_page}
use Rattle.jfs_face.specs.Items.{home, read, places, used_by, extent_by, no_block, no_extent}
use Rattle.jfs_face.specs.MapPages.{IsCanonicalPage, IsInodeMapPage, taken_by, inode_used_by}

-- ---- where items stand

pub dmap_in_use : (blocks b : ℕ) → b < blocks → is_in_use blocks (suc (suc (suc (suc (b / 8192))))) ≡ true
dmap_in_use blocks b h =
    let k = suc (suc (suc (suc (b / 8192)))) in
    or_right (k == 0) (nat_le 3 k && nat_lt k (pages_of blocks)) (and_from (nat_le 3 k) (nat_lt k (pages_of blocks)) (le-leb 3 k (omega arith)) (lt-ltb k (pages_of blocks) (omega arith)))

control_in_use : (blocks : ℕ) → is_in_use blocks 0 ≡ true
control_in_use blocks = refl

pub block_page : (pl : Places) (k : ℕ) → k < pages_of pl.blocks → is_in_use pl.blocks k ≡ true → is_map_page pl (pl.block_map k) ≡ true
block_page pl k low used =
    let p = pl.block_map k in
    or_left (is_block_page pl p) (is_inode_page pl p)
    (any_below-from (pages_of pl.blocks) (λ j. is_in_use pl.blocks j && pl.block_map j == p) k low (and_from (is_in_use pl.blocks k) (p == p) used (eq-eqb p p refl)))

pub inode_page : (pl : Places) (k : ℕ) → k ≤ pl.iags → is_map_page pl (pl.inode_map k) ≡ true
inode_page pl k low =
    let p = pl.inode_map k in
    or_right (is_block_page pl p) (is_inode_page pl p) (any_below-from (suc pl.iags) (λ j. pl.inode_map j == p) k (omega arith) (eq-eqb p p refl))

no_block_there : (pl : Places) → is_map_page pl (no_block pl) ≡ true
no_block_there pl = at (cases_Bool (nat_lt 0 pl.blocks))
  where
    at : (nat_lt 0 pl.blocks ≡ true) ⊎ (nat_lt 0 pl.blocks ≡ false) → is_map_page pl (no_block pl) ≡ true
    at (inl e) =
        let some = ltb-true 0 pl.blocks e in
        ap (is_map_page pl) (cond-true (nat_lt 0 pl.blocks) (pl.block_map 4) (pl.block_map 0) e) ∙ block_page pl 4 (omega (arith, some)) (dmap_in_use pl.blocks 0 some)
    at (inr e) = ap (is_map_page pl) (cond-false (nat_lt 0 pl.blocks) (pl.block_map 4) (pl.block_map 0) e) ∙ block_page pl 0 (omega arith) (control_in_use pl.blocks)

no_extent_there : (pl : Places) → is_map_page pl (no_extent pl) ≡ true
no_extent_there pl = at (cases_Bool (nat_lt 0 (places pl)))
  where
    at : (nat_lt 0 (places pl) ≡ true) ⊎ (nat_lt 0 (places pl) ≡ false) → is_map_page pl (no_extent pl) ≡ true
    at (inl e) = let some = ltb-true 0 (places pl) e in ap (is_map_page pl) (cond-true (nat_lt 0 (places pl)) (pl.inode_map 1) (pl.inode_map 0) e) ∙ inode_page pl 1 (omega (arith, some))
    at (inr e) = ap (is_map_page pl) (cond-false (nat_lt 0 (places pl)) (pl.inode_map 1) (pl.inode_map 0) e) ∙ inode_page pl 0 (omega arith)

pub at_home : (pl : Places) (i : Item) → is_map_page pl (home pl i) ≡ true
at_home pl (BlockBit b) = at (cases_Bool (nat_lt b pl.blocks))
  where
    there : ℕ
    there = pl.block_map (suc (suc (suc (suc (b / 8192)))))

    at : (nat_lt b pl.blocks ≡ true) ⊎ (nat_lt b pl.blocks ≡ false) → is_map_page pl (home pl (BlockBit b)) ≡ true
    at (inl e) =
        let within = ltb-true b pl.blocks e in
        ap (is_map_page pl) (cond-true (nat_lt b pl.blocks) there (no_block pl) e)
        ∙ block_page pl (suc (suc (suc (suc (b / 8192))))) (omega (arith, within)) (dmap_in_use pl.blocks b within)
    at (inr e) = ap (is_map_page pl) (cond-false (nat_lt b pl.blocks) there (no_block pl) e) ∙ no_block_there pl
at_home pl (ExtentPlace e) = at (cases_Bool (nat_lt e (places pl)))
  where
    at : (nat_lt e (places pl) ≡ true) ⊎ (nat_lt e (places pl) ≡ false) → is_map_page pl (home pl (ExtentPlace e)) ≡ true
    at (inl t) =
        let within = ltb-true e (places pl) t in
        ap (is_map_page pl) (cond-true (nat_lt e (places pl)) (pl.inode_map (suc (e / 128))) (no_extent pl) t) ∙ inode_page pl (suc (e / 128)) (omega (arith, within))
    at (inr t) = ap (is_map_page pl) (cond-false (nat_lt e (places pl)) (pl.inode_map (suc (e / 128))) (no_extent pl) t) ∙ no_extent_there pl

-- ---- what they say

block_said : (pl : Places) (s : Pages) (items : Item → Value) (b : ℕ) (page : List ℕ) → nat_lt b pl.blocks ≡ true → IsCanonicalPage pl s items (home pl (BlockBit b)) page →
    is_taken (range_of page 3072 1024) (b % 8192) ≡ used_by items b
block_said pl s items b page e m =
    let within = ltb-true b pl.blocks e in
    let k = b / 8192 in
    let here : pl.block_map (suc (suc (suc (suc k)))) ≡ home pl (BlockBit b) = sym (cond-true (nat_lt b pl.blocks) (pl.block_map (suc (suc (suc (suc k))))) (no_block pl) e) in
    let dmap : IsDmapPage pl.blocks (taken_by pl items) k page = m.block_map (suc (suc (suc (suc k)))) (dmap_in_use pl.blocks b within) here in
    let place : 8192 * k + b % 8192 ≡ b = omega arith in
    dmap.dmap.canonical.same (b % 8192)
    ∙ dmap.set (b % 8192) (omega (arith, within)) (omega arith)
    ∙ ap (λ (x : ℕ). taken_by pl items x) place
    ∙ ap (λ (t : Bool). not t || used_by items b) e

extent_said : (pl : Places) (s : Pages) (items : Item → Value) (e : ℕ) (page : List ℕ) → nat_lt e (places pl) ≡ true → IsCanonicalPage pl s items (home pl (ExtentPlace e)) page →
    pxd_of page (3072 + 8 * (e % 128)) ≡ extent_by items e
extent_said pl s items e page t m =
    let within = ltb-true e (places pl) t in
    let k = e / 128 in
    let here : pl.inode_map (suc k) ≡ home pl (ExtentPlace e) = sym (cond-true (nat_lt e (places pl)) (pl.inode_map (suc k)) (no_extent pl) t) in
    let iag : IsInodeMapPage pl (inode_used_by pl s items) (extent_by items) (suc k) page = m.inode_map (suc k) (omega (arith, within)) here in
    let is = iag.2 in
    let place : 128 * k + e % 128 ≡ e = omega arith in
    sym (is.held.inoext (e % 128) (omega arith)) ∙ is.canonical.inoext (e % 128) (omega arith) ∙ ap (extent_by items) place

pub read_back : (pl : Places) (s : Pages) (items : Item → Value) (i : Item) (page : List ℕ) → IsCanonicalPage pl s items (home pl i) page → read pl i page ≡ items i
read_back pl s items (BlockBit b) page m = at (cases_Bool (nat_lt b pl.blocks))
  where
    at : (nat_lt b pl.blocks ≡ true) ⊎ (nat_lt b pl.blocks ≡ false) → read pl (BlockBit b) page ≡ items (BlockBit b)
    at (inl e) = ap (λ (t : Bool). InUse (nat_lt b pl.blocks && t)) (block_said pl s items b page e m) ∙ sym (m.kept.blocks b)
    at (inr e) =
        ap (λ (t : Bool). InUse (t && is_taken (range_of page 3072 1024) (b % 8192))) e ∙ sym (ap (λ (t : Bool). InUse (t && used_by items b)) e) ∙ sym (m.kept.blocks b)
read_back pl s items (ExtentPlace e) page m = at (cases_Bool (nat_lt e (places pl)))
  where
    at : (nat_lt e (places pl) ≡ true) ⊎ (nat_lt e (places pl) ≡ false) → read pl (ExtentPlace e) page ≡ items (ExtentPlace e)
    at (inl t) = ap (λ (p : Pxd). At (if nat_lt e (places pl) then p else no_run)) (extent_said pl s items e page t m) ∙ sym (m.kept.extents e)
    at (inr t) =
        ap At (cond-false (nat_lt e (places pl)) (pxd_of page (3072 + 8 * (e % 128))) no_run t ∙ sym (cond-false (nat_lt e (places pl)) (extent_by items e) no_run t)) ∙ sym (m.kept.extents e)
