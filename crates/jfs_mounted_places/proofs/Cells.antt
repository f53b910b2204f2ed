-- The cells of the maps' pages in which blocks and inode extents stand are those of the canonical pages.
use Rattle.std.proofs.Common.{◌≡◌, ◌⊎◌, ◌<◌, ◌≤◌, ◌+◌, ◌-◌, ◌*◌, ◌/◌, ◌%◌, ◌&&◌, nat_lt, ℕ, suc, Bool, true, List, length, refl, sym, ap, ◌∙◌, subst, inl, inr, arith}
use Rattle.std.proofs.lemmas.Bool.{cases_lt, cond-true, cond-false, lt-ltb, le-ltb}
use Rattle.jfs_bits.specs.Bits.{is_taken}
use Rattle.jfs_bits.specs.Descriptor.{pxd_of}
use Rattle.jfs_bits.specs.Field.{range_of}
use Rattle.jfs_bits.proofs.Places.{SameAt}
use Rattle.jfs_bits.proofs.SameMaps.{map-same, pxd-same}
use Rattle.jfs_iag.specs.Iag.{no_run}
use Rattle.jfs_shown.specs.bmap.specs.MapFile.{is_in_use, IsDmapPage}
use Rattle.jfs_held_volumes.specs.survival.specs.recovery.specs.crash_core.specs.Sound.{SameCell}
use Rattle.jfs_held_volumes.specs.survival.specs.recovery.specs.Face.{Pages, Item}
use Rattle.jfs_held_volumes.specs.survival.specs.recovery.specs.Face.Item.{BlockBit, ExtentPlace}
use Rattle.jfs_held_volumes.specs.survival.specs.face.specs.Items.{places, place_of, bit_of, read, home, cell, no_block, no_extent}
use Rattle.jfs_held_volumes.specs.survival.specs.face.specs.MapPages.{IsCanonicalPage, taken_by}
use Rattle.jfs_held_volumes.specs.survival.specs.face.specs.Places.{Places, is_map_page}
use Rattle.jfs_held_volumes.specs.survival.specs.face.specs.Volume.{items_on}
use Rattle.jfs_held_volumes.specs.survival.specs.face.proofs.Reading.{read_back, at_home, dmap_in_use, block_page, inode_page}
use Rattle.jfs_held_volumes.specs.canonical_maps.specs.Laws.{HasMapBytes}
use Rattle.jfs_mounted_places.specs.Mounted.{SetsPast}
use Rattle.jfs_mounted_places.proofs.Places.{in_file}

module _ (pl : Places) (low image : Pages) (some : 0 < pl.blocks) (groups : 0 < pl.iags) (sizes : (p : ℕ) → length (low p) ≡ 4096) (bytes : HasMapBytes pl low) (past : SetsPast pl low)
    (canonical : (p : ℕ) → is_map_page pl p ≡ true → IsCanonicalPage pl low (items_on pl low) p (image p)) where
  -- what both say of an item
  both_say : (i : Item) → read pl i (image (home pl i)) ≡ read pl i (low (home pl i))
  both_say i = read_back pl low (items_on pl low) i (image (home pl i)) (canonical (home pl i) (at_home pl i))

  -- ---- a dmap

  module _ (k : ℕ) (used : is_in_use pl.blocks (suc (suc (suc (suc k)))) ≡ true) where
    abbrev p : ℕ
    p = pl.block_map (suc (suc (suc (suc k))))

    is_map : is_map_page pl p ≡ true
    is_map = block_page pl (suc (suc (suc (suc k)))) (in_file pl.blocks (suc (suc (suc (suc k)))) used) used

    page : IsCanonicalPage pl low (items_on pl low) p (image p)
    page = canonical p is_map

    dmap : IsDmapPage pl.blocks (taken_by pl (items_on pl low)) k (image p)
    dmap = page.block_map (suc (suc (suc (suc k)))) used refl

    bits : (i : ℕ) → i < 32 * 256 → is_taken (range_of (low p) 3072 1024) i ≡ is_taken (range_of (image p) 3072 1024) i
    bits i small = by (cases_lt (8192 * k + i) pl.blocks)
      where
        by : (8192 * k + i < pl.blocks) ⊎ (pl.blocks ≤ 8192 * k + i) → is_taken (range_of (low p) 3072 1024) i ≡ is_taken (range_of (image p) 3072 1024) i
        by (inl within) =
            let b : ℕ = 8192 * k + i in
            let t = lt-ltb b pl.blocks within in
            let number : (8192 * k + i) / 8192 ≡ k = omega (arith, small) in
            let place : (8192 * k + i) % 8192 ≡ i = omega (arith, small) in
            let here : home pl (BlockBit b) ≡ p = cond-true (nat_lt b pl.blocks) (pl.block_map (suc (suc (suc (suc (b / 8192)))))) (no_block pl) t ∙ ap (λ (j : ℕ). pl.block_map (suc (suc (suc (suc j))))) number in
            let said : (a : List ℕ) → bit_of (read pl (BlockBit b) a) ≡ is_taken (range_of a 3072 1024) i = λ a. ap (λ (x : Bool). x && is_taken (range_of a 3072 1024) (b % 8192)) t ∙ ap (is_taken (range_of a 3072 1024)) place in
            sym (said (low p))
            ∙ ap (λ (q : ℕ). bit_of (read pl (BlockBit b) (low q))) (sym here)
            ∙ sym (ap bit_of (both_say (BlockBit b)))
            ∙ ap (λ (q : ℕ). bit_of (read pl (BlockBit b) (image q))) here
            ∙ said (image p)
        by (inr beyond) =
            let number = dmap.dmap.number in
            past k i used beyond (omega (arith, small)) ∙ sym (dmap.dmap.canonical.same i ∙ dmap.dmap.canonical.past i (omega (arith, number, beyond)) (omega (arith, small)))

    same_bits : SameAt (low p) (image p) 3072 1024
    same_bits = map-same 3072 256 (low p) (image p) (bytes p is_map) page.bytes (omega (arith, sizes p)) (omega (arith, page.size)) bits

  -- ---- the page of an inode allocation group

  module _ (k : ℕ) (within : k < pl.iags) where
    abbrev q : ℕ
    q = pl.inode_map (suc k)

    is_map_too : is_map_page pl q ≡ true
    is_map_too = inode_page pl (suc k) (omega (arith, within))

    descriptors : (e : ℕ) → e < 128 → pxd_of (low q) (3072 + 8 * e) ≡ pxd_of (image q) (3072 + 8 * e)
    descriptors e few =
        let n : ℕ = 128 * k + e in
        let t = lt-ltb n (places pl) (omega (arith, within, few)) in
        let number : (128 * k + e) / 128 ≡ k = omega (arith, few) in
        let place : (128 * k + e) % 128 ≡ e = omega (arith, few) in
        let here : home pl (ExtentPlace n) ≡ q = cond-true (nat_lt n (places pl)) (pl.inode_map (suc (n / 128))) (no_extent pl) t ∙ ap (λ (j : ℕ). pl.inode_map (suc j)) number in
        let said : (a : List ℕ) → place_of (read pl (ExtentPlace n) a) ≡ pxd_of a (3072 + 8 * e) = λ a. cond-true (nat_lt n (places pl)) (pxd_of a (3072 + 8 * (n % 128))) no_run t ∙ ap (λ (j : ℕ). pxd_of a (3072 + 8 * j)) place in
        sym (said (low q))
        ∙ ap (λ (z : ℕ). place_of (read pl (ExtentPlace n) (low z))) (sym here)
        ∙ sym (ap place_of (both_say (ExtentPlace n)))
        ∙ ap (λ (z : ℕ). place_of (read pl (ExtentPlace n) (image z))) here
        ∙ said (image q)

    same_extents : SameAt (low q) (image q) 3072 1024
    same_extents j from upto =
        let e : ℕ = (j - 3072) / 8 in
        pxd-same (3072 + 8 * ((j - 3072) / 8)) (low q) (image q) (bytes q is_map_too) (canonical q is_map_too).bytes (descriptors ((j - 3072) / 8) (omega (arith, from, upto))) j (omega (arith, from)) (omega (arith, from))

  -- ---- each cell with an item

  in_cells : (a b : List ℕ) (c : ℕ) → 192 ≤ c → c < 256 → SameAt a b 3072 1024 → SameCell a b c
  in_cells a b c from upto same i few = same (16 * c + i) (omega (arith, from)) (omega (arith, upto, few))

  block_cell : (b : ℕ) → SameCell (low (home pl (BlockBit b))) (image (home pl (BlockBit b))) (cell (BlockBit b))
  block_cell b = by (cases_lt b pl.blocks)
    where
      at : (k p : ℕ) → is_in_use pl.blocks (suc (suc (suc (suc k)))) ≡ true → p ≡ pl.block_map (suc (suc (suc (suc k)))) → SameCell (low p) (image p) (cell (BlockBit b))
      at k p used e =
          subst (λ (z : ℕ). SameCell (low z) (image z) (cell (BlockBit b))) (sym e)
          (in_cells (low (pl.block_map (suc (suc (suc (suc k)))))) (image (pl.block_map (suc (suc (suc (suc k)))))) (cell (BlockBit b)) (omega arith) (omega arith) (same_bits k used))

      by : (b < pl.blocks) ⊎ (pl.blocks ≤ b) → SameCell (low (home pl (BlockBit b))) (image (home pl (BlockBit b))) (cell (BlockBit b))
      by (inl within) =
          at (b / 8192) (home pl (BlockBit b)) (dmap_in_use pl.blocks b within) (cond-true (nat_lt b pl.blocks) (pl.block_map (suc (suc (suc (suc (b / 8192)))))) (no_block pl) (lt-ltb b pl.blocks within))
      by (inr beyond) = at 0 (home pl (BlockBit b)) (dmap_in_use pl.blocks 0 some)
          (cond-false (nat_lt b pl.blocks) (pl.block_map (suc (suc (suc (suc (b / 8192)))))) (no_block pl) (le-ltb b pl.blocks beyond) ∙ cond-true (nat_lt 0 pl.blocks) (pl.block_map 4) (pl.block_map 0) (lt-ltb 0 pl.blocks some))

  extent_cell : (e : ℕ) → SameCell (low (home pl (ExtentPlace e))) (image (home pl (ExtentPlace e))) (cell (ExtentPlace e))
  extent_cell e = by (cases_lt e (places pl))
    where
      at : (k p : ℕ) → k < pl.iags → p ≡ pl.inode_map (suc k) → SameCell (low p) (image p) (cell (ExtentPlace e))
      at k p within is =
          subst (λ (z : ℕ). SameCell (low z) (image z) (cell (ExtentPlace e))) (sym is)
          (in_cells (low (pl.inode_map (suc k))) (image (pl.inode_map (suc k))) (cell (ExtentPlace e)) (omega arith) (omega arith) (same_extents k within))

      by : (e < places pl) ⊎ (places pl ≤ e) → SameCell (low (home pl (ExtentPlace e))) (image (home pl (ExtentPlace e))) (cell (ExtentPlace e))
      by (inl within) = at (e / 128) (home pl (ExtentPlace e)) (omega (arith, within)) (cond-true (nat_lt e (places pl)) (pl.inode_map (suc (e / 128))) (no_extent pl) (lt-ltb e (places pl) within))
      by (inr beyond) = at 0 (home pl (ExtentPlace e)) groups
          (cond-false (nat_lt e (places pl)) (pl.inode_map (suc (e / 128))) (no_extent pl) (le-ltb e (places pl) beyond) ∙ cond-true (nat_lt 0 (places pl)) (pl.inode_map 1) (pl.inode_map 0) (lt-ltb 0 (places pl) (omega (arith, groups))))

  pub item_cell : (i : Item) → SameCell (low (home pl i)) (image (home pl i)) (cell i)
  item_cell (BlockBit b) = block_cell b
  item_cell (ExtentPlace e) = extent_cell e
