-- The blocks of a file that a write touches lie within the volume, and their extents are a range that the file's tree can take.
use Rattle.std.proofs.Common.{◌≡◌, ◌≤◌, ◌<◌, refl, sym, ap, ◌∙◌, subst, ℕ, zero, suc, ◌+◌, ◌-◌, ◌/◌, ◌^◌, ◌&&◌, ◌||◌, Bool, true, false, not, if◌then◌else◌, List, [], ◌∷◌, ◌++◌, length, Option, Some, None, arith}
use Rattle.std.specs.Prelude.{nat_le, nat_lt, min}
use Rattle.std.proofs.lemmas.Bool.Decides.{nat_tests}
use Rattle.jfs_bits.specs.declared.extent.Xad.{Xad}
use Rattle.jfs_tree.specs.Form.{AllBelow}
use Rattle.jfs_xtree.specs.Node.{is_within, all_within}
use Rattle.jfs_xtree.specs.Writing.{is_recorded}
use Rattle.jfs_xtree.proofs.Reading.{and_true}
use Rattle.jfs_plain.specs.Step.{blocks_in}
use Rattle.jfs_put_range.specs.Call.{IsShortRange}
use Rattle.jfs_write_pages.specs.declared.spot.Spot.{Spot}
use Rattle.jfs_write_pages.specs.Spots.{has_block, spot_in, spot_at, spots_from, run_spots, spots_in, spots_between, placed, before, extents_for, AllSpots, SpotsFit}
use Rattle.jfs_write_pages.proofs.Blocks.{AreFrom, extents_rows, placed_from}
use Rattle.jfs_write_pages.proofs.Given.{extents_fit, rows_from, fits_to, is_range}
use Rattle.jfs_write.specs.Look.{FitsBytes, needs_extents, spots_at}
use Rattle.jfs_write.proofs.Spelled.{one_within, within_long}

-- ---- how many there are

pub few_blocks : (offset count : ℕ) → FitsBytes offset count → blocks_in offset count ≤ 17
few_blocks offset count fits = let f = fits.few in let s = fits.some in omega (arith, f, s)

pub last_block : (offset count : ℕ) → FitsBytes offset count → offset / 4096 + blocks_in offset count ≡ (offset + count - 1) / 4096 + 1
last_block offset count fits = let s = fits.some in omega (arith, s)

pub low_blocks : (offset count : ℕ) → FitsBytes offset count → offset / 4096 + blocks_in offset count < 2 ^ 40
low_blocks offset count fits = let l = fits.low in let s = fits.some in omega (arith, l, s)

pub low_first : (offset count : ℕ) → FitsBytes offset count → offset / 4096 < 2 ^ 40
low_first offset count fits = let l = fits.low in omega (arith, l)

pub length_spots : (es : List Xad) (k n : ℕ) → length (spots_from es k n) ≡ n
unfolding spots_from
length_spots es k zero = refl
length_spots es k (suc n) = ap suc (length_spots es (suc k) n)

-- ---- before the bytes

run_fits : (blocks k b n : ℕ) → ((j : ℕ) → j < n → (b + j < blocks) × (k + j < 2 ^ 40)) → AllSpots blocks (run_spots k b n)
unfolding run_spots
run_fits blocks k b zero h = tt
run_fits blocks k b (suc n) h = (
  (let f = (h 0 (omega arith)).0 in omega (arith, f)),
  (let f = (h 0 (omega arith)).1 in omega (arith, f)),
  run_fits blocks (suc k) (suc b) n (λ j l. ((let f = (h (suc j) (omega (arith, l))).0 in omega (arith, f)), (let f = (h (suc j) (omega (arith, l))).1 in omega (arith, f)))),
)

spots_append : (blocks : ℕ) (xs ys : List Spot) → AllSpots blocks xs → AllSpots blocks ys → AllSpots blocks (xs ++ ys)
spots_append blocks [] ys h g = g
spots_append blocks (x ∷ xs) ys h g = (h.0, h.1, spots_append blocks xs ys h.2 g)

in_fits : (blocks from to : ℕ) (e : Xad) → is_within blocks e ≡ true → to ≤ 2 ^ 40 → AllSpots blocks (spots_in from to e)
in_fits blocks from to e w l = by (is_recorded e)
  where
    block : (addr len offset j : ℕ) → addr + len ≤ blocks → j < min (to - offset) len - (from - offset) → addr + (from - offset) + j < blocks
    block addr len offset j h m = omega (arith, h, m)

    index : (len offset j : ℕ) → j < min (to - offset) len - (from - offset) → offset + (from - offset) + j < 2 ^ 40
    index len offset j m = omega (arith, l, m)

    by : (t : Bool) → AllSpots blocks (if t then run_spots (e.offset + (from - e.offset)) (e.at.addr + (from - e.offset)) (min (to - e.offset) e.at.len - (from - e.offset)) else [])
    by true = run_fits blocks (e.offset + (from - e.offset)) (e.at.addr + (from - e.offset)) (min (to - e.offset) e.at.len - (from - e.offset))
        (λ j m. (block e.at.addr e.at.len e.offset j (one_within blocks e w).1 m, index e.at.len e.offset j m))
    by false = tt

pub gap_fits : (blocks from to : ℕ) (es : List Xad) → all_within blocks es ≡ true → to ≤ 2 ^ 40 → AllSpots blocks (spots_between from to es)
gap_fits blocks from to [] w l = tt
gap_fits blocks from to (e ∷ es) w l = let t = and_true (is_within blocks e) (all_within blocks es) w in
    spots_append blocks (spots_in from to e) (spots_between from to es) (in_fits blocks from to e t.0 l) (gap_fits blocks from to es t.1 l)

pub both_fit : (blocks from to : ℕ) (es : List Xad) (spots : List Spot) → all_within blocks es ≡ true → to ≤ 2 ^ 40 → AllSpots blocks spots → AllSpots blocks (spots_between from to es ++ spots)
both_fit blocks from to es spots w l h = spots_append blocks (spots_between from to es) spots (gap_fits blocks from to es w l) h

-- ---- the blocks that the bytes touch

one_spot : {s x : Spot} → ◌≡◌ {A = Option Spot} (Some s) (Some x) → s ≡ x
one_spot h = cc (h)

spot_fits : (blocks k : ℕ) (es : List Xad) (s : Spot) → all_within blocks es ≡ true → spot_at es k ≡ Some s → (s.block < blocks) × (s.index ≡ k)
spot_fits blocks k [] s w h = absurd (cc (h))
spot_fits blocks k (e ∷ es) s w h = let t = and_true (is_within blocks e) (all_within blocks es) w in by (has_block e k) refl h (one_within blocks e t.0).1 (λ more. spot_fits blocks k es s t.1 more)
  where
    inside : (offset len addr : ℕ) → (nat_le offset k && nat_lt k (offset + len)) ≡ true → addr + len ≤ blocks → addr + (k - offset) < blocks
    inside offset len addr h l = grind (arith, nat_tests, h, l)

    by : (t : Bool) → has_block e k ≡ t → (if t then Some (spot_in e k) else spot_at es k) ≡ Some s → e.at.addr + e.at.len ≤ blocks → (spot_at es k ≡ Some s → (s.block < blocks) × (s.index ≡ k)) → (s.block < blocks) × (s.index ≡ k)
    by true t h l rest = let same = one_spot h in (subst (λ (x : Spot). x.block < blocks) same (inside e.offset e.at.len e.at.addr t l), sym (ap (λ (x : Spot). x.index) same))
    by false t h l rest = rest h

pub placed_fits : (blocks k : ℕ) (es : List Xad) (n : ℕ) (news : List ℕ) → all_within blocks es ≡ true → AllBelow blocks news → k + n ≤ 2 ^ 40 → AllSpots blocks (placed k (spots_from es k n) news)
unfolding spots_from
placed_fits blocks k es zero news w below low = tt
placed_fits blocks k es (suc n) news w below low = by (λ news below. placed_fits blocks (suc k) es n news w below (omega (arith, low))) (spot_at es k) refl news below
  where
    by : ((news : List ℕ) → AllBelow blocks news → AllSpots blocks (placed (suc k) (spots_from es (suc k) n) news)) → (o : Option Spot) → spot_at es k ≡ o → (news : List ℕ) → AllBelow blocks news
        → AllSpots blocks (placed k (o ∷ spots_from es (suc k) n) news)
    by rest (Some s) e news below = let f = spot_fits blocks k es s w e in (f.0, (let i = f.1 in omega (arith, i, low)), rest news below)
    by rest None e [] below = tt
    by rest None e (b ∷ news) below = (below.0, omega (arith, low), rest news below.1)

pub spots_short : (blocks : ℕ) (ss : List Spot) → blocks ≤ 2 ^ 32 → AllSpots blocks ss → SpotsFit ss
spots_short blocks [] few h = tt
spots_short blocks (s ∷ ss) few h = ((let l = h.0 in omega (arith, l, few)), h.1, spots_short blocks ss few h.2)

placed_length : (k : ℕ) (ss : List (Option Spot)) (news : List ℕ) → length (placed k ss news) ≤ length ss
placed_length k [] news = omega arith
placed_length k (Some s ∷ ss) news = let h = placed_length (suc k) ss news in omega (arith, h)
placed_length k (None ∷ ss) [] = omega arith
placed_length k (None ∷ ss) (b ∷ news) = let h = placed_length (suc k) ss news in omega (arith, h)

-- ---- the extents that the tree gets

module _ (blocks : ℕ) (es : List Xad) (offset count : ℕ) (news : List ℕ) (fits : FitsBytes offset count) (few : blocks ≤ 2 ^ 32) (w : all_within blocks es ≡ true) (below : AllBelow blocks news) where
  abbrev touched : List Spot
  touched = placed (offset / 4096) (spots_at es offset count) news

  abbrev ranged : List Xad
  ranged = extents_for touched

  are : AreFrom (offset / 4096) touched
  are = placed_from (offset / 4096) es (blocks_in offset count) news (within_long blocks es w)

  pub all_fit : AllSpots blocks touched
  all_fit = placed_fits blocks (offset / 4096) es (blocks_in offset count) news w below (let l = low_blocks offset count fits in omega (arith, l))

  length_touched : length touched ≤ blocks_in offset count
  length_touched = let p = placed_length (offset / 4096) (spots_at es offset count) news in let l = length_spots es (offset / 4096) (blocks_in offset count) in omega (arith, p, l)

  pub short_range : 0 < length ranged → IsShortRange blocks ranged
  short_range some = record {
    first = offset / 4096;
    lies = record {
      from = rows_from (offset / 4096) ranged (extents_rows (offset / 4096) touched are);
      to = fits_to blocks (offset / 4096 + 17) ranged (extents_fit blocks (offset / 4096 + 17) (offset / 4096) touched are all_fit (let l = length_touched in let f = few_blocks offset count fits in omega (arith, l, f)));
    };
    some = some;
    range = is_range blocks (offset / 4096) (offset / 4096 + blocks_in offset count) touched are all_fit (let l = length_touched in omega (arith, l)) (low_blocks offset count fits) few;
  }

-- where all blocks were recorded, there are none
none_needed : (k : ℕ) (ss : List (Option Spot)) (news : List ℕ) → needs_extents ss ≡ false → extents_for (placed k ss news) ≡ []
none_needed k [] news h = refl
none_needed k (Some s ∷ ss) news h = by (none_needed (suc k) ss news) s.recorded refl h
  where
    by : (needs_extents ss ≡ false → extents_for (placed (suc k) ss news) ≡ []) → (t : Bool) → s.recorded ≡ t → (not t || needs_extents ss) ≡ false → extents_for (s ∷ placed (suc k) ss news) ≡ []
    by rest true e h = ap (λ (t : Bool). if t then extents_for (placed (suc k) ss news) else before s.index s.block (extents_for (placed (suc k) ss news))) e ∙ rest h
    by rest false e h = absurd (cc (h))
none_needed k (None ∷ ss) news h = absurd (cc (h))

pub are_needed : (k : ℕ) (ss : List (Option Spot)) (news : List ℕ) → 0 < length (extents_for (placed k ss news)) → needs_extents ss ≡ true
are_needed k ss news l = by (needs_extents ss) refl
  where
    by : (t : Bool) → needs_extents ss ≡ t → needs_extents ss ≡ true
    by true e = e
    by false e = absurd (let z = ap length (none_needed k ss news e) in omega (arith, l, z))

-- ---- as the code has them

pub few_of : (k blocks : ℕ) → k ≡ blocks → k < 4294967296 → blocks ≤ 2 ^ 32
few_of k blocks e l = omega (arith, e, l)

pub first_low : (offset : ℕ) → offset < 2 ^ 52 → offset / 4096 ≤ 2 ^ 40
first_low offset l = omega (arith, l)

pub seen_few : (es : List Xad) (offset count : ℕ) (seen : List (Option Spot)) → FitsBytes offset count → seen ≡ spots_at es offset count → length seen ≤ 17
seen_few es offset count seen fits is = let l = ap length is in let n = length_spots es (offset / 4096) (blocks_in offset count) in let f = few_blocks offset count fits in omega (arith, l, n, f)

module _ (blocks : ℕ) (es : List Xad) (offset count : ℕ) (news : List ℕ) (fits : FitsBytes offset count) (few : blocks ≤ 2 ^ 32) (w : all_within blocks es ≡ true) (below : AllBelow blocks news) (seen : List (Option Spot)) (ss : List Spot)
    (seen_is : seen ≡ spots_at es offset count) (is : ss ≡ placed (offset / 4096) seen news) where
  same_spots : placed (offset / 4096) (spots_at es offset count) news ≡ ss
  same_spots = ap (λ (s : List (Option Spot)). placed (offset / 4096) s news) (sym seen_is) ∙ sym is

  pub seen_fit : AllSpots blocks ss
  seen_fit = subst (AllSpots blocks) same_spots (all_fit blocks es offset count news fits few w below)

  pub seen_short : SpotsFit ss
  seen_short = spots_short blocks ss few seen_fit

  pub seen_range : (later : ℕ) → later ≡ blocks → 0 < length (extents_for ss) → IsShortRange later (extents_for ss)
  seen_range later e = subst (λ (k : ℕ). 0 < length (extents_for ss) → IsShortRange k (extents_for ss)) (sym e)
      (subst (λ (s : List Spot). 0 < length (extents_for s) → IsShortRange blocks (extents_for s)) same_spots (short_range blocks es offset count news fits few w below))

  pub seen_needed : 0 < length (extents_for ss) → needs_extents seen ≡ true
  seen_needed some = are_needed (offset / 4096) seen news (subst (λ (s : List Spot). 0 < length (extents_for s)) is some)
