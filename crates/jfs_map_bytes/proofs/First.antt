-- The bytes of the block map's control page are the canonical page of its numbers.
use Rattle.std.proofs.Common.{◌≡◌, ◌<◌, ◌+◌, ◌-◌, ◌*◌, ◌/◌, ◌%◌, ◌^◌, not, nat_lt, ℕ, zero, suc, Bool, true, List, [], ◌∷◌, length, slice_index, to_z, of_z, w8, Fits, refl, sym, ap, ◌∙◌, arith}
use Rattle.std.specs.Prelude.{ℤ, pos, negsuc, nat_le}
use Rattle.std.specs.Int.{cast_signed, cast_unsigned}
use Rattle.std.proofs.Math.Facts.{Fits-of_z}
use Rattle.std.proofs.Math.Nat.{pow-suc}
use Rattle.std.proofs.Math.Pow.{pow_mono}
use Rattle.std.proofs.lemmas.Bool.{cond_both, cond-true, lt-ltb, le-ltb}
use Rattle.std.proofs.lemmas.List.FromFn.{get_or-map-range_with_len}
use Rattle.std.proofs.lemmas.Nat.{pow_below, div_below}
use Rattle.byteorder.specs.Endian.{little_bytes}
use Rattle.byteorder.specs.Numbers.{length-bytes_low_first}
use Rattle.jfs_bits.specs.Bits.{count_below, greatest_run}
use Rattle.jfs_bits.specs.Field.{AreBytes, field_of, range_of}
use Rattle.jfs_bits.specs.Piece.{Piece, puts, Place, is_apart_from_all}
use Rattle.jfs_bits.proofs.Counts.{count_below-most, count_below-front}
use Rattle.jfs_bits.proofs.Parts.{field-from_range, field-in_part, number-read}
use Rattle.jfs_bits.proofs.Pieces.{ArePlaced, AreLaidOut, length-puts, range_of-puts_other, range_at-puts, field_of-puts}
use Rattle.jfs_bmap.specs.dmapctl.specs.Control.{IsValue}
use Rattle.jfs_bmap.specs.dmapctl.specs.MapControl.{front_of, FitsFront, IsMapControl}
use Rattle.jfs_bmap.specs.dmapctl.specs.declared.map_control.MapControl.{MapControl}
use Rattle.jfs_bmap.specs.dmapctl.proofs.Fronts.{front-put}
use Rattle.jfs_bmap.specs.dmapctl.proofs.Values.{value-read}
use Rattle.jfs_bmap.specs.MapFile.{AreGroups, IsMapControlOf, IsFirstPage}
use Rattle.jfs_bmap.proofs.GreatestRuns.{greatest_run-value}
use Rattle.jfs_bmap.proofs.Powers.{first-most}
use Rattle.jfs_map_bytes.specs.Parts.{joined_below, zeros}
use Rattle.jfs_map_bytes.specs.BlockMap.{l2_of, level_of, height_of, numbers_of, first_parts, first_bytes}
use Rattle.jfs_map_bytes.specs.Laws.{FitsBlockMap}
use Rattle.jfs_map_bytes.proofs.Bytes.{bytes-puts, bytes-little, bytes-zeros, length-zeros, range-zeros}
use Rattle.jfs_map_bytes.proofs.Joined.{HaveSize, length-joined, part-joined, bytes-joined}

-- ---- the power of a group's size

below-power : (k : ℕ) → k < 2 ^ k
below-power zero = omega arith
below-power (suc k) = omega (arith, below-power k, pow-suc 2 k)

count-all : (n : ℕ) (test : ℕ → Bool) → ((i : ℕ) → i < n → test i ≡ true) → count_below n test ≡ n
unfolding count_below
count-all zero test h = refl
count-all (suc n) test h =
    let rest = count-all n test (λ i small. h i (omega arith)) in
    let one : ℕ = 1 in
    let none : ℕ = 0 in
    omega (arith, rest, cond-true (test n) one none (h n (omega arith)))

pub l2-is : (n k : ℕ) → n ≡ 2 ^ k → l2_of n ≡ k
unfolding l2_of
l2-is n k e =
    let below = below-power k in
    sym (count_below-front k n (λ j. nat_lt (2 ^ j) n) (omega (arith, e, below)) (λ j from within. le-ltb (2 ^ j) n (omega (arith, e, pow_mono {i = k} {j = j} from))))
    ∙ count-all k (λ j. nat_lt (2 ^ j) n) (λ j within. lt-ltb (2 ^ j) n (omega (arith, e, pow_below j k within)))

-- ---- the page of any numbers

places : List Place
places = (56, 1024) ∷ (1080, 8) ∷ (1088, 1) ∷ []

counts_size : (m : MapControl) → HaveSize 8 (λ k. little_bytes 8 (slice_index m.agfree k))
counts_size m k = length-bytes_low_first 0 8 (slice_index m.agfree k)

placed : (m : MapControl) → ArePlaced (first_parts m) places
unfolding first_parts places
placed m = (refl, length-joined 128 8 (λ k. little_bytes 8 (slice_index m.agfree k)) (counts_size m), (refl, refl, (refl, refl, tt)))

-- what has a place behind the first fields
pub record FitsRest (m : MapControl) : Type 0 where
  pub agfree : (k : ℕ) → k < 128 → slice_index m.agfree k < 2 ^ 64
  pub agsize : m.agsize < 2 ^ 64
  pub maxfreebud : cast_unsigned w8 m.maxfreebud < 256
  pub signed : cast_signed w8 (cast_unsigned w8 m.maxfreebud) ≡ m.maxfreebud

record Held (m : MapControl) (before page : List ℕ) : Type 0 where
  size : length page ≡ 4096
  beside : (at width : ℕ) → is_apart_from_all (at, width) places ≡ true → range_of page at width ≡ range_of before at width
  agfree : (k : ℕ) → k < 128 → field_of page (56 + 8 * k) 8 ≡ slice_index m.agfree k
  agsize : field_of page 1080 8 ≡ m.agsize
  maxfreebud : field_of page 1088 1 ≡ cast_unsigned w8 m.maxfreebud

held : (m : MapControl) (before : List ℕ) → FitsRest m → length before ≡ 4096 → Held m before (puts (first_parts m) before)
unfolding first_parts places placed
held m before f size =
    let parts : List Piece = first_parts m in
    let page : List ℕ = puts parts before in
    let counts : List ℕ = joined_below 128 (λ k. little_bytes 8 (slice_index m.agfree k)) in
    let laid : AreLaidOut parts (length before) = record { places = places; placed = placed m; within = rw size refl; apart = refl } in
    let range : range_of page 56 1024 ≡ counts = range_at-puts parts before 0 56 1024 counts laid (refl, refl) (length-joined 128 8 (λ k. little_bytes 8 (slice_index m.agfree k)) (counts_size m)) in
    record {
      size = length-puts parts places before laid.placed laid.within ∙ size;
      beside = λ at width clear. range_of-puts_other parts places before at width laid.placed laid.within clear;
      agfree = λ k h.
          sym (field-in_part page 56 1024 (8 * k) 8 (omega arith))
          ∙ ap (λ (z : List ℕ). field_of z (8 * k) 8) range
          ∙ number-read counts (8 * k) 8 (slice_index m.agfree k) (part-joined 128 8 k (λ k. little_bytes 8 (slice_index m.agfree k)) (counts_size m) h) (f.agfree k h);
      agsize = field_of-puts parts before 1 1080 8 m.agsize laid (refl, refl) f.agsize;
      maxfreebud = field_of-puts parts before 2 1088 1 (cast_unsigned w8 m.maxfreebud) laid (refl, refl) f.maxfreebud;
    }

-- these bytes hold the numbers, and zeros behind them
pub record IsFirst (m : MapControl) (page : List ℕ) : Type 0 where
  pub size : length page ≡ 4096
  pub held : IsMapControl m page
  pub pad : range_of page 1089 3007 ≡ range_of zeros 1089 3007

pub first-held : (m : MapControl) → FitsFront m → FitsRest m → IsFirst m (first_bytes m)
unfolding first_bytes places
first-held m fits rest =
    let before : List ℕ = puts (front_of m) zeros in
    let page : List ℕ = puts (first_parts m) before in
    let front = front-put m zeros length-zeros fits in
    let h = held m before rest front.size in
    let field = λ (at width : ℕ) (clear : is_apart_from_all (at, width) places ≡ true). field-from_range page before at width (h.beside at width clear) in
    record {
      size = h.size;
      held = record {
        mapsize = sym (field 0 8 refl ∙ front.mapsize);
        nfree = sym (field 8 8 refl ∙ front.nfree);
        l2nbperpage = sym (field 16 4 refl ∙ front.l2nbperpage);
        numag = sym (field 20 4 refl ∙ front.numag);
        maxlevel = sym (field 24 4 refl ∙ front.maxlevel);
        maxag = sym (field 28 4 refl ∙ front.maxag);
        agpref = sym (field 32 4 refl ∙ front.agpref);
        aglevel = sym (field 36 4 refl ∙ front.aglevel);
        agheight = sym (field 40 4 refl ∙ front.agheight);
        agwidth = sym (field 44 4 refl ∙ front.agwidth);
        agstart = sym (field 48 4 refl ∙ front.agstart);
        agl2size = sym (field 52 4 refl ∙ front.agl2size);
        agfree = λ k within. sym (h.agfree k within);
        agsize = sym h.agsize;
        maxfreebud = sym (ap (λ (z : ℕ). cast_signed w8 z) h.maxfreebud ∙ rest.signed);
      };
      pad = h.beside 1089 3007 refl ∙ front.pad;
    }

pub first-bytes : (m : MapControl) → AreBytes (first_bytes m)
unfolding first_bytes first_parts front_of
first-bytes m =
    bytes-puts (first_parts m) (puts (front_of m) zeros)
    (bytes-joined 128 (λ k. little_bytes 8 (slice_index m.agfree k)) (λ k. bytes-little 8 (slice_index m.agfree k)), (bytes-little 8 m.agsize, (bytes-little 1 (cast_unsigned w8 m.maxfreebud), tt)))
    (bytes-puts (front_of m) zeros
    (bytes-little 8 m.mapsize, (bytes-little 8 m.nfree, (bytes-little 4 m.l2nbperpage, (bytes-little 4 m.numag, (bytes-little 4 m.maxlevel, (bytes-little 4 m.maxag, (bytes-little 4 m.agpref, (bytes-little 4 m.aglevel, (bytes-little 4 m.agheight, (bytes-little 4 m.agwidth, (bytes-little 4 m.agstart, (bytes-little 4 m.agl2size, tt)))))))))))) bytes-zeros)

-- ---- the numbers of a set

agfree-is : (blocks agsize k : ℕ) (taken : ℕ → Bool) → k < 128 → slice_index (numbers_of blocks agsize taken).agfree k ≡ count_below agsize (λ i. not (taken (agsize * k + i)))
unfolding numbers_of
agfree-is blocks agsize k taken h = get_or-map-range_with_len (λ k. count_below agsize (λ i. not (taken (agsize * k + i)))) 0 128 k k 0 h (omega arith)

groups-most : (blocks agsize : ℕ) → AreGroups blocks agsize → (blocks + agsize - 1) / agsize < 129
groups-most blocks agsize are = let most = are.most in let least = are.least in div_below (blocks + agsize - 1) agsize 129 (omega arith) (omega arith)

l2-small : (blocks agsize : ℕ) → FitsBlockMap blocks agsize → l2_of agsize < 2 ^ 32
l2-small blocks agsize fits =
    let power = fits.groups.power in
    omega (arith, l2-is agsize power.0 power.1, below-power power.0, power.1, fits.group_size)

numbers-fit : (blocks agsize : ℕ) (taken : ℕ → Bool) → FitsBlockMap blocks agsize → FitsFront (numbers_of blocks agsize taken)
unfolding numbers_of
numbers-fit blocks agsize taken fits =
    let l2 = l2-small blocks agsize fits in
    let groups = groups-most blocks agsize fits.groups in
    let most = fits.most in
    record {
      mapsize = omega arith;
      nfree = omega (arith, count_below-most blocks (λ b. not (taken b)));
      l2nbperpage = omega arith;
      numag = omega arith;
      maxlevel = omega arith;
      maxag = omega arith;
      agpref = omega arith;
      aglevel = cond_both (nat_le (l2_of agsize) 23) 0 1 (λ z. z < 2 ^ 32) (λ e. omega arith) (λ e. omega arith);
      agheight = omega arith;
      agwidth = omega (arith, pow_below ((l2_of agsize - 13 - 10 * level_of agsize) % 2) 32 (omega arith));
      agstart = omega (arith, first-most (5 - height_of agsize) (omega arith));
      agl2size = l2;
    }

value-fits : (z : ℤ) → IsValue 1 z → cast_unsigned w8 z < 256
value-fits (pos l2) h = let fits : Fits w8 (of_z w8 (pos l2)) = Fits-of_z {w = w8} {z = pos l2} (omega arith) in omega (arith, fits)
value-fits (negsuc n) h = let fits : Fits w8 (of_z w8 (negsuc n)) = Fits-of_z {w = w8} {z = negsuc n} (omega arith) in omega (arith, fits)

rest-fits : (blocks agsize : ℕ) (taken : ℕ → Bool) → FitsBlockMap blocks agsize → FitsRest (numbers_of blocks agsize taken)
unfolding numbers_of
rest-fits blocks agsize taken fits =
    let small = fits.group_size in
    let read : to_z w8 (of_z w8 (greatest_run taken 23 23)) ≡ greatest_run taken 23 23 = value-read 1 (greatest_run taken 23 23) (omega arith) (greatest_run-value taken 1 23 23 (omega arith)) in
    record {
      agfree = λ k h. omega (arith, agfree-is blocks agsize k taken h, count_below-most agsize (λ i. not (taken (agsize * k + i))));
      agsize = omega arith;
      maxfreebud = value-fits (greatest_run taken 23 23) (greatest_run-value taken 1 23 23 (omega arith));
      signed = read;
    }

numbers-are : (blocks agsize : ℕ) (taken : ℕ → Bool) → FitsBlockMap blocks agsize → IsMapControlOf blocks agsize taken (numbers_of blocks agsize taken)
unfolding numbers_of
numbers-are blocks agsize taken fits =
    let power = fits.groups.power in
    record {
      mapsize = refl;
      nfree = refl;
      l2nbperpage = refl;
      numag = refl;
      maxag = refl;
      maxlevel = refl;
      agpref = refl;
      shape = record { level = refl; height = refl; width = refl; start = refl };
      agl2size = power.1 ∙ ap (λ (z : ℕ). 2 ^ z) (sym (l2-is agsize power.0 power.1));
      group_size = refl;
      agfree = λ k h. agfree-is blocks agsize k taken h;
      maxfreebud = refl;
    }

pub first-is : (blocks agsize : ℕ) (taken : ℕ → Bool) → FitsBlockMap blocks agsize → IsFirstPage blocks agsize taken (first_bytes (numbers_of blocks agsize taken))
first-is blocks agsize taken fits =
    let m = numbers_of blocks agsize taken in
    let page = first-held m (numbers-fit blocks agsize taken fits) (rest-fits blocks agsize taken fits) in
    record { size = page.size; numbers = m; held = page.held; canonical = numbers-are blocks agsize taken fits; pad = page.pad ∙ range-zeros 1089 3007 (omega arith) }
