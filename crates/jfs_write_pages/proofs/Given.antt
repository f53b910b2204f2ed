-- The extents of blocks of a file are a range that can be written.
use Rattle.std.proofs.Common.{◌≡◌, ◌≤◌, ◌<◌, refl, sym, ap, ◌∙◌, subst, ℕ, suc, ◌+◌, ◌^◌, Bool, true, false, if◌then◌else◌, List, [], ◌∷◌, length, arith}
use Rattle.std.specs.Prelude.{nat_le}
use Rattle.std.specs.List.{All, AllByRecursion as Each}
use Rattle.std.proofs.lemmas.List.Elements.{All-from_recursion}
use Rattle.std.proofs.lemmas.Bool.{le-leb}
use Rattle.jfs_bits.specs.declared.extent.Xad.{Xad}
use Rattle.jfs_xtpage.specs.Page.{end_of, rises_from}
use Rattle.jfs_data_steps.specs.xtree.specs.CutParts.{AllFrom}
use Rattle.jfs_data_steps.specs.xtree.specs.Node.{IsGood}
use Rattle.jfs_data_steps.specs.xtree.specs.Writing.{is_recorded, AllLong, AllTo}
use Rattle.jfs_written.specs.RangeLaws.{IsRange}
use Rattle.jfs_written.proofs.Each.{long_end, all_long}
use Rattle.jfs_write_pages.specs.declared.spot.Spot.{Spot}
use Rattle.jfs_write_pages.specs.Spots.{one_block, goes_on, longer, before, extents_for, AllSpots}
use Rattle.jfs_write_pages.proofs.Places.{rises_parts}
use Rattle.jfs_write_pages.proofs.Blocks.{IsRow, AreFrom, extents_rows, goes_on_is, flag_recorded}

-- each ends at or before a bound, and lies within the volume
pub record IsFit (blocks high : ℕ) (x : Xad) : Type 0 where
  pub flag : x.flag ≡ 0
  pub long : 1 ≤ x.at.len
  pub short : x.at.len ≤ 2 ^ 20
  pub ends : x.offset + x.at.len ≤ high
  pub within : x.at.addr + x.at.len ≤ blocks

fits_before : (blocks high k b : ℕ) (xs : List Xad) → k < high → b < blocks → Each (IsFit blocks high) xs → Each (IsFit blocks high) (before k b xs)
fits_before blocks high k b [] l w fits = (record { flag = refl; long = omega arith; short = omega arith; ends = omega (arith, l); within = omega (arith, w) }, tt)
fits_before blocks high k b (x ∷ xs) l w fits = by (goes_on k b x) refl
  where
    by : (t : Bool) → goes_on k b x ≡ t → Each (IsFit blocks high) (if t then longer k b x ∷ xs else one_block k b ∷ x ∷ xs)
    by true g = let s = goes_on_is k b x g in let f = fits.0 in
        (record { flag = f.flag; long = omega arith; short = (let m = s.2 in omega (arith, m)); ends = (let e = f.ends in let o = s.0 in omega (arith, e, o)); within = (let e = f.within in let a = s.1 in omega (arith, e, a)) }, fits.1)
    by false g = (record { flag = refl; long = omega arith; short = omega arith; ends = omega (arith, l); within = omega (arith, w) }, fits)

pub extents_fit : (blocks high k : ℕ) (ss : List Spot) → AreFrom k ss → AllSpots blocks ss → k + length ss ≤ high → Each (IsFit blocks high) (extents_for ss)
extents_fit blocks high k [] from all to = tt
extents_fit blocks high k (s ∷ ss) from all to = by (extents_fit blocks high (suc k) ss from.1 all.2 (omega (arith, to))) s.recorded
  where
    by : Each (IsFit blocks high) (extents_for ss) → (t : Bool) → Each (IsFit blocks high) (if t then extents_for ss else before s.index s.block (extents_for ss))
    by rest true = rest
    by rest false = fits_before blocks high s.index s.block (extents_for ss) (let i = from.0 in omega (arith, i, to)) all.0 rest

-- they rise
from_here : (k : ℕ) → nat_le k k ≡ true
from_here k = le-leb k k (omega arith)

rise_before : (k b : ℕ) (xs : List Xad) → Each (IsRow (suc k)) xs → rises_from (suc k) xs ≡ true → rises_from k (before k b xs) ≡ true
rise_before k b [] rows r = ap (λ (t : Bool). if t then true else false) (from_here k)
rise_before k b (x ∷ xs) rows r = by (goes_on k b x) refl
  where
    parts : (suc k ≤ x.offset) × (rises_from (end_of x) xs ≡ true)
    parts = rises_parts (suc k) x xs r

    same_end : goes_on k b x ≡ true → end_of (longer k b x) ≡ end_of x
    same_end g = let s = goes_on_is k b x g in let e = long_end x.offset x.at.len rows.0.long in let f = long_end k (suc x.at.len) (omega arith) in let o = s.0 in omega (arith, e, f, o)

    one_end : (k : ℕ) → k + 1 ≡ suc k
    one_end k = omega arith

    by : (t : Bool) → goes_on k b x ≡ t → rises_from k (if t then longer k b x ∷ xs else one_block k b ∷ x ∷ xs) ≡ true
    by true g = ap (λ (t : Bool). if t then rises_from (end_of (longer k b x)) xs else false) (from_here k) ∙ ap (λ (n : ℕ). rises_from n xs) (same_end g) ∙ parts.1
    by false g = ap (λ (t : Bool). if t then rises_from (k + 1) (x ∷ xs) else false) (from_here k) ∙ ap (λ (n : ℕ). rises_from n (x ∷ xs)) (one_end k) ∙ r

rise_lower : (low high : ℕ) (xs : List Xad) → low ≤ high → rises_from high xs ≡ true → rises_from low xs ≡ true
rise_lower low high [] l r = refl
rise_lower low high (x ∷ xs) l r = let p = rises_parts high x xs r in let f = p.0 in ap (λ (t : Bool). if t then rises_from (end_of x) xs else false) (le-leb low x.offset (omega (arith, f, l))) ∙ p.1

pub extents_rise : (k : ℕ) (ss : List Spot) → AreFrom k ss → rises_from k (extents_for ss) ≡ true
extents_rise k [] from = refl
extents_rise k (s ∷ ss) from = by (extents_rise (suc k) ss from.1) s.recorded
  where
    by : rises_from (suc k) (extents_for ss) ≡ true → (t : Bool) → rises_from k (if t then extents_for ss else before s.index s.block (extents_for ss)) ≡ true
    by rest true = rise_lower k (suc k) (extents_for ss) (omega arith) rest
    by rest false = subst (λ (i : ℕ). rises_from i (before s.index s.block (extents_for ss)) ≡ true) from.0
        (rise_before s.index s.block (extents_for ss) (subst (λ (i : ℕ). Each (IsRow (suc i)) (extents_for ss)) (sym from.0) (extents_rows (suc k) ss from.1)) (subst (λ (i : ℕ). rises_from (suc i) (extents_for ss) ≡ true) (sym from.0) rest))

-- ---- as a range

map_each : {A : Type 0} (P Q : A → Type 0) → ((x : A) → P x → Q x) → (xs : List A) → Each P xs → Each Q xs
map_each P Q f [] h = tt
map_each P Q f (x ∷ xs) h = (f x h.0, map_each P Q f xs h.1)

fit_good : (blocks high : ℕ) → blocks ≤ 2 ^ 32 → high < 2 ^ 40 → (x : Xad) → IsFit blocks high x → IsGood blocks x
fit_good blocks high few low x f = record {
  fits = record {
    flag = (let g = f.flag in omega (arith, g));
    offset = (let e = f.ends in let l = f.long in omega (arith, e, l, low));
    run = record { len = (let s = f.short in omega (arith, s)); addr = (let w = f.within in omega (arith, w, few)) };
  };
  some = f.long;
  within = f.within;
}

fit_end : (blocks high : ℕ) → high < 2 ^ 40 → (x : Xad) → IsFit blocks high x → end_of x < 2 ^ 40
fit_end blocks high low x f = let e = long_end x.offset x.at.len f.long in let t = f.ends in omega (arith, e, t, low)

pub rows_from : (k : ℕ) (xs : List Xad) → Each (IsRow k) xs → AllFrom k xs
rows_from k [] rows = tt
rows_from k (x ∷ xs) rows = (rows.0.from, rows_from k xs rows.1)

pub fits_to : (blocks high : ℕ) (xs : List Xad) → Each (IsFit blocks high) xs → AllTo high xs
fits_to blocks high [] fits = tt
fits_to blocks high (x ∷ xs) fits = ((let e = long_end x.offset x.at.len fits.0.long in let t = fits.0.ends in omega (arith, e, t)), fits_to blocks high xs fits.1)

pub rows_long : (k : ℕ) (xs : List Xad) → Each (IsRow k) xs → AllLong xs
rows_long k xs rows = all_long xs (map_each (IsRow k) (λ x. 1 ≤ x.at.len) (λ x r. r.long) xs rows)

pub rows_recorded : (k : ℕ) (xs : List Xad) → Each (IsRow k) xs → All (λ x. is_recorded x ≡ true) xs
rows_recorded k xs rows = All-from_recursion (λ x. is_recorded x ≡ true) xs (map_each (IsRow k) (λ x. is_recorded x ≡ true) (λ x r. flag_recorded x r.recorded) xs rows)

pub is_range : (blocks k high : ℕ) (ss : List Spot) → AreFrom k ss → AllSpots blocks ss → k + length ss ≤ high → high < 2 ^ 40 → blocks ≤ 2 ^ 32 → IsRange blocks (extents_for ss)
is_range blocks k high ss from all to low few =
    let fits = extents_fit blocks high k ss from all to in
    let rows = extents_rows k ss from in
    record {
      rises = rise_lower 0 k (extents_for ss) (omega arith) (extents_rise k ss from);
      recorded = rows_recorded k (extents_for ss) rows;
      good = All-from_recursion (IsGood blocks) (extents_for ss) (map_each (IsFit blocks high) (IsGood blocks) (fit_good blocks high few low) (extents_for ss) fits);
      ends = All-from_recursion (λ x. end_of x < 2 ^ 40) (extents_for ss) (map_each (IsFit blocks high) (λ x. end_of x < 2 ^ 40) (fit_end blocks high low) (extents_for ss) fits);
    }
