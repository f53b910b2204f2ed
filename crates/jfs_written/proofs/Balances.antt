-- Counting the blocks of extents that are cut or written.
use Rattle.std.proofs.Common.{◌≡◌, ◌≤◌, ◌<◌, refl, sym, ap, ◌∙◌, ℕ, ◌+◌, ◌-◌, Bool, true, false, ◌&&◌, nat_le, nat_lt, if◌then◌else◌, List, [], ◌∷◌, ◌++◌, map, arith}
use Rattle.std.proofs.lemmas.Bool.{le-leb, lt-leb}
use Rattle.std.proofs.lemmas.Bool.Decides.{nat_tests}
use Rattle.std.proofs.lemmas.List.{map-append}
use Rattle.jfs_bits.specs.declared.extent.Xad.{Xad}
use Rattle.jfs_bits.specs.declared.descriptor.Pxd.{Pxd}
use Rattle.jfs_objects.specs.Owners.{run_has, covers}
use Rattle.jfs_xtpage.specs.Page.{end_of, rises_from}
use Rattle.jfs_xtree.specs.Laws.{ends_after}
use Rattle.jfs_xtree.specs.Cutting.{kept_below, gone_of, gone_past}
use Rattle.jfs_xtree.specs.CutParts.{AllFrom}
use Rattle.jfs_xtree.specs.Writing.{kept_from, is_hole, continues, merged, joined, with_written, with_all_written, AllLong}
use Rattle.jfs_xtree.proofs.CutRows.{kept_append}
use Rattle.jfs_xtree.proofs.Pages.{rises_less}
use Rattle.jfs_xtree.proofs.WrittenIn.{from_append, from_low}
use Rattle.jfs_written.specs.Range.{parts_of, with_range}
use Rattle.jfs_written.specs.Balance.{block_count, ShareBlocks, had_by, had_of, CutShares, GoneIsCut, WrittenShares, RangeShares}
use Rattle.jfs_written.proofs.Cuts.{Side, before, behind, across, side_of, shorter, later, shorter_ends, later_ends, below_gone, below_whole, below_part, from_gone, from_whole, from_part, from_from, below_below, between}
use Rattle.jfs_written.proofs.Each.{each_below, each_from, each_part, to_each, all_long, long_below, long_from, long_end, sizes, written_long}
use Rattle.jfs_written.proofs.Counts.{written_past}
use Rattle.jfs_written.proofs.Blocks.{parts_rise}

-- ---- sums over extents

abbrev sum : (Xad → ℕ) → List Xad → ℕ
sum m [] = 0
sum m (x ∷ xs) = m x + sum m xs

sum_append : (m : Xad → ℕ) (a b : List Xad) → sum m (a ++ b) ≡ sum m a + sum m b
sum_append m [] b = omega arith
sum_append m (x ∷ a) b = let t = sum_append m a b in omega (arith, t)

longs_below : (b : ℕ) (xs : List Xad) → AllLong xs → AllLong (kept_below b xs)
longs_below b xs l = all_long (kept_below b xs) (each_below b (λ x. 1 ≤ x.at.len) (long_below b) xs (to_each xs l))

longs_from : (b : ℕ) (xs : List Xad) → AllLong xs → AllLong (kept_from b xs)
longs_from b xs l = all_long (kept_from b xs) (each_from b (λ x. 1 ≤ x.at.len) (long_from b) xs (to_each xs l))

longs_parts : (es xs : List Xad) → AllLong xs → AllLong (parts_of es xs)
longs_parts es xs l = all_long (parts_of es xs) (each_part (λ x. 1 ≤ x.at.len) long_below long_from es xs (to_each xs l))

-- a count that the two parts of a cut extent share
abbrev IsShared : (Xad → ℕ) → Type 0
IsShared m = (bound : ℕ) (x : Xad) → 1 ≤ x.at.len → x.offset < bound → bound < end_of x → m (shorter bound x) + m (later bound x) ≡ m x

-- and two extents that are merged
abbrev IsMerged : (Xad → ℕ) → Type 0
IsMerged m = (e x : Xad) → continues e x ≡ true → m (merged e x) ≡ m e + m x

-- what was written before leaves what is had behind it
had_same : (p : Xad) (es ps : List Xad) → AllFrom (end_of p) ps → had_of ps (with_written p es) ≡ had_of ps es
had_same p es [] h = refl
had_same p es (q ∷ qs) h =
    ap (λ ys. kept_below (end_of q) ys ++ had_of qs (with_written p es)) (written_past q.offset p es h.0) ∙ ap (λ ys. kept_below (end_of q) (kept_from q.offset es) ++ ys) (had_same p es qs h.1)

module _ (m : Xad → ℕ) (shared : IsShared m) where
  one_cut : (bound : ℕ) (x : Xad) → 1 ≤ x.at.len → sum m (kept_below bound (x ∷ [])) + sum m (kept_from bound (x ∷ [])) ≡ m x
  one_cut bound x l = by (side_of bound x)
    where
      by : Side bound x → sum m (kept_below bound (x ∷ [])) + sum m (kept_from bound (x ∷ [])) ≡ m x
      by (before h) = let a = ap (sum m) (below_whole bound x h) in let b = ap (sum m) (from_gone bound x h) in omega (arith, a, b)
      by (behind h) = let a = ap (sum m) (below_gone bound x h) in let b = ap (sum m) (from_whole bound x h) in omega (arith, a, b)
      by (across h k) = let a = ap (sum m) (below_part bound x h k) in let b = ap (sum m) (from_part bound x h k) in let p = shared bound x l h k in omega (arith, a, b, p)

  cut_sum : (bound : ℕ) (xs : List Xad) → AllLong xs → sum m (kept_below bound xs) + sum m (kept_from bound xs) ≡ sum m xs
  cut_sum bound [] l = refl
  cut_sum bound (x ∷ xs) l =
      let a = ap (sum m) (kept_append bound (x ∷ []) xs) ∙ sum_append m (kept_below bound (x ∷ [])) (kept_below bound xs) in
      let b = ap (sum m) (from_append bound (x ∷ []) xs) ∙ sum_append m (kept_from bound (x ∷ [])) (kept_from bound xs) in
      let o = one_cut bound x l.0 in let t = cut_sum bound xs l.1 in omega (arith, a, b, o, t)

  -- in two steps
  twice_cut : (low high : ℕ) (xs : List Xad) → AllLong xs → low ≤ high → sum m (kept_below low xs) + sum m (kept_below high (kept_from low xs)) + sum m (kept_from high xs) ≡ sum m xs
  twice_cut low high xs l h =
      let c = cut_sum low xs l in let d = cut_sum high (kept_from low xs) (longs_from low xs l) in
      let g = ap (sum m) (from_from low high xs h) in omega (arith, c, d, g)

  parts_sum : (es xs : List Xad) → AllLong xs → sum m (parts_of es xs) ≡ sum m xs
  parts_sum [] xs l = refl
  parts_sum (e ∷ es) xs l =
      let a = sum_append m (kept_below e.offset xs) (kept_below (end_of e) (kept_from e.offset xs) ++ parts_of es (kept_from (end_of e) xs)) in
      let b = sum_append m (kept_below (end_of e) (kept_from e.offset xs)) (parts_of es (kept_from (end_of e) xs)) in
      let t = parts_sum es (kept_from (end_of e) xs) (longs_from (end_of e) xs l) in
      let c = twice_cut e.offset (end_of e) xs l (let w = ends_after e in omega (arith, w)) in
      omega (arith, a, b, t, c)

-- what is had of an extent's blocks is shared by its parts
had_shared : (m : Xad → ℕ) → IsShared m → (es : List Xad) → AllLong es → IsShared (λ x. sum m (had_by es x))
had_shared m shared es long bound x l h k =
    let y = had_by es x in
    let c = cut_sum m shared bound y (longs_below (end_of x) (kept_from x.offset es) (longs_from x.offset es long)) in
    let one = ap (λ n. sum m (kept_below n (kept_from x.offset es))) (shorter_ends bound x h) ∙ sym (ap (sum m) (below_below (end_of x) bound (kept_from x.offset es) (omega (arith, k)))) in
    let two = ap (λ n. sum m (kept_below n (kept_from bound es))) (later_ends bound x k) ∙ sym (ap (sum m) (between bound (end_of x) (kept_from x.offset es) (omega (arith, k)) ∙ ap (kept_below (end_of x)) (from_from x.offset bound es (omega (arith, h))))) in
    omega (arith, c, one, two)

had_sum : (m : Xad → ℕ) (es xs : List Xad) → sum m (had_of xs es) ≡ sum (λ x. sum m (had_by es x)) xs
had_sum m es [] = refl
had_sum m es (x ∷ xs) = let a = sum_append m (had_by es x) (had_of xs es) in let t = had_sum m es xs in omega (arith, a, t)

module _ (m : Xad → ℕ) (shared : IsShared m) (merges : IsMerged m) where
  joined_sum : (a : List Xad) (x : Xad) → sum m (joined a x) ≡ sum m a + m x
  joined_sum [] x = omega arith
  joined_sum (e ∷ []) x = by (continues e x) refl
    where
      by : (t : Bool) → continues e x ≡ t → sum m (if t then merged e x ∷ [] else e ∷ x ∷ []) ≡ sum m (e ∷ []) + m x
      by true h = let q = merges e x h in omega (arith, q)
      by false h = omega arith
  joined_sum (e ∷ f ∷ es) x = let t = joined_sum (f ∷ es) x in omega (arith, t)

  written_sum : (x : Xad) (es : List Xad) → sum m (with_written x es) ≡ sum m (kept_below x.offset es) + m x + sum m (kept_from (end_of x) es)
  written_sum x es =
      let a = sum_append m (if is_hole x es then joined (kept_below x.offset es) x else kept_below x.offset es ++ x ∷ []) (kept_from (end_of x) es) in
      let i = inner (is_hole x es) in omega (arith, a, i)
    where
      inner : (h : Bool) → sum m (if h then joined (kept_below x.offset es) x else kept_below x.offset es ++ x ∷ []) ≡ sum m (kept_below x.offset es) + m x
      inner true = joined_sum (kept_below x.offset es) x
      inner false = let t = sum_append m (kept_below x.offset es) (x ∷ []) in omega (arith, t)

  pub written_balance : (x : Xad) (es : List Xad) → AllLong es → sum m (with_written x es) + sum m (had_by es x) ≡ sum m es + m x
  written_balance x es l =
      let a = written_sum x es in
      let c = twice_cut m shared x.offset (end_of x) es l (let w = ends_after x in omega (arith, w)) in
      omega (arith, a, c)

  all_balance : (low : ℕ) (ps es : List Xad) → rises_from low ps ≡ true → AllLong ps → AllLong es → sum m (with_all_written ps es) + sum m (had_of ps es) ≡ sum m es + sum m ps
  all_balance low [] es r long all = refl
  all_balance low (p ∷ ps) es r long all =
      let t = rises_less low p ps r in
      let a = written_balance p es all in
      let b = all_balance (end_of p) ps (with_written p es) t.1 long.1 (written_long p es long.0 all) in
      let c = ap (sum m) (had_same p es ps (from_low (end_of p) ps t.1)) in
      let d = sum_append m (had_by es p) (had_of ps es) in
      omega (arith, a, b, c, d)

  pub range_balance : (xs es : List Xad) → AllLong xs → rises_from 0 xs ≡ true → AllLong es → rises_from 0 es ≡ true → sum m (with_range xs es) + sum m (had_of xs es) ≡ sum m es + sum m xs
  range_balance xs es long rises all up =
      let ps = parts_of es xs in
      let a = all_balance 0 ps es (parts_rise 0 es xs up rises) (longs_parts es xs long) all in
      let b = parts_sum m shared es xs long in
      let c = had_sum m es ps in
      let d = parts_sum (λ x. sum m (had_by es x)) (had_shared m shared es all) es xs long in
      let e = had_sum m es xs in
      omega (arith, a, b, c, d, e)

-- ---- a block of the volume

two_parts : (at len k b : ℕ) → k ≤ len → (if nat_le at b && nat_lt b (at + k) then 1 else 0) + (if nat_le (at + k) b && nat_lt b (at + k + (len - k)) then 1 else 0) ≡ (if nat_le at b && nat_lt b (at + len) then 1 else 0)
two_parts at len k b l = grind (arith, nat_tests)

goes_on : (at n to k b : ℕ) → at + n ≡ to → (if nat_le at b && nat_lt b (at + (n + k)) then 1 else 0) ≡ (if nat_le at b && nat_lt b (at + n) then 1 else 0) + (if nat_le to b && nat_lt b (to + k) then 1 else 0)
goes_on at n to k b h = grind (arith, nat_tests)

has_shared : (b : ℕ) → IsShared (λ x. run_has x.at b)
has_shared b bound x l h k =
    let n = long_end x.offset x.at.len l in
    let t = two_parts x.at.addr x.at.len (bound - x.offset) b (omega (arith, h, k, n)) in
    let e : end_of x - bound ≡ x.at.len - (bound - x.offset) = omega (arith, h, k, n) in
    let q = ap (λ (i : ℕ). run_has (record { len = i; addr = x.at.addr + (bound - x.offset) }) b) e in
    omega (arith, t, q)

has_merged : (b : ℕ) → IsMerged (λ x. run_has x.at b)
has_merged b e x c = goes_on e.at.addr e.at.len x.at.addr x.at.len b (sizes e x c).0

covers_sum : (b : ℕ) (xs : List Xad) → covers b xs ≡ sum (λ x. run_has x.at b) xs
covers_sum b [] = refl
covers_sum b (x ∷ xs) = ap (λ n. run_has x.at b + n) (covers_sum b xs)

-- ---- how many blocks

count_shared : IsShared (λ x. x.at.len)
count_shared bound x l h k = let n = long_end x.offset x.at.len l in omega (arith, h, k, n)

count_merged : IsMerged (λ x. x.at.len)
count_merged e x c = refl

count_sum : (xs : List Xad) → block_count xs ≡ sum (λ x. x.at.len) xs
count_sum [] = refl
count_sum (x ∷ xs) = ap (λ n. x.at.len + n) (count_sum xs)

-- ---- the laws

shares : (one other whole : List Xad) → ((m : Xad → ℕ) → IsShared m → IsMerged m → sum m one + sum m other ≡ sum m whole) → ShareBlocks one other whole
shares one other whole h = record {
  each = λ b. (let f = h (λ x. run_has x.at b) (has_shared b) (has_merged b) in let i = covers_sum b one in let j = covers_sum b other in let k = covers_sum b whole in omega (arith, f, i, j, k));
  count = let f = h (λ x. x.at.len) count_shared count_merged in let i = count_sum one in let j = count_sum other in let k = count_sum whole in omega (arith, f, i, j, k);
}

pub cut_shares : (bound : ℕ) (es : List Xad) → CutShares bound es
cut_shares bound es long = shares (kept_below bound es) (kept_from bound es) es (λ m s g. cut_sum m s bound es long)

pub written_shares : (x : Xad) (es : List Xad) → WrittenShares x es
written_shares x es long = shares (with_written x es) (had_by es x) (es ++ x ∷ []) (λ m s g. let w = written_balance m s g x es long in let a = sum_append m es (x ∷ []) in omega (arith, w, a))

pub range_shares : (xs es : List Xad) → RangeShares xs es
range_shares xs es long rises all up =
    shares (with_range xs es) (had_of xs es) (es ++ xs) (λ m s g. let w = range_balance m s g xs es long rises all up in let a = sum_append m es xs in omega (arith, w, a))

-- ---- what a cut gives back

gone_one : (bound : ℕ) (x : Xad) → gone_of bound x ≡ map (λ y. y.at) (kept_from bound (x ∷ []))
gone_one bound x = by (side_of bound x)
  where
    by : Side bound x → gone_of bound x ≡ map (λ y. y.at) (kept_from bound (x ∷ []))
    by (before h) = rw (lt-leb bound x.offset (let w = ends_after x in omega (arith, h, w)), le-leb (end_of x) bound h) refl
    by (behind h) = rw (le-leb bound x.offset h, lt-leb (end_of x) bound (let w = ends_after x in omega (arith, h, w))) refl
    by (across h k) = rw (lt-leb bound x.offset h, lt-leb (end_of x) bound k) refl

pub gone_is_cut : (bound : ℕ) (es : List Xad) → GoneIsCut bound es
gone_is_cut bound [] = refl
gone_is_cut bound (x ∷ xs) =
    ap (λ ps. ps ++ gone_past bound xs) (gone_one bound x) ∙ ap (λ ps. map (λ y. y.at) (kept_from bound (x ∷ [])) ++ ps) (gone_is_cut bound xs)
    ∙ sym (map-append (λ y. y.at) (kept_from bound (x ∷ [])) (kept_from bound xs)) ∙ sym (ap (map (λ y. y.at)) (from_append bound (x ∷ []) xs))
