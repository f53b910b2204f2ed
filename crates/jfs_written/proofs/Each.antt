-- What is true of each extent of lists that are cut and written.
use Rattle.std.proofs.Common.{◌≡◌, ◌≤◌, ◌<◌, refl, ℕ, ◌+◌, ◌-◌, ◌^◌, ◌==◌, ◌&&◌, Bool, true, false, if◌then◌else◌, List, [], ◌∷◌, ◌++◌, arith}
use Rattle.std.specs.Prelude.{nat_lt}
use Rattle.std.specs.List.{All, AllByRecursion as Each}
use Rattle.std.proofs.lemmas.Bool.{eqb-true}
use Rattle.std.proofs.lemmas.Bool.Decides.{nat_tests}
use Rattle.std.proofs.lemmas.List.Elements.{All-from_recursion, recursion_from_All}
use Rattle.jfs_bits.specs.declared.extent.Xad.{Xad}
use Rattle.jfs_xtpage.specs.Page.{end_of, rises_from}
use Rattle.jfs_xtree.specs.Laws.{ends_after}
use Rattle.jfs_xtree.specs.Cutting.{kept_below}
use Rattle.jfs_xtree.specs.CutParts.{AllFrom}
use Rattle.jfs_xtree.specs.Node.{IsGood, BeginsAt}
use Rattle.jfs_xtree.specs.Writing.{is_recorded, kept_from, is_hole, continues, merged, joined, with_written, with_all_written, AllTo, AllLong}
use Rattle.jfs_xtree.proofs.Pages.{rises_more, rises_less, rises_weaker}
use Rattle.jfs_xtree.proofs.CutRows.{kept_append}
use Rattle.jfs_xtree.proofs.WrittenIn.{from_append, from_low, all_to_more}
use Rattle.jfs_written.specs.Range.{parts_of, with_range}
use Rattle.jfs_written.specs.RangeLaws.{IsRange, IsCutToRanges, RisesStill, BeginsStill, IsGoodStill}
use Rattle.jfs_written.proofs.Cuts.{Side, before, behind, across, side_of, shorter, later, below_gone, below_whole, below_part, from_gone, from_whole, from_part, later_ends, below_ends, from_begins}
use Rattle.jfs_written.proofs.Sides.{parts_from, front_to, written_from, written_begins}
use Rattle.jfs_written.proofs.Walks.{below_rises, from_rises}

pub each_append : (P : Xad → Type 0) → (a b : List Xad) → Each P a → Each P b → Each P (a ++ b)
each_append P [] b h g = g
each_append P (x ∷ a) b h g = (h.0, each_append P a b h.1 g)

each_more : (P Q : Xad → Type 0) → ((x : Xad) → P x → Q x) → (xs : List Xad) → Each P xs → Each Q xs
each_more P Q f [] h = tt
each_more P Q f (x ∷ xs) h = (f x h.0, each_more P Q f xs h.1)

-- what an extent has below the bound, or from it on, is so too
abbrev pub HoldsBelow : ℕ → (Xad → Type 0) → Type 0
HoldsBelow b P = (x : Xad) → P x → x.offset < b → b < end_of x → P (shorter b x)

abbrev pub HoldsFrom : ℕ → (Xad → Type 0) → Type 0
HoldsFrom b P = (x : Xad) → P x → x.offset < b → b < end_of x → P (later b x)

-- and so is one that is merged with what continues it
abbrev pub HoldsMerged : Xad → (Xad → Type 0) → Type 0
HoldsMerged x P = (e : Xad) → P e → continues e x ≡ true → P (merged e x)

below_one : (b : ℕ) (P : Xad → Type 0) → HoldsBelow b P → (x : Xad) → P x → Side b x → Each P (kept_below b (x ∷ []))
below_one b P f x h (before l) = rw (below_whole b x l) (h, tt)
below_one b P f x h (behind l) = rw (below_gone b x l) tt
below_one b P f x h (across l m) = rw (below_part b x l m) (f x h l m, tt)

pub each_below : (b : ℕ) (P : Xad → Type 0) → HoldsBelow b P → (xs : List Xad) → Each P xs → Each P (kept_below b xs)
each_below b P f [] h = tt
each_below b P f (x ∷ xs) h = rw (kept_append b (x ∷ []) xs) (each_append P (kept_below b (x ∷ [])) (kept_below b xs) (below_one b P f x h.0 (side_of b x)) (each_below b P f xs h.1))

from_one : (b : ℕ) (P : Xad → Type 0) → HoldsFrom b P → (x : Xad) → P x → Side b x → Each P (kept_from b (x ∷ []))
from_one b P f x h (before l) = rw (from_gone b x l) tt
from_one b P f x h (behind l) = rw (from_whole b x l) (h, tt)
from_one b P f x h (across l m) = rw (from_part b x l m) (f x h l m, tt)

pub each_from : (b : ℕ) (P : Xad → Type 0) → HoldsFrom b P → (xs : List Xad) → Each P xs → Each P (kept_from b xs)
each_from b P f [] h = tt
each_from b P f (x ∷ xs) h = rw (from_append b (x ∷ []) xs) (each_append P (kept_from b (x ∷ [])) (kept_from b xs) (from_one b P f x h.0 (side_of b x)) (each_from b P f xs h.1))

pub each_part : (P : Xad → Type 0) → ((b : ℕ) → HoldsBelow b P) → ((b : ℕ) → HoldsFrom b P) → (es xs : List Xad) → Each P xs → Each P (parts_of es xs)
each_part P f g [] xs h = h
each_part P f g (e ∷ es) xs h =
    each_append P (kept_below e.offset xs) (kept_below (end_of e) (kept_from e.offset xs) ++ parts_of es (kept_from (end_of e) xs)) (each_below e.offset P (f e.offset) xs h)
    (each_append P (kept_below (end_of e) (kept_from e.offset xs)) (parts_of es (kept_from (end_of e) xs)) (each_below (end_of e) P (f (end_of e)) (kept_from e.offset xs) (each_from e.offset P (g e.offset) xs h))
    (each_part P f g es (kept_from (end_of e) xs) (each_from (end_of e) P (g (end_of e)) xs h)))

each_joined : (P : Xad → Type 0) (x : Xad) → HoldsMerged x P → P x → (a : List Xad) → Each P a → Each P (joined a x)
each_joined P x m q [] h = (q, tt)
each_joined P x m q (e ∷ []) h = by (continues e x) refl
  where
    by : (t : Bool) → continues e x ≡ t → Each P (if t then merged e x ∷ [] else e ∷ x ∷ [])
    by true c = (m e h.0 c, tt)
    by false c = (h.0, (q, tt))
each_joined P x m q (e ∷ f ∷ a) h = (h.0, each_joined P x m q (f ∷ a) h.1)

pub each_written : (P : Xad → Type 0) (x : Xad) → HoldsBelow x.offset P → HoldsFrom (end_of x) P → HoldsMerged x P → P x → (es : List Xad) → Each P es → Each P (with_written x es)
each_written P x f g m q es h =
    each_append P (if is_hole x es then joined (kept_below x.offset es) x else kept_below x.offset es ++ x ∷ []) (kept_from (end_of x) es) (by (is_hole x es)) (each_from (end_of x) P g es h)
  where
    kept : Each P (kept_below x.offset es)
    kept = each_below x.offset P f es h

    by : (t : Bool) → Each P (if t then joined (kept_below x.offset es) x else kept_below x.offset es ++ x ∷ [])
    by true = each_joined P x m q (kept_below x.offset es) kept
    by false = each_append P (kept_below x.offset es) (x ∷ []) kept (q, tt)

-- ---- lengths

pub to_each : (es : List Xad) → AllLong es → Each (λ x. 1 ≤ x.at.len) es
to_each [] h = tt
to_each (e ∷ es) h = (h.0, to_each es h.1)

pub all_long : (es : List Xad) → Each (λ x. 1 ≤ x.at.len) es → AllLong es
all_long [] h = tt
all_long (e ∷ es) h = (h.0, all_long es h.1)

pub long_below : (b : ℕ) → HoldsBelow b (λ x. 1 ≤ x.at.len)
long_below b x h l m = omega (arith, l)

pub long_from : (b : ℕ) → HoldsFrom b (λ x. 1 ≤ x.at.len)
long_from b x h l m = omega (arith, m)

pub long_merged : (x : Xad) → HoldsMerged x (λ y. 1 ≤ y.at.len)
long_merged x e h c = omega (arith, h)

pub written_long : (x : Xad) (es : List Xad) → 1 ≤ x.at.len → AllLong es → AllLong (with_written x es)
written_long x es l h = all_long (with_written x es) (each_written (λ y. 1 ≤ y.at.len) x (long_below x.offset) (long_from (end_of x)) (long_merged x) l es (to_each es h))

-- ---- good extents

and_both : (s t : Bool) → (s && t) ≡ true → (s ≡ true) × (t ≡ true)
and_both true t h = (refl, h)
and_both false t h = absurd cc

pub sizes : (e x : Xad) → continues e x ≡ true → (e.at.addr + e.at.len ≡ x.at.addr) × (e.at.len + x.at.len < 2 ^ 24)
sizes e x c =
    let a = and_both (is_recorded e) (end_of e == x.offset && (e.at.addr + e.at.len == x.at.addr && nat_lt (e.at.len + x.at.len) (2 ^ 24))) c in
    let b = and_both (end_of e == x.offset) (e.at.addr + e.at.len == x.at.addr && nat_lt (e.at.len + x.at.len) (2 ^ 24)) a.1 in
    let d = and_both (e.at.addr + e.at.len == x.at.addr) (nat_lt (e.at.len + x.at.len) (2 ^ 24)) b.1 in
    (eqb-true (e.at.addr + e.at.len) x.at.addr d.0, less (e.at.len + x.at.len) (2 ^ 24) d.1)
  where
    less : (a b : ℕ) → nat_lt a b ≡ true → a < b
    less a b h = grind (arith, nat_tests)

pub long_end : (o n : ℕ) → 1 ≤ n → o + (if n == 0 then 1 else n) ≡ o + n
long_end o n l = grind (arith, nat_tests)

good_below : (blocks b : ℕ) → HoldsBelow b (IsGood blocks)
good_below blocks b x h l m =
    let some = h.some in let e = long_end x.offset x.at.len some in let n = h.fits.run.len in let w = h.within in
    record {
      fits = record { flag = h.fits.flag; offset = h.fits.offset; run = record { len = omega (arith, e, m, n); addr = h.fits.run.addr } };
      some = omega (arith, l);
      within = omega (arith, e, m, w);
    }

good_from : (blocks b : ℕ) → blocks ≤ 2 ^ 40 → b < 2 ^ 40 → HoldsFrom b (IsGood blocks)
good_from blocks b top below x h l m =
    let some = h.some in let e = long_end x.offset x.at.len some in let n = h.fits.run.len in let w = h.within in
    record {
      fits = record { flag = h.fits.flag; offset = below; run = record { len = omega (arith, e, l, n); addr = omega (arith, e, l, m, w, top) } };
      some = omega (arith, m);
      within = omega (arith, e, l, m, w);
    }

good_merged : (blocks : ℕ) (x : Xad) → IsGood blocks x → HoldsMerged x (IsGood blocks)
good_merged blocks x g e h c =
    let s = sizes e x c in
    let i = s.0 in let some = h.some in let w = g.within in
    record {
      fits = record { flag = h.fits.flag; offset = h.fits.offset; run = record { len = s.1; addr = h.fits.run.addr } };
      some = omega (arith, some);
      within = omega (arith, i, w);
    }

-- what is written ends below the greatest offset
abbrev Ready : ℕ → Xad → Type 0
Ready blocks x = IsGood blocks x × (end_of x < 2 ^ 40)

ready_below : (blocks b : ℕ) → HoldsBelow b (Ready blocks)
ready_below blocks b x h l m = (good_below blocks b x h.0 l m, let t = h.1 in let z = ends x.offset b l in omega (arith, t, m, z))
  where
    ends : (o b : ℕ) → o < b → o + (if b - o == 0 then 1 else b - o) ≡ b
    ends o b l = grind (arith, nat_tests)

ready_from : (blocks b : ℕ) → blocks ≤ 2 ^ 40 → HoldsFrom b (Ready blocks)
ready_from blocks b top x h l m = let t = h.1 in (good_from blocks b top (omega (arith, m, t)) x h.0 l m, rw (later_ends b x m) t)

all_good : (blocks : ℕ) → blocks ≤ 2 ^ 40 → (ps es : List Xad) → Each (Ready blocks) ps → Each (IsGood blocks) es → Each (IsGood blocks) (with_all_written ps es)
all_good blocks top [] es h g = g
all_good blocks top (p ∷ ps) es h g =
    all_good blocks top ps (with_written p es) h.1
    (each_written (IsGood blocks) p (good_below blocks p.offset) (good_from blocks (end_of p) top h.0.1) (good_merged blocks p h.0.0) h.0.0 es g)

both : (blocks : ℕ) (xs : List Xad) → Each (IsGood blocks) xs → Each (λ x. end_of x < 2 ^ 40) xs → Each (Ready blocks) xs
both blocks [] h g = tt
both blocks (x ∷ xs) h g = ((h.0, g.0), both blocks xs h.1 g.1)

pub is_good_still : (xs es : List Xad) → IsGoodStill xs es
is_good_still xs es blocks top good ends h =
    All-from_recursion (IsGood blocks) (with_range xs es) (all_good blocks top (parts_of es xs) es
    (each_part (Ready blocks) (ready_below blocks) (λ b. ready_from blocks b top) es xs (both blocks xs (recursion_from_All (IsGood blocks) xs good) (recursion_from_All (λ x. end_of x < 2 ^ 40) xs ends)))
    (recursion_from_All (IsGood blocks) es h))

-- ---- rising

pub rises_append : (low m : ℕ) (a b : List Xad) → rises_from low a ≡ true → AllTo m a → low ≤ m → rises_from m b ≡ true → rises_from low (a ++ b) ≡ true
rises_append low m [] b r h l s = rises_weaker b m low l s
rises_append low m (x ∷ a) b r h l s = let t = rises_less low x a r in rises_more low x (a ++ b) t.0 (rises_append (end_of x) m a b t.1 h.1 h.0 s)

joined_rises : (low : ℕ) (a : List Xad) (x : Xad) → rises_from low a ≡ true → AllTo x.offset a → low ≤ x.offset → rises_from low (joined a x) ≡ true
joined_rises low [] x r h l = rises_more low x [] l refl
joined_rises low (e ∷ []) x r h l = let t = rises_less low e [] r in by (continues e x) t.0
  where
    by : (t : Bool) → low ≤ e.offset → rises_from low (if t then merged e x ∷ [] else e ∷ x ∷ []) ≡ true
    by true m = rises_more low (merged e x) [] m refl
    by false m = rises_more low e (x ∷ []) m (rises_more (end_of e) x [] h.0 refl)
joined_rises low (e ∷ f ∷ a) x r h l = let t = rises_less low e (f ∷ a) r in rises_more low e (joined (f ∷ a) x) t.0 (joined_rises (end_of e) (f ∷ a) x t.1 h.1 h.0)

front_rises : (low : ℕ) (a : List Xad) (x : Xad) (t : Bool) → rises_from low a ≡ true → AllTo x.offset a → low ≤ x.offset → rises_from low (if t then joined a x else a ++ x ∷ []) ≡ true
front_rises low a x true r h l = joined_rises low a x r h l
front_rises low a x false r h l = rises_append low x.offset a (x ∷ []) r h l (rises_more x.offset x [] (omega arith) refl)

written_rises : (low : ℕ) (x : Xad) (es : List Xad) → low ≤ x.offset → rises_from low es ≡ true → rises_from low (with_written x es) ≡ true
written_rises low x es l r =
    let w = ends_after x in
    rises_append low (end_of x) (if is_hole x es then joined (kept_below x.offset es) x else kept_below x.offset es ++ x ∷ []) (kept_from (end_of x) es)
    (front_rises low (kept_below x.offset es) x (is_hole x es) (below_rises x.offset low es r) (below_ends x.offset es) l)
    (front_to (end_of x) (kept_below x.offset es) x (is_hole x es) (all_to_more x.offset (end_of x) (kept_below x.offset es) (omega (arith, w)) (below_ends x.offset es)) (omega arith))
    (omega (arith, l, w)) (from_rises (end_of x) low es r)

all_rises : (low : ℕ) (ps es : List Xad) → AllFrom low ps → rises_from low es ≡ true → rises_from low (with_all_written ps es) ≡ true
all_rises low [] es h r = r
all_rises low (p ∷ ps) es h r = all_rises low ps (with_written p es) h.1 (written_rises low p es h.0 r)

pub rises_still : (xs es : List Xad) → RisesStill xs es
rises_still xs es low h r = all_rises low (parts_of es xs) es (parts_from low es xs h) r

all_begin : (key : ℕ) (ps es : List Xad) → AllFrom key ps → AllFrom key es → BeginsAt key es → BeginsAt key (with_all_written ps es)
all_begin key [] es h g b = b
all_begin key (p ∷ ps) es h g b = all_begin key ps (with_written p es) h.1 (written_from key p es g h.0) (written_begins key p es g h.0 b)

pub begins_still : (xs es : List Xad) → BeginsStill xs es
begins_still xs es key h r b = all_begin key (parts_of es xs) es (parts_from key es xs h) (from_low key es r) b

-- ---- a range that is cut

is_range_below : (blocks b : ℕ) (xs : List Xad) → IsRange blocks xs → IsRange blocks (kept_below b xs)
is_range_below blocks b xs h =
    let ready = each_below b (Ready blocks) (ready_below blocks b) xs (both blocks xs (recursion_from_All (IsGood blocks) xs h.good) (recursion_from_All (λ x. end_of x < 2 ^ 40) xs h.ends)) in
    record {
      rises = below_rises b 0 xs h.rises;
      recorded = All-from_recursion (λ x. is_recorded x ≡ true) (kept_below b xs) (each_below b (λ x. is_recorded x ≡ true) (λ x r l m. r) xs (recursion_from_All (λ x. is_recorded x ≡ true) xs h.recorded));
      good = All-from_recursion (IsGood blocks) (kept_below b xs) (each_more (Ready blocks) (IsGood blocks) (λ x r. r.0) (kept_below b xs) ready);
      ends = All-from_recursion (λ x. end_of x < 2 ^ 40) (kept_below b xs) (each_more (Ready blocks) (λ x. end_of x < 2 ^ 40) (λ x r. r.1) (kept_below b xs) ready);
    }

is_range_from : (blocks b : ℕ) (xs : List Xad) → blocks ≤ 2 ^ 40 → IsRange blocks xs → IsRange blocks (kept_from b xs)
is_range_from blocks b xs top h =
    let ready = each_from b (Ready blocks) (ready_from blocks b top) xs (both blocks xs (recursion_from_All (IsGood blocks) xs h.good) (recursion_from_All (λ x. end_of x < 2 ^ 40) xs h.ends)) in
    record {
      rises = rises_weaker (kept_from b xs) b 0 (omega arith) (from_rises b 0 xs h.rises);
      recorded = All-from_recursion (λ x. is_recorded x ≡ true) (kept_from b xs) (each_from b (λ x. is_recorded x ≡ true) (λ x r l m. r) xs (recursion_from_All (λ x. is_recorded x ≡ true) xs h.recorded));
      good = All-from_recursion (IsGood blocks) (kept_from b xs) (each_more (Ready blocks) (IsGood blocks) (λ x r. r.0) (kept_from b xs) ready);
      ends = All-from_recursion (λ x. end_of x < 2 ^ 40) (kept_from b xs) (each_more (Ready blocks) (λ x. end_of x < 2 ^ 40) (λ x r. r.1) (kept_from b xs) ready);
    }

pub is_cut_to_ranges : (xs : List Xad) → IsCutToRanges xs
is_cut_to_ranges xs blocks bound top h = (is_range_below blocks bound xs h, below_ends bound xs, is_range_from blocks bound xs top h, from_begins bound xs)

pub good_long : (blocks : ℕ) (xs : List Xad) → All (IsGood blocks) xs → AllLong xs
good_long blocks xs h = all_long xs (each_more (IsGood blocks) (λ x. 1 ≤ x.at.len) (λ x g. g.some) xs (recursion_from_All (IsGood blocks) xs h))
