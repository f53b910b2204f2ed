-- The blocks that a write touches: each stands where the list has it afterwards, and none is left out.
use Rattle.std.proofs.Common.{◌≡◌, ◌≢◌, ◌≤◌, ◌<◌, ◌⊎◌, inl, inr, refl, sym, ap, ◌∙◌, subst, ℕ, zero, suc, ◌+◌, ◌-◌, ◌&&◌, ◌==◌, Bool, true, false, not, true≢false, if◌then◌else◌, List, [], ◌∷◌, ◌++◌, length, Option, Some, None, arith, eq-eqb, ne_eqb}
use Rattle.std.specs.Prelude.{nat_le, nat_lt, min}
use Rattle.std.specs.List.{AllByRecursion as Each}
use Rattle.std.proofs.lemmas.Bool.Decides.{nat_tests}
use Rattle.jfs_bits.specs.declared.extent.Xad.{Xad}
use Rattle.jfs_xtpage.specs.Page.{end_of, rises_from}
use Rattle.jfs_data_steps.specs.xtree.specs.Writing.{is_recorded, AllLong, Place, place_in, place_at}
use Rattle.jfs_data_steps.specs.xtree.specs.Writing as writing
use Rattle.jfs_data_steps.specs.objects.proofs.Sums.{eq_or_not}
use Rattle.jfs_written.specs.RangeLaws.{or_else}
use Rattle.jfs_write_pages.specs.declared.spot.Spot.{Spot}
use Rattle.jfs_write_pages.specs.Spots.{spots_from, run_spots, recorded_spot, spots_in, spots_between, holes_in, placed, new_spot, extents_for}
use Rattle.jfs_write_pages.proofs.Places.{spot_of, same_spot, rises_parts}
use Rattle.jfs_write_pages.proofs.Blocks.{AreFrom, new_at, extents_at, placed_from}

-- ---- lists

abbrev pub Has : Spot → List Spot → Type 0
Has s [] = ⊥
Has s (x ∷ xs) = (x ≡ s) ⊎ Has s xs

pub has_front : (s : Spot) (xs ys : List Spot) → Has s xs → Has s (xs ++ ys)
has_front s [] ys h = absurd h
has_front s (x ∷ xs) ys (inl e) = inl e
has_front s (x ∷ xs) ys (inr h) = inr (has_front s xs ys h)

pub has_back : (s : Spot) (xs ys : List Spot) → Has s ys → Has s (xs ++ ys)
has_back s [] ys h = h
has_back s (x ∷ xs) ys h = inr (has_back s xs ys h)

pub each_append : (P : Spot → Type 0) (xs ys : List Spot) → Each P xs → Each P ys → Each P (xs ++ ys)
each_append P [] ys h g = g
each_append P (x ∷ xs) ys h g = (h.0, each_append P xs ys h.1 g)

pub each_map : (P Q : Spot → Type 0) → ((s : Spot) → P s → Q s) → (xs : List Spot) → Each P xs → Each Q xs
each_map P Q f [] h = tt
each_map P Q f (x ∷ xs) h = (f x h.0, each_map P Q f xs h.1)

pub each_has : (P : Spot → Type 0) (s : Spot) (xs : List Spot) → Each P xs → Has s xs → P s
each_has P s [] h g = absurd g
each_has P s (x ∷ xs) h (inl e) = subst P e h.0
each_has P s (x ∷ xs) h (inr g) = each_has P s xs h.1 g

-- ---- what was recorded

abbrev pub was_recorded : Option Place → Bool
was_recorded None = false
was_recorded (Some p) = p.recorded

abbrev pub recorded_at : ℕ → Option Place
recorded_at b = Some (record { block = b; recorded = true })

-- A block that is touched: it stands here afterwards, recorded; and what it holds counted before exactly where it says so.
pub record IsSpotOf (es later : List Xad) (low high : ℕ) (s : Spot) : Type 0 where
  pub after : place_at later s.index ≡ recorded_at s.block
  pub was : s.recorded ≡ was_recorded (place_at es s.index)
  pub same : s.recorded ≡ true → place_at es s.index ≡ recorded_at s.block
  pub from : low ≤ s.index
  pub to : s.index < high

-- ---- the blocks of a range

-- as the list tells it
pub record IsPlaced (es : List Xad) (low high : ℕ) (s : Spot) : Type 0 where
  pub was : s.recorded ≡ was_recorded (place_at es s.index)
  pub same : s.recorded ≡ true → place_at es s.index ≡ recorded_at s.block
  pub from : low ≤ s.index
  pub to : s.index < high

placed_weaker : (es : List Xad) (low less high : ℕ) (s : Spot) → less ≤ low → IsPlaced es low high s → IsPlaced es less high s
placed_weaker es low less high s l p = record { was = p.was; same = p.same; from = (let f = p.from in omega (arith, f, l)); to = p.to }

place_is : (p : Place) → p.recorded ≡ true → Some p ≡ recorded_at p.block
place_is p h = ap (λ (t : Bool). Some (record { block = p.block; recorded = t })) h

pub all_placed : (es : List Xad) (k n : ℕ) (news : List ℕ) → AllLong es → Each (IsPlaced es k (k + n)) (placed k (spots_from es k n) news)
unfolding spots_from
all_placed es k zero news long = tt
all_placed es k (suc n) news long = subst (λ (s : Option Spot). Each (IsPlaced es k (k + suc n)) (placed k (s ∷ spots_from es (suc k) n) news)) (sym (same_spot es k long)) (by (λ news. all_placed es (suc k) n news long) (place_at es k) refl news)
  where
    More : Type 0
    More = (news : List ℕ) → Each (IsPlaced es (suc k) (suc k + n)) (placed (suc k) (spots_from es (suc k) n) news)

    rest : More → (news : List ℕ) → Each (IsPlaced es k (k + suc n)) (placed (suc k) (spots_from es (suc k) n) news)
    rest more news = each_map (IsPlaced es (suc k) (suc k + n)) (IsPlaced es k (k + suc n))
        (λ s p. record { was = p.was; same = p.same; from = (let f = p.from in omega (arith, f)); to = (let t = p.to in omega (arith, t)) }) (placed (suc k) (spots_from es (suc k) n) news) (more news)

    by : More → (p : Option Place) → place_at es k ≡ p → (news : List ℕ) → Each (IsPlaced es k (k + suc n)) (placed k (spot_of k p ∷ spots_from es (suc k) n) news)
    by more (Some p) is news = (record { was = sym (ap was_recorded is); same = λ t. is ∙ place_is p t; from = omega arith; to = omega arith }, rest more news)
    by more None is [] = tt
    by more None is (b ∷ news) = (record { was = sym (ap was_recorded is); same = λ t. absurd (true≢false (sym t)); from = omega arith; to = omega arith }, rest more news)

-- each of them is there
pub all_there : (es : List Xad) (k n j : ℕ) (news : List ℕ) → AllLong es → holes_in (spots_from es k n) ≡ length news → k ≤ j → j < k + n → (s : Spot) × Has s (placed k (spots_from es k n) news) × (s.index ≡ j)
unfolding spots_from
all_there es k zero j news long number l m = absurd (omega (arith, l, m))
all_there es k (suc n) j news long number l m =
    subst (λ (s : Option Spot). holes_in (s ∷ spots_from es (suc k) n) ≡ length news → (x : Spot) × Has x (placed k (s ∷ spots_from es (suc k) n) news) × (x.index ≡ j)) (sym (same_spot es k long)) (by (λ news number more. all_there es (suc k) n j news long number more (omega (arith, m))) (place_at es k) news) number
  where
    Later : Type 0
    Later = (news : List ℕ) → holes_in (spots_from es (suc k) n) ≡ length news → suc k ≤ j → (x : Spot) × Has x (placed (suc k) (spots_from es (suc k) n) news) × (x.index ≡ j)

    by : Later → (p : Option Place) (news : List ℕ) → holes_in (spot_of k p ∷ spots_from es (suc k) n) ≡ length news → (x : Spot) × Has x (placed k (spot_of k p ∷ spots_from es (suc k) n) news) × (x.index ≡ j)
    by later (Some p) news number = elim (eq_or_not j k) [
      | inl e ↦ (record { index = k; block = p.block; recorded = p.recorded }, inl refl, sym e)
      | inr ne ↦ let r = later news number (more j k l ne) in (r.0, inr r.1, r.2)
    ]
      where
        more : (j k : ℕ) → k ≤ j → j ≢ k → suc k ≤ j
        more j k l ne = grind (arith, ne)
    by later None [] number = absurd (omega (arith, number))
    by later None (b ∷ news) number = elim (eq_or_not j k) [
      | inl e ↦ (new_spot k b, inl refl, sym e)
      | inr ne ↦ let r = later news (omega (arith, number)) (more j k l ne) in (r.0, inr r.1, r.2)
    ]
      where
        more : (j k : ℕ) → k ≤ j → j ≢ k → suc k ≤ j
        more j k l ne = grind (arith, ne)

-- where the new extents have each of them
abbrev newly : Spot → Option Place
newly s = if s.recorded then None else recorded_at s.block

from_low : (k : ℕ) (ss : List Spot) → AreFrom k ss → Each (λ s. k ≤ s.index) ss
from_low k [] from = tt
from_low k (s ∷ ss) from = ((let i = from.0 in omega (arith, i)), each_map (λ s. suc k ≤ s.index) (λ s. k ≤ s.index) (λ s l. omega (arith, l)) ss (from_low (suc k) ss from.1))

none_there : (k : ℕ) (ss : List Spot) (j : ℕ) → AreFrom k ss → j < k → new_at ss j ≡ None
none_there = Rattle.jfs_write_pages.proofs.Blocks.none_new

each_newly : (k : ℕ) (ss : List Spot) → AreFrom k ss → Each (λ s. new_at ss s.index ≡ newly s) ss
each_newly k [] from = tt
each_newly k (s ∷ ss) from = (here s.recorded, both ss ss (from_low (suc k) ss from.1) (each_newly (suc k) ss from.1))
  where
    off : (t : Bool) → (t && false) ≡ false
    off true = refl
    off false = refl

    here : (t : Bool) → (if s.index == s.index && not t then recorded_at s.block else new_at ss s.index) ≡ (if t then None else recorded_at s.block)
    here true = ap (λ (x : Bool). if x then recorded_at s.block else new_at ss s.index) (off (s.index == s.index)) ∙ none_there (suc k) ss s.index from.1 (let i = from.0 in omega (arith, i))
    here false = ap (λ (x : Bool). if x && true then recorded_at s.block else new_at ss s.index) (eq-eqb s.index s.index refl)

    apart : (i k j : ℕ) → i ≡ k → suc k ≤ j → j ≢ i
    apart i k j e l = grind arith

    both : (all rest : List Spot) → Each (λ x. suc k ≤ x.index) rest → Each (λ x. new_at all x.index ≡ newly x) rest → Each (λ x. (if x.index == s.index && not s.recorded then recorded_at s.block else new_at all x.index) ≡ newly x) rest
    both all [] low h = tt
    both all (x ∷ rest) low h = (ap (λ (t : Bool). if t && not s.recorded then recorded_at s.block else new_at all x.index) (ne_eqb x.index s.index (apart s.index k x.index from.0 low.0)) ∙ h.0, both all rest low.1 h.1)

each_two : (P Q R : Spot → Type 0) → ((s : Spot) → P s → Q s → R s) → (xs : List Spot) → Each P xs → Each Q xs → Each R xs
each_two P Q R f [] h g = tt
each_two P Q R f (x ∷ xs) h g = (f x h.0 g.0, each_two P Q R f xs h.1 g.1)

-- so each stands there afterwards
pub range_spots : (es later : List Xad) (k n : ℕ) (news : List ℕ) → AllLong es → ((j : ℕ) → place_at later j ≡ or_else (place_at (extents_for (placed k (spots_from es k n) news)) j) (place_at es j))
    → Each (IsSpotOf es later k (k + n)) (placed k (spots_from es k n) news)
range_spots es later k n news long each = each_two (IsPlaced es k (k + n)) (λ s. new_at (placed k (spots_from es k n) news) s.index ≡ newly s) (IsSpotOf es later k (k + n))
    (λ s p h. record {
      after = each s.index ∙ ap (λ (x : Option Place). or_else x (place_at es s.index)) (extents_at k (placed k (spots_from es k n) news) s.index (placed_from k es n news long) ∙ h) ∙ by s.block s.index s.recorded p.same;
      was = p.was;
      same = p.same;
      from = p.from;
      to = p.to;
    })
    (placed k (spots_from es k n) news) (all_placed es k n news long) (each_newly k (placed k (spots_from es k n) news) (placed_from k es n news long))
  where
    by : (b i : ℕ) (t : Bool) → (t ≡ true → place_at es i ≡ recorded_at b) → or_else (if t then None else recorded_at b) (place_at es i) ≡ recorded_at b
    by b i true f = f refl
    by b i false f = refl

-- outside of the range nothing has moved
pub none_before : (k : ℕ) (ss : List Spot) (j : ℕ) → AreFrom k ss → j < k → new_at ss j ≡ None
none_before = none_there

pub none_behind : (k : ℕ) (ss : List Spot) (high j : ℕ) → AreFrom k ss → Each (λ s. s.index < high) ss → high ≤ j → new_at ss j ≡ None
none_behind k [] high j from to l = refl
none_behind k (s ∷ ss) high j from to l = ap (λ (t : Bool). if t && not s.recorded then recorded_at s.block else new_at ss j) (ne_eqb j s.index (apart j s.index high to.0 l)) ∙ none_behind (suc k) ss high j from.1 to.1 l
  where
    apart : (j i h : ℕ) → i < h → h ≤ j → j ≢ i
    apart j i h l m = grind arith

-- ---- the recorded blocks before it

run_each : (P : Spot → Type 0) (k b n : ℕ) → ((i : ℕ) → i < n → P (recorded_spot (k + i) (b + i))) → Each P (run_spots k b n)
unfolding run_spots
run_each P k b zero h = tt
run_each P k b (suc n) h = (subst P (moved k b) (h 0 (omega arith)), run_each P (suc k) (suc b) n (λ i l. subst P (next k b i) (h (suc i) (omega (arith, l)))))
  where
    moved : (k b : ℕ) → recorded_spot (k + 0) (b + 0) ≡ recorded_spot k b
    moved k b = let e : k + 0 ≡ k = omega arith in let f : b + 0 ≡ b = omega arith in rw (e, f) refl

    next : (k b i : ℕ) → recorded_spot (k + suc i) (b + suc i) ≡ recorded_spot (suc k + i) (suc b + i)
    next k b i = let e : k + suc i ≡ suc k + i = omega arith in let f : b + suc i ≡ suc b + i = omega arith in rw (e, f) refl

run_has : (k b n j : ℕ) → k ≤ j → j < k + n → Has (recorded_spot j (b + (j - k))) (run_spots k b n)
unfolding run_spots
run_has k b zero j l m = absurd (omega (arith, l, m))
run_has k b (suc n) j l m = elim (eq_or_not j k) [
  | inl e ↦ inl (let f : b ≡ b + (j - k) = omega (arith, e) in let g : k ≡ j = sym e in rw (sym f, g) refl)
  | inr ne ↦ inr (subst (λ (x : ℕ). Has (recorded_spot j x) (run_spots (suc k) (suc b) n)) (let g = more j k l ne in omega (arith, g)) (run_has (suc k) (suc b) n j (more j k l ne) (omega (arith, m))))
]
  where
    more : (j k : ℕ) → k ≤ j → j ≢ k → suc k ≤ j
    more j k l ne = grind (arith, ne)

module _ (from to : ℕ) where
  -- those of one extent
  pub in_each : (e : Xad) → 1 ≤ e.at.len → Each (λ s. (writing.has_block e s.index ≡ true) × (place_in e s.index ≡ record { block = s.block; recorded = true }) × (s.recorded ≡ true) × (from ≤ s.index) × (s.index < to)) (spots_in from to e)
  in_each e some = by (is_recorded e) refl
    where
      Q : Spot → Type 0
      Q s = (writing.has_block e s.index ≡ true) × (place_in e s.index ≡ record { block = s.block; recorded = true }) × (s.recorded ≡ true) × (from ≤ s.index) × (s.index < to)

      inside : (o n f t i : ℕ) → 1 ≤ n → i < min (t - o) n - (f - o) → (nat_le o (o + (f - o) + i) && nat_lt (o + (f - o) + i) (o + (if n == 0 then 1 else n))) ≡ true
      inside o n f t i l m = grind (arith, nat_tests)

      low : (o n f t i : ℕ) → i < min (t - o) n - (f - o) → f ≤ o + (f - o) + i
      low o n f t i m = grind (arith, nat_tests)

      high : (o n f t i : ℕ) → i < min (t - o) n - (f - o) → o + (f - o) + i < t
      high o n f t i m = grind (arith, nat_tests)

      at : (a o f i : ℕ) → a + (o + (f - o) + i - o) ≡ a + (f - o) + i
      at a o f i = omega arith

      by : (x : Bool) → is_recorded e ≡ x → Each Q (if x then run_spots (e.offset + (from - e.offset)) (e.at.addr + (from - e.offset)) (min (to - e.offset) e.at.len - (from - e.offset)) else [])
      by true h = run_each Q (e.offset + (from - e.offset)) (e.at.addr + (from - e.offset)) (min (to - e.offset) e.at.len - (from - e.offset)) (λ i l. (
        inside e.offset e.at.len from to i some l,
        ap (λ (b : ℕ). record { block = b; recorded = is_recorded e }) (at e.at.addr e.offset from i) ∙ ap (λ (x : Bool). record { block = e.at.addr + (from - e.offset) + i; recorded = x }) h,
        refl,
        low e.offset e.at.len from to i l,
        high e.offset e.at.len from to i l,
      ))
      by false h = tt

  -- and of all
  pub record IsGap (es : List Xad) (s : Spot) : Type 0 where
    pub there : place_at es s.index ≡ recorded_at s.block
    pub recorded : s.recorded ≡ true
    pub low : from ≤ s.index
    pub high : s.index < to

  pub gap_each : (low : ℕ) (es : List Xad) → rises_from low es ≡ true → AllLong es → Each (λ s. (low ≤ s.index) × IsGap es s) (spots_between from to es)
  gap_each low [] r long = tt
  gap_each low (e ∷ es) r long =
      let p = rises_parts low e es r in
      each_append (λ s. (low ≤ s.index) × IsGap (e ∷ es) s) (spots_in from to e) (spots_between from to es)
      (each_map (λ s. (writing.has_block e s.index ≡ true) × (place_in e s.index ≡ record { block = s.block; recorded = true }) × (s.recorded ≡ true) × (from ≤ s.index) × (s.index < to)) (λ s. (low ≤ s.index) × IsGap (e ∷ es) s)
      (λ s q. (
        (let o = starts e.offset (end_of e) s.index q.0 in let f = p.0 in omega (arith, o, f)),
        record { there = ap (λ (x : Bool). if x then Some (place_in e s.index) else place_at es s.index) q.0 ∙ ap (λ (pl : Place). Some pl) q.1; recorded = q.2; low = q.3; high = q.4 },
      )) (spots_in from to e) (in_each e long.0))
      (each_map (λ s. (end_of e ≤ s.index) × IsGap es s) (λ s. (low ≤ s.index) × IsGap (e ∷ es) s)
      (λ s q. (
        (let f = p.0 in let g = grows e.offset e.at.len in let l = q.0 in omega (arith, f, g, l)),
        record { there = ap (λ (x : Bool). if x then Some (place_in e s.index) else place_at es s.index) (past e.offset (end_of e) s.index q.0) ∙ q.1.there; recorded = q.1.recorded; low = q.1.low; high = q.1.high },
      )) (spots_between from to es) (gap_each (end_of e) es p.1 long.1))
    where
      starts : (o n k : ℕ) → (nat_le o k && nat_lt k n) ≡ true → o ≤ k
      starts o n k h = (Rattle.jfs_write_pages.proofs.Places.within_is o n k h).0

      past : (o n k : ℕ) → n ≤ k → (nat_le o k && nat_lt k n) ≡ false
      past o n k l = grind (arith, nat_tests)

      grows : (o n : ℕ) → o < o + (if n == 0 then 1 else n)
      grows o n = grind (arith, nat_tests)

  -- none is left out
  pub gap_there : (es : List Xad) (k b : ℕ) → AllLong es → place_at es k ≡ recorded_at b → from ≤ k → k < to → Has (recorded_spot k b) (spots_between from to es)
  gap_there [] k b long h l m = absurd (cc (h))
  gap_there (e ∷ es) k b long h l m = by (λ h. gap_there es k b long.1 h l m) (nat_le e.offset k && nat_lt k (end_of e)) refl h
    where
      some_is : {p q : Place} → Some p ≡ Some q → p ≡ q
      some_is h = cc (h)

      inside : (o n f t k : ℕ) → 1 ≤ n → f ≤ k → k < t → (nat_le o k && nat_lt k (o + (if n == 0 then 1 else n))) ≡ true → (o + (f - o) ≤ k) × (k < o + (f - o) + (min (t - o) n - (f - o)))
      inside o n f t k some l m h = (low o n f t k some l m h, high o n f t k some l m h)
        where
          low : (o n f t k : ℕ) → 1 ≤ n → f ≤ k → k < t → (nat_le o k && nat_lt k (o + (if n == 0 then 1 else n))) ≡ true → o + (f - o) ≤ k
          low o n f t k some l m h = grind (arith, nat_tests, h)

          high : (o n f t k : ℕ) → 1 ≤ n → f ≤ k → k < t → (nat_le o k && nat_lt k (o + (if n == 0 then 1 else n))) ≡ true → k < o + (f - o) + (min (t - o) n - (f - o))
          high o n f t k some l m h = grind (arith, nat_tests, h)

      at : (a o f k : ℕ) → o + (f - o) ≤ k → a + (f - o) + (k - (o + (f - o))) ≡ a + (k - o)
      at a o f k l = omega (arith, l)

      by : (place_at es k ≡ recorded_at b → Has (recorded_spot k b) (spots_between from to es)) → (x : Bool) → (nat_le e.offset k && nat_lt k (end_of e)) ≡ x → (if x then Some (place_in e k) else place_at es k) ≡ recorded_at b → Has (recorded_spot k b) (spots_in from to e ++ spots_between from to es)
      by more true t h =
          let p = some_is h in
          let i = inside e.offset e.at.len from to k long.0 l m t in
          has_front (recorded_spot k b) (spots_in from to e) (spots_between from to es)
          (subst (λ (x : Bool). Has (recorded_spot k b) (if x then run_spots (e.offset + (from - e.offset)) (e.at.addr + (from - e.offset)) (min (to - e.offset) e.at.len - (from - e.offset)) else [])) (sym (ap (λ (q : Place). q.recorded) p))
          (subst (λ (x : ℕ). Has (recorded_spot k x) (run_spots (e.offset + (from - e.offset)) (e.at.addr + (from - e.offset)) (min (to - e.offset) e.at.len - (from - e.offset))))
          (at e.at.addr e.offset from k i.0 ∙ ap (λ (q : Place). q.block) p)
          (run_has (e.offset + (from - e.offset)) (e.at.addr + (from - e.offset)) (min (to - e.offset) e.at.len - (from - e.offset)) k i.0 i.1)))
      by more false t h = has_back (recorded_spot k b) (spots_in from to e) (spots_between from to es) (more h)
