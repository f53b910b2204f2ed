-- What stands where once the extents for new and unrecorded blocks are written.
use Rattle.std.proofs.Common.{◌≡◌, ◌≢◌, ◌≤◌, ◌<◌, inl, inr, refl, sym, ap, ◌∙◌, subst, ℕ, zero, suc, ◌+◌, ◌-◌, ◌^◌, ◌&&◌, ◌==◌, Bool, true, false, not, true≢false, if◌then◌else◌, List, [], ◌∷◌, length, Option, Some, None, arith, eqb-true, eq-eqb, ne_eqb}
use Rattle.std.specs.Prelude.{nat_le, nat_lt}
use Rattle.std.specs.List.{AllByRecursion as Each}
use Rattle.std.proofs.lemmas.Bool.{leb-true, ltb-true}
use Rattle.std.proofs.lemmas.Bool.Decides.{nat_tests}
use Rattle.jfs_bits.specs.declared.extent.Xad.{Xad}
use Rattle.jfs_data_steps.specs.page_tree.specs.Edit.{count_in}
use Rattle.jfs_xtpage.specs.Page.{end_of, rises_from}
use Rattle.jfs_data_steps.specs.xtree.specs.Writing.{is_recorded, AllLong, AllTo, Place, place_in, place_at}
use Rattle.jfs_data_steps.specs.objects.specs.Owners.{covers, sum_below}
use Rattle.jfs_data_steps.specs.objects.proofs.Sums.{sum_zero, eq_or_not}
use Rattle.jfs_written.specs.RangeLaws.{or_else}
use Rattle.jfs_write_pages.specs.declared.spot.Spot.{Spot}
use Rattle.jfs_write_pages.specs.Spots.{spots_from, holes_in, placed, one_block, goes_on, longer, before, extents_for}
use Rattle.jfs_write_pages.proofs.Places.{spot_of, same_spot, rises_parts, hit}

-- ---- one block before extents

-- each is recorded, has a length, and begins at or past a bound
pub record IsRow (low : ℕ) (x : Xad) : Type 0 where
  pub recorded : x.flag ≡ 0
  pub long : 1 ≤ x.at.len
  pub from : low ≤ x.offset

pub flag_recorded : (x : Xad) → x.flag ≡ 0 → is_recorded x ≡ true
flag_recorded x h = rw h refl

abbrev placed_at : ℕ → Place
placed_at b = record { block = b; recorded = true }

both_parts : (x y : Bool) → (x && y) ≡ true → (x ≡ true) × (y ≡ true)
both_parts true true h = (refl, refl)
both_parts true false h = absurd (true≢false (sym h))
both_parts false y h = absurd (true≢false (sym h))

pub goes_on_is : (k b : ℕ) (x : Xad) → goes_on k b x ≡ true → (x.offset ≡ suc k) × (x.at.addr ≡ suc b) × (x.at.len < 2 ^ 20)
goes_on_is k b x h =
    let p = both_parts (x.offset == suc k) (x.at.addr == suc b && nat_lt x.at.len (2 ^ 20)) h in
    let q = both_parts (x.at.addr == suc b) (nat_lt x.at.len (2 ^ 20)) p.1 in
    (eqb-true x.offset (suc k) p.0, eqb-true x.at.addr (suc b) q.0, ltb-true x.at.len (2 ^ 20) q.1)

-- the block stands there, and all others where they were
pub place_before : (k b : ℕ) (xs : List Xad) (j : ℕ) → Each (IsRow (suc k)) xs → place_at (before k b xs) j ≡ (if j == k then Some (placed_at b) else place_at xs j)
place_before k b [] j rows = one k b j
  where
    one : (k b j : ℕ) → (if nat_le k j && nat_lt j (k + 1) then Some (place_in (one_block k b) j) else None) ≡ (if j == k then Some (placed_at b) else None)
    one k b j = by (j == k) refl
      where
        in_it : (k j : ℕ) → j ≡ k → (nat_le k j && nat_lt j (k + 1)) ≡ true
        in_it k j e = grind (arith, nat_tests)

        off_it : (k j : ℕ) → (j == k) ≡ false → (nat_le k j && nat_lt j (k + 1)) ≡ false
        off_it k j e = grind (arith, nat_tests, e)

        at : (b k j : ℕ) → j ≡ k → b + (j - k) ≡ b
        at b k j e = omega (arith, e)

        by : (x : Bool) → (j == k) ≡ x → (if nat_le k j && nat_lt j (k + 1) then Some (place_in (one_block k b) j) else None) ≡ (if x then Some (placed_at b) else None)
        by true e = ap (λ (t : Bool). if t then Some (place_in (one_block k b) j) else None) (in_it k j (eqb-true j k e)) ∙ ap (λ (n : ℕ). Some (placed_at n)) (at b k j (eqb-true j k e))
        by false e = ap (λ (t : Bool). if t then Some (place_in (one_block k b) j) else None) (off_it k j e)
place_before k b (x ∷ xs) j rows = by (goes_on k b x) refl
  where
    rec : is_recorded x ≡ true
    rec = flag_recorded x rows.0.recorded

    apart : place_at (one_block k b ∷ x ∷ xs) j ≡ (if j == k then Some (placed_at b) else place_at (x ∷ xs) j)
    apart = both (nat_le k j && nat_lt j (k + 1)) (j == k) (tests k j) (at b k j)
      where
        tests : (k j : ℕ) → (nat_le k j && nat_lt j (k + 1)) ≡ (j == k)
        tests k j = grind (arith, nat_tests)

        at : (b k j : ℕ) → (j == k) ≡ true → b + (j - k) ≡ b
        at b k j e = let h = eqb-true j k e in omega (arith, h)

        both : (s t : Bool) → s ≡ t → (t ≡ true → b + (j - k) ≡ b) → (if s then Some (place_in (one_block k b) j) else place_at (x ∷ xs) j) ≡ (if t then Some (placed_at b) else place_at (x ∷ xs) j)
        both true true e f = ap (λ (n : ℕ). Some (placed_at n)) (f refl)
        both true false e f = absurd (true≢false e)
        both false true e f = absurd (true≢false (sym e))
        both false false e f = refl

    joined : goes_on k b x ≡ true → place_at (longer k b x ∷ xs) j ≡ (if j == k then Some (placed_at b) else place_at (x ∷ xs) j)
    joined g = let s = goes_on_is k b x g in elim (eq_or_not j k) [
      | inl e ↦ ap (λ (t : Bool). if t then Some (place_in (longer k b x) j) else place_at xs j) (first k x.at.len j e)
          ∙ ap (λ (n : ℕ). Some (record { block = n; recorded = is_recorded x })) (at b k j e) ∙ ap (λ (t : Bool). Some (record { block = b; recorded = t })) rec
          ∙ sym (ap (λ (t : Bool). if t then Some (placed_at b) else place_at (x ∷ xs) j) (eq-eqb j k e))
      | inr ne ↦ ap (λ (t : Bool). if t then Some (place_in (longer k b x) j) else place_at xs j) (others k x.offset x.at.len j s.0 rows.0.long ne)
          ∙ moved (nat_le x.offset j && nat_lt j (end_of x)) refl s.0 s.1
          ∙ sym (ap (λ (t : Bool). if t then Some (placed_at b) else place_at (x ∷ xs) j) (ne_eqb j k ne))
    ]
      where
        first : (k n j : ℕ) → j ≡ k → (nat_le k j && nat_lt j (k + (if suc n == 0 then 1 else suc n))) ≡ true
        first k n j e = grind (arith, nat_tests)

        at : (b k j : ℕ) → j ≡ k → b + (j - k) ≡ b
        at b k j e = omega (arith, e)

        others : (k o n j : ℕ) → o ≡ suc k → 1 ≤ n → j ≢ k → (nat_le k j && nat_lt j (k + (if suc n == 0 then 1 else suc n))) ≡ (nat_le o j && nat_lt j (o + (if n == 0 then 1 else n)))
        others k o n j e l ne = grind (arith, nat_tests)

        moved : (t : Bool) → (nat_le x.offset j && nat_lt j (end_of x)) ≡ t → x.offset ≡ suc k → x.at.addr ≡ suc b → (if t then Some (place_in (longer k b x) j) else place_at xs j) ≡ (if t then Some (place_in x j) else place_at xs j)
        moved true h e f = ap (λ (n : ℕ). Some (record { block = n; recorded = is_recorded x })) (let w = in_it x.offset (end_of x) j h in omega (arith, e, f, w))
          where
            in_it : (o n j : ℕ) → (nat_le o j && nat_lt j n) ≡ true → o ≤ j
            in_it o n j h = leb-true o j (both_parts (nat_le o j) (nat_lt j n) h).0
        moved false h e f = refl

    by : (t : Bool) → goes_on k b x ≡ t → place_at (if t then longer k b x ∷ xs else one_block k b ∷ x ∷ xs) j ≡ (if j == k then Some (placed_at b) else place_at (x ∷ xs) j)
    by true g = joined g
    by false g = apart

weaker : (low high : ℕ) (xs : List Xad) → low ≤ high → Each (IsRow high) xs → Each (IsRow low) xs
weaker low high [] l rows = tt
weaker low high (x ∷ xs) l rows = (record { recorded = rows.0.recorded; long = rows.0.long; from = (let f = rows.0.from in omega (arith, f, l)) }, weaker low high xs l rows.1)

rows_before : (k b : ℕ) (xs : List Xad) → Each (IsRow (suc k)) xs → Each (IsRow k) (before k b xs)
rows_before k b [] rows = (record { recorded = refl; long = omega arith; from = omega arith }, tt)
rows_before k b (x ∷ xs) rows = by (goes_on k b x)
  where
    by : (t : Bool) → Each (IsRow k) (if t then longer k b x ∷ xs else one_block k b ∷ x ∷ xs)
    by true = (record { recorded = rows.0.recorded; long = omega arith; from = omega arith }, weaker k (suc k) xs (omega arith) rows.1)
    by false = (record { recorded = refl; long = omega arith; from = omega arith }, weaker k (suc k) (x ∷ xs) (omega arith) rows)

-- ---- blocks of a file, one after the other

abbrev pub AreFrom : ℕ → List Spot → Type 0
AreFrom k [] = Unit {0}
AreFrom k (s ∷ ss) = (s.index ≡ k) × AreFrom (suc k) ss

pub extents_rows : (k : ℕ) (ss : List Spot) → AreFrom k ss → Each (IsRow k) (extents_for ss)
extents_rows k [] from = tt
extents_rows k (s ∷ ss) from = by (extents_rows (suc k) ss from.1) s.recorded
  where
    by : Each (IsRow (suc k)) (extents_for ss) → (t : Bool) → Each (IsRow k) (if t then extents_for ss else before s.index s.block (extents_for ss))
    by rest true = weaker k (suc k) (extents_for ss) (omega arith) rest
    by rest false = subst (λ (i : ℕ). Each (IsRow i) (before s.index s.block (extents_for ss))) from.0 (rows_before s.index s.block (extents_for ss) (subst (λ (i : ℕ). Each (IsRow (suc i)) (extents_for ss)) (sym from.0) rest))

-- where the extents of these blocks have block `j`
abbrev pub new_at : List Spot → ℕ → Option Place
new_at [] j = None
new_at (s ∷ ss) j = if j == s.index && not s.recorded then Some (placed_at s.block) else new_at ss j

pub extents_at : (k : ℕ) (ss : List Spot) (j : ℕ) → AreFrom k ss → place_at (extents_for ss) j ≡ new_at ss j
extents_at k [] j from = refl
extents_at k (s ∷ ss) j from = by (extents_at (suc k) ss j from.1) s.recorded
  where
    off : (t : Bool) → (t && false) ≡ false
    off true = refl
    off false = refl

    on : (t : Bool) → (t && true) ≡ t
    on true = refl
    on false = refl

    by : place_at (extents_for ss) j ≡ new_at ss j → (t : Bool) → place_at (if t then extents_for ss else before s.index s.block (extents_for ss)) j ≡ (if j == s.index && not t then Some (placed_at s.block) else new_at ss j)
    by rest true = rest ∙ sym (ap (λ (x : Bool). if x then Some (placed_at s.block) else new_at ss j) (off (j == s.index)))
    by rest false = place_before s.index s.block (extents_for ss) j (subst (λ (i : ℕ). Each (IsRow (suc i)) (extents_for ss)) (sym from.0) (extents_rows (suc k) ss from.1))
        ∙ ap (λ (p : Option Place). if j == s.index then Some (placed_at s.block) else p) rest
        ∙ sym (ap (λ (x : Bool). if x then Some (placed_at s.block) else new_at ss j) (on (j == s.index)))

pub none_new : (k : ℕ) (ss : List Spot) (j : ℕ) → AreFrom k ss → j < k → new_at ss j ≡ None
none_new k [] j from l = refl
none_new k (s ∷ ss) j from l = ap (λ (x : Bool). if x && not s.recorded then Some (placed_at s.block) else new_at ss j) (ne_eqb j s.index (apart j k s.index l from.0)) ∙ none_new (suc k) ss j from.1 (omega (arith, l))
  where
    apart : (j k i : ℕ) → j < k → i ≡ k → j ≢ i
    apart j k i l e = grind arith

-- ---- the blocks of the file that are placed

pub placed_from : (k : ℕ) (es : List Xad) (n : ℕ) (news : List ℕ) → AllLong es → AreFrom k (placed k (spots_from es k n) news)
unfolding spots_from
placed_from k es zero news long = tt
placed_from k es (suc n) news long = subst (λ (s : Option Spot). AreFrom k (placed k (s ∷ spots_from es (suc k) n) news)) (sym (same_spot es k long)) (by (λ news. placed_from (suc k) es n news long) (place_at es k) news)
  where
    by : ((news : List ℕ) → AreFrom (suc k) (placed (suc k) (spots_from es (suc k) n) news)) → (p : Option Place) (news : List ℕ) → AreFrom k (placed k (spot_of k p ∷ spots_from es (suc k) n) news)
    by more (Some p) news = (refl, more news)
    by more None [] = tt
    by more None (b ∷ news) = (refl, more news)

-- a new block in a hole
abbrev extra : ℕ → ℕ → List (Option Spot) → List ℕ → ℕ → ℕ
extra b k [] news j = 0
extra b k (Some s ∷ ss) news j = extra b (suc k) ss news j
extra b k (None ∷ ss) [] j = 0
extra b k (None ∷ ss) (x ∷ news) j = (if j == k then (if x == b then 1 else 0) else 0) + extra b (suc k) ss news j

no_extra : (b k : ℕ) (ss : List (Option Spot)) (news : List ℕ) (j : ℕ) → j < k → extra b k ss news j ≡ 0
no_extra b k [] news j l = refl
no_extra b k (Some s ∷ ss) news j l = no_extra b (suc k) ss news j (omega (arith, l))
no_extra b k (None ∷ ss) [] j l = refl
no_extra b k (None ∷ ss) (x ∷ news) j l = ap (λ (t : Bool). (if t then (if x == b then 1 else 0) else 0) + extra b (suc k) ss news j) (ne_eqb j k (apart j k l)) ∙ front (extra b (suc k) ss news j) ∙ no_extra b (suc k) ss news j (omega (arith, l))
  where
    front : (c : ℕ) → 0 + c ≡ c
    front c = omega arith

    apart : (j k : ℕ) → j < k → j ≢ k
    apart j k l = grind arith

-- block by block: what is there afterwards has a block of the volume where it had it before, or it is new
after_hit : (b : ℕ) (es : List Xad) (k n : ℕ) (news : List ℕ) (j : ℕ) → AllLong es → holes_in (spots_from es k n) ≡ length news
    → hit b (or_else (new_at (placed k (spots_from es k n) news) j) (place_at es j)) ≡ hit b (place_at es j) + extra b k (spots_from es k n) news j
unfolding spots_from
after_hit b es k zero news j long number = plus (hit b (place_at es j))
  where
    plus : (c : ℕ) → c ≡ c + 0
    plus c = omega arith
after_hit b es k (suc n) news j long number =
    subst (λ (s : Option Spot). holes_in (s ∷ spots_from es (suc k) n) ≡ length news → hit b (or_else (new_at (placed k (s ∷ spots_from es (suc k) n) news) j) (place_at es j)) ≡ hit b (place_at es j) + extra b k (s ∷ spots_from es (suc k) n) news j)
    (sym (same_spot es k long)) (by (λ news. after_hit b es (suc k) n news j long) (place_at es k) refl news) number
  where
    Later : List ℕ → Type 0
    Later news = holes_in (spots_from es (suc k) n) ≡ length news → hit b (or_else (new_at (placed (suc k) (spots_from es (suc k) n) news) j) (place_at es j)) ≡ hit b (place_at es j) + extra b (suc k) (spots_from es (suc k) n) news j

    by : ((news : List ℕ) → Later news) → (p : Option Place) → place_at es k ≡ p → (news : List ℕ) → holes_in (spot_of k p ∷ spots_from es (suc k) n) ≡ length news
        → hit b (or_else (new_at (placed k (spot_of k p ∷ spots_from es (suc k) n) news) j) (place_at es j)) ≡ hit b (place_at es j) + extra b k (spot_of k p ∷ spots_from es (suc k) n) news j
    by more (Some p) is news number = elim (eq_or_not j k) [
      | inl e ↦ old p.recorded e
      | inr ne ↦ ap (λ (t : Bool). hit b (or_else (if t && not p.recorded then Some (placed_at p.block) else new_at (placed (suc k) (spots_from es (suc k) n) news) j) (place_at es j))) (ne_eqb j k ne) ∙ more news number
    ]
      where
        was : j ≡ k → place_at es j ≡ Some p
        was e = ap (place_at es) e ∙ is

        none : j ≡ k → new_at (placed (suc k) (spots_from es (suc k) n) news) j ≡ None
        none e = none_new (suc k) (placed (suc k) (spots_from es (suc k) n) news) j (placed_from (suc k) es n news long) (omega (arith, e))

        zero_more : j ≡ k → extra b (suc k) (spots_from es (suc k) n) news j ≡ 0
        zero_more e = no_extra b (suc k) (spots_from es (suc k) n) news j (omega (arith, e))

        plus : (c z : ℕ) → z ≡ 0 → c ≡ c + z
        plus c z e = omega (arith, e)

        old : (t : Bool) → j ≡ k → hit b (or_else (if j == k && not t then Some (placed_at p.block) else new_at (placed (suc k) (spots_from es (suc k) n) news) j) (place_at es j)) ≡ hit b (place_at es j) + extra b (suc k) (spots_from es (suc k) n) news j
        old true e = ap (λ (x : Bool). hit b (or_else (if x then Some (placed_at p.block) else new_at (placed (suc k) (spots_from es (suc k) n) news) j) (place_at es j))) (off (j == k))
            ∙ ap (λ (x : Option Place). hit b (or_else x (place_at es j))) (none e) ∙ plus (hit b (place_at es j)) (extra b (suc k) (spots_from es (suc k) n) news j) (zero_more e)
          where
            off : (t : Bool) → (t && false) ≡ false
            off true = refl
            off false = refl
        old false e = ap (λ (x : Bool). hit b (or_else (if x && true then Some (placed_at p.block) else new_at (placed (suc k) (spots_from es (suc k) n) news) j) (place_at es j))) (eq-eqb j k e)
            ∙ sym (ap (hit b) (was e)) ∙ plus (hit b (place_at es j)) (extra b (suc k) (spots_from es (suc k) n) news j) (zero_more e)
    by more None is [] number = absurd (omega (arith, number))
    by more None is (x ∷ news) number = elim (eq_or_not j k) [
      | inl e ↦ ap (λ (t : Bool). hit b (or_else (if t && true then Some (placed_at x) else new_at (placed (suc k) (spots_from es (suc k) n) news) j) (place_at es j))) (eq-eqb j k e)
          ∙ here e
      | inr ne ↦ ap (λ (t : Bool). hit b (or_else (if t && true then Some (placed_at x) else new_at (placed (suc k) (spots_from es (suc k) n) news) j) (place_at es j))) (ne_eqb j k ne)
          ∙ more news (omega (arith, number))
          ∙ front (hit b (place_at es j)) (extra b (suc k) (spots_from es (suc k) n) news j)
          ∙ sym (ap (λ (t : Bool). hit b (place_at es j) + ((if t then (if x == b then 1 else 0) else 0) + extra b (suc k) (spots_from es (suc k) n) news j)) (ne_eqb j k ne))
    ]
      where
        front : (c z : ℕ) → c + z ≡ c + (0 + z)
        front c z = omega arith

        here : j ≡ k → hit b (Some (placed_at x)) ≡ hit b (place_at es j) + ((if j == k then (if x == b then 1 else 0) else 0) + extra b (suc k) (spots_from es (suc k) n) news j)
        here e = let z = no_extra b (suc k) (spots_from es (suc k) n) news j (omega (arith, e)) in
            let w : hit b (place_at es j) ≡ 0 = ap (λ (i : ℕ). hit b (place_at es i)) e ∙ ap (hit b) is in
            let t = ap {B = ℕ} (λ (t : Bool). if t then (if x == b then 1 else 0) else 0) (eq-eqb j k e) in
            omega (arith, z, w, t)

-- so many new blocks, each once
extra_sum : (b bound k : ℕ) (ss : List (Option Spot)) (news : List ℕ) → k + length ss ≤ bound → holes_in ss ≡ length news → sum_below bound (extra b k ss news) ≡ count_in b news
extra_sum b bound k [] [] to number = sum_zero bound (λ j. 0) (λ j. refl)
extra_sum b bound k [] (x ∷ news) to number = absurd (omega (arith, number))
extra_sum b bound k (Some s ∷ ss) news to number = extra_sum b bound (suc k) ss news (omega (arith, to)) number
extra_sum b bound k (None ∷ ss) [] to number = absurd (omega (arith, number))
extra_sum b bound k (None ∷ ss) (x ∷ news) to number =
    let rest = extra_sum b bound (suc k) ss news (omega (arith, to)) (omega (arith, number)) in
    let one = Rattle.jfs_write_pages.proofs.Places.sum_single bound (λ j. if j == k then (if x == b then 1 else 0) else 0) k (omega (arith, to)) (λ j l ne. ap (λ (t : Bool). if t then (if x == b then 1 else 0) else 0) (ne_eqb j k ne)) in
    let here = ap {B = ℕ} (λ (t : Bool). if t then (if x == b then 1 else 0) else 0) (eq-eqb k k refl) in
    let sum = Rattle.jfs_write_pages.proofs.Places.sum_add bound (λ j. if j == k then (if x == b then 1 else 0) else 0) (extra b (suc k) ss news) (extra b k (None ∷ ss) (x ∷ news)) (λ j l. refl) in
    omega (arith, rest, one, here, sum)

length_spots : (es : List Xad) (k n : ℕ) → length (spots_from es k n) ≡ n
unfolding spots_from
length_spots es k zero = refl
length_spots es k (suc n) = ap suc (length_spots es (suc k) n)

-- Once the extents for them are written, extents have a block of the volume as often as before, and each new block once.
pub covers_more : (b low high bound : ℕ) (es later : List Xad) (k n : ℕ) (news : List ℕ) → rises_from low es ≡ true → AllLong es → AllTo bound es → rises_from high later ≡ true → AllLong later → AllTo bound later → k + n ≤ bound
    → holes_in (spots_from es k n) ≡ length news → ((j : ℕ) → place_at later j ≡ or_else (place_at (extents_for (placed k (spots_from es k n) news)) j) (place_at es j))
    → covers b later ≡ covers b es + count_in b news
covers_more b low high bound es later k n news r long to rl ll tl inside number each =
    let one = Rattle.jfs_write_pages.proofs.Places.covers_are b low bound es r long to in
    let two = Rattle.jfs_write_pages.proofs.Places.covers_are b high bound later rl ll tl in
    let more = extra_sum b bound k (spots_from es k n) news (let l = length_spots es k n in omega (arith, l, inside)) number in
    let sum = Rattle.jfs_write_pages.proofs.Places.sum_add bound (λ j. hit b (place_at es j)) (extra b k (spots_from es k n) news) (λ j. hit b (place_at later j)) (λ j l. ap (hit b) (each j)
    ∙ ap (λ (p : Option Place). hit b (or_else p (place_at es j))) (extents_at k (placed k (spots_from es k n) news) j (placed_from k es n news long)) ∙ after_hit b es k n news j long number) in
    omega (arith, one, two, more, sum)
