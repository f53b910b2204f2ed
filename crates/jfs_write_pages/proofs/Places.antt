-- Where blocks of a file stand: spots and places.
use Rattle.std.proofs.Common.{◌≡◌, ◌≢◌, ◌≤◌, ◌<◌, inl, inr, refl, sym, ap, ◌∙◌, ℕ, zero, suc, ◌+◌, ◌-◌, ◌&&◌, ◌==◌, Bool, true, false, true≢false, if◌then◌else◌, List, [], ◌∷◌, Option, Some, None, arith, eq-eqb}
use Rattle.std.specs.Prelude.{nat_le, nat_lt}
use Rattle.std.proofs.lemmas.Bool.{leb-true, ltb-true, cases_lt}
use Rattle.std.proofs.lemmas.Bool.Decides.{nat_tests}
use Rattle.jfs_bits.specs.declared.extent.Xad.{Xad}
use Rattle.jfs_xtpage.specs.Page.{end_of, rises_from}
use Rattle.jfs_data_steps.specs.xtree.specs.Writing.{AllLong, AllTo, Place, place_in, place_at}
use Rattle.jfs_data_steps.specs.objects.specs.Owners.{covers, run_has, sum_below}
use Rattle.jfs_data_steps.specs.objects.proofs.Sums.{sum_zero, sum_put, sum_one, sum_two, eq_or_not}
use Rattle.jfs_written.proofs.Each.{long_end}
use Rattle.jfs_write_pages.specs.declared.spot.Spot.{Spot}
use Rattle.jfs_write_pages.specs.Spots.{spot_in, spot_at}

-- ---- a spot is a place with its number

abbrev pub spot_of : ℕ → Option Place → Option Spot
spot_of k None = None
spot_of k (Some p) = Some (record { index = k; block = p.block; recorded = p.recorded })

pub same_spot : (es : List Xad) (k : ℕ) → AllLong es → spot_at es k ≡ spot_of k (place_at es k)
same_spot [] k long = refl
same_spot (e ∷ es) k long =
    ap (λ (n : ℕ). if nat_le e.offset k && nat_lt k n then Some (spot_in e k) else spot_at es k) (sym (long_end e.offset e.at.len long.0))
    ∙ by (nat_le e.offset k && nat_lt k (end_of e)) (same_spot es k long.1)
  where
    by : (x : Bool) → spot_at es k ≡ spot_of k (place_at es k) → (if x then Some (spot_in e k) else spot_at es k) ≡ spot_of k (if x then Some (place_in e k) else place_at es k)
    by true h = refl
    by false h = h

-- ---- extents that rise

pub rises_parts : (low : ℕ) (e : Xad) (es : List Xad) → rises_from low (e ∷ es) ≡ true → (low ≤ e.offset) × (rises_from (end_of e) es ≡ true)
rises_parts low e es h = by (nat_le low e.offset) refl h
  where
    by : (x : Bool) → nat_le low e.offset ≡ x → (if x then rises_from (end_of e) es else false) ≡ true → (low ≤ e.offset) × (rises_from (end_of e) es ≡ true)
    by true t h = (leb-true low e.offset t, h)
    by false t h = absurd (true≢false (sym h))

none_ahead : (o n k : ℕ) → k < o → (nat_le o k && nat_lt k n) ≡ false
none_ahead o n k l = grind (arith, nat_tests)

none_past : (o n k : ℕ) → n ≤ k → (nat_le o k && nat_lt k n) ≡ false
none_past o n k l = grind (arith, nat_tests)

pub within_is : (o n k : ℕ) → (nat_le o k && nat_lt k n) ≡ true → (o ≤ k) × (k < n)
within_is o n k h = by (nat_le o k) refl (nat_lt k n) refl h
  where
    by : (x : Bool) → nat_le o k ≡ x → (y : Bool) → nat_lt k n ≡ y → (x && y) ≡ true → (o ≤ k) × (k < n)
    by true e true f h = (leb-true o k e, ltb-true k n f)
    by true e false f h = absurd (true≢false (sym h))
    by false e y f h = absurd (true≢false (sym h))

pub none_below : (low : ℕ) (es : List Xad) (k : ℕ) → rises_from low es ≡ true → k < low → place_at es k ≡ None
none_below low [] k r l = refl
none_below low (e ∷ es) k r l =
    let p = rises_parts low e es r in
    ap (λ (x : Bool). if x then Some (place_in e k) else place_at es k) (none_ahead e.offset (end_of e) k (let a = p.0 in omega (arith, a, l)))
    ∙ none_below (end_of e) es k p.1 (let a = p.0 in let g = grows e.offset e.at.len in omega (arith, a, l, g))
  where
    grows : (o n : ℕ) → o < o + (if n == 0 then 1 else n)
    grows o n = grind (arith, nat_tests)

pub none_from : (bound : ℕ) (es : List Xad) (k : ℕ) → AllTo bound es → bound ≤ k → place_at es k ≡ None
none_from bound [] k to l = refl
none_from bound (e ∷ es) k to l = ap (λ (x : Bool). if x then Some (place_in e k) else place_at es k) (none_past e.offset (end_of e) k (let t = to.0 in omega (arith, t, l))) ∙ none_from bound es k to.1 l

no_some : {A : Type 0} {x : A} → None ≡ Some x → ⊥
no_some h = cc (h)

pub some_below : (bound : ℕ) (es : List Xad) (k : ℕ) (p : Place) → AllTo bound es → place_at es k ≡ Some p → k < bound
some_below bound es k p to h = elim (cases_lt k bound) [
  | inl l ↦ l
  | inr l ↦ absurd (no_some (sym (none_from bound es k to l) ∙ h))
]

-- ---- blocks by places

abbrev pub hit : ℕ → Option Place → ℕ
hit b None = 0
hit b (Some p) = if p.block == b then 1 else 0

pub sum_add : (n : ℕ) (f g h : ℕ → ℕ) → ((k : ℕ) → k < n → h k ≡ f k + g k) → sum_below n h ≡ sum_below n f + sum_below n g
unfolding sum_below
sum_add zero f g h e = refl
sum_add (suc n) f g h e = let a = sum_add n f g h (λ k l. e k (omega (arith, l))) in let b = e n (omega arith) in omega (arith, a, b)

-- one place alone counts
pub sum_single : (n : ℕ) (g : ℕ → ℕ) (m : ℕ) → m < n → ((k : ℕ) → k < n → k ≢ m → g k ≡ 0) → sum_below n g ≡ g m
sum_single n g m l h = let a = sum_put n (λ k. 0) g m l h in let z = sum_zero n (λ k. 0) (λ k. refl) in omega (arith, a, z)

abbrev own : ℕ → Xad → ℕ → ℕ
own b e k = if nat_le e.offset k && nat_lt k (end_of e) then (if e.at.addr + (k - e.offset) == b then 1 else 0) else 0

-- an extent has each of its blocks once
own_sum : (b bound : ℕ) (e : Xad) → 1 ≤ e.at.len → end_of e ≤ bound → sum_below bound (own b e) ≡ run_has e.at b
own_sum b bound e some to = by (nat_le e.at.addr b && nat_lt b (e.at.addr + e.at.len)) refl
  where
    len : end_of e ≡ e.offset + e.at.len
    len = long_end e.offset e.at.len some

    one : (o a n k b : ℕ) → a ≤ b → b < a + n → k ≡ o + (b - a) → (if nat_le o k && nat_lt k (o + n) then (if a + (k - o) == b then 1 else 0) else 0) ≡ (let m : ℕ = 1 in m)
    one o a n k b l u e = grind (arith, nat_tests)

    none : (o a n k b : ℕ) → a ≤ b → k ≢ o + (b - a) → (if nat_le o k && nat_lt k (o + n) then (if a + (k - o) == b then 1 else 0) else 0) ≡ (let m : ℕ = 0 in m)
    none o a n k b l e = grind (arith, nat_tests)

    outside : (o a n k b : ℕ) → (nat_le a b && nat_lt b (a + n)) ≡ false → (if nat_le o k && nat_lt k (o + n) then (if a + (k - o) == b then 1 else 0) else 0) ≡ (let m : ℕ = 0 in m)
    outside o a n k b h = grind (arith, nat_tests, h)

    at_end : (k : ℕ) → own b e k ≡ (if nat_le e.offset k && nat_lt k (e.offset + e.at.len) then (if e.at.addr + (k - e.offset) == b then 1 else 0) else 0)
    at_end k = ap (λ (n : ℕ). if nat_le e.offset k && nat_lt k n then (if e.at.addr + (k - e.offset) == b then 1 else 0) else 0) len

    by : (x : Bool) → (nat_le e.at.addr b && nat_lt b (e.at.addr + e.at.len)) ≡ x → sum_below bound (own b e) ≡ (let m : ℕ = (if x then 1 else 0) in m)
    by true h =
        let w = within_is e.at.addr (e.at.addr + e.at.len) b h in
        let m = e.offset + (b - e.at.addr) in
        sum_single bound (own b e) m (omega (arith, w.0, w.1, to, len)) (λ k l ne. at_end k ∙ none e.offset e.at.addr e.at.len k b w.0 ne)
        ∙ at_end m ∙ one e.offset e.at.addr e.at.len m b w.0 w.1 refl
    by false h = sum_zero bound (own b e) (λ k. at_end k ∙ outside e.offset e.at.addr e.at.len k b h)

-- Extents have a block of the volume so often as blocks of the file stand there.
pub covers_are : (b low bound : ℕ) (es : List Xad) → rises_from low es ≡ true → AllLong es → AllTo bound es → covers b es ≡ sum_below bound (λ k. hit b (place_at es k))
covers_are b low bound [] r long to = sym (sum_zero bound (λ k. 0) (λ k. refl))
covers_are b low bound (e ∷ es) r long to =
    let p = rises_parts low e es r in
    let rest = covers_are b (end_of e) bound es p.1 long.1 to.1 in
    let here = own_sum b bound e long.0 to.0 in
    let sum = sum_add bound (own b e) (λ k. hit b (place_at es k)) (λ k. hit b (place_at (e ∷ es) k)) (λ k l. each p.1 k) in
    omega (arith, rest, here, sum)
  where
    each : rises_from (end_of e) es ≡ true → (k : ℕ) → hit b (if nat_le e.offset k && nat_lt k (end_of e) then Some (place_in e k) else place_at es k) ≡ own b e k + hit b (place_at es k)
    each rise k = by (nat_le e.offset k && nat_lt k (end_of e)) refl
      where
        by : (x : Bool) → (nat_le e.offset k && nat_lt k (end_of e)) ≡ x → hit b (if x then Some (place_in e k) else place_at es k) ≡ (if x then (if e.at.addr + (k - e.offset) == b then 1 else 0) else 0) + hit b (place_at es k)
        by true h = let n = ap (hit b) (none_below (end_of e) es k rise (within_is e.offset (end_of e) k h).1) in
            let plus : (c : ℕ) → c ≡ c + 0 = λ c. omega arith in
            plus (if e.at.addr + (k - e.offset) == b then 1 else 0) ∙ ap (λ (z : ℕ). (if e.at.addr + (k - e.offset) == b then 1 else 0) + z) (sym n)
        by false h = let front : (c : ℕ) → c ≡ 0 + c = λ c. omega arith in front (hit b (place_at es k))

hit_self : (p : Place) → hit p.block (Some p) ≡ 1
hit_self p = ap (λ (x : Bool). if x then 1 else 0) (eq-eqb p.block p.block refl)

-- a block of the file has its block of the volume
pub has_place : (low bound : ℕ) (es : List Xad) (k : ℕ) (p : Place) → rises_from low es ≡ true → AllLong es → AllTo bound es → place_at es k ≡ Some p → 0 < covers p.block es
has_place low bound es k p r long to h =
    let c = covers_are p.block low bound es r long to in
    let o = sum_one bound (λ k. hit p.block (place_at es k)) k (some_below bound es k p to h) in
    let one : hit p.block (place_at es k) ≡ 1 = ap (hit p.block) h ∙ hit_self p in
    omega (arith, c, o, one)

-- and two of them have different ones
pub same_index : (low bound : ℕ) (es : List Xad) (k j : ℕ) (p q : Place) → rises_from low es ≡ true → AllLong es → AllTo bound es → covers p.block es ≤ 1 → place_at es k ≡ Some p → place_at es j ≡ Some q → p.block ≡ q.block → j ≡ k
same_index low bound es k j p q r long to once h g same = elim (eq_or_not j k) [
  | inl e ↦ e
  | inr ne ↦ absurd (
      let c = covers_are p.block low bound es r long to in
      let t = sum_two bound (λ k. hit p.block (place_at es k)) k j (some_below bound es k p to h) (some_below bound es j q to g) ne in
      let one : hit p.block (place_at es k) ≡ 1 = ap (hit p.block) h ∙ hit_self p in
      let two : hit p.block (place_at es j) ≡ 1 = ap (hit p.block) g ∙ ap (λ (b : ℕ). hit b (Some q)) same ∙ hit_self q in
      omega (arith, c, t, one, two, once))
]
