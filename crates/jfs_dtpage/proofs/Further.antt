-- A name's further slots: a chain of them, slot by slot.
use Rattle.std.proofs.Common.{◌≡◌, ◌≤◌, ◌<◌, ◌+◌, ◌-◌, ◌*◌, ℕ, suc, List, [], ◌∷◌, ◌++◌, length, refl, sym, ap, ◌∙◌, subst, inl, inr, length-append, arith}
use Rattle.std.specs.Prelude.{min, Bool, true, false, ◌==◌}
use Rattle.std.specs.List.{AllByRecursion}
use Rattle.std.proofs.lemmas.Bool.{cases_eq, eq-eqb, ne_eqb, true≢false}
use Rattle.std.proofs.lemmas.List.{append-nil}
use Rattle.jfs_bits.specs.Field.{field_of}
use Rattle.jfs_dtpage.specs.Slots.{chain_end, next_of, follow, behind, units_at, gather, slots_for, times, AreWithin, Kept, SameSlot, KeptBut}
use Rattle.jfs_dtpage.proofs.Kept.{kept_slot, same_both, same_field}
use Rattle.jfs_dtpage.proofs.Lists.{units_same, times_here, all_from}
use Rattle.jfs_dtpage.proofs.Chains.{follow_same, behind_same}

pub is_zero : (n : ℕ) (b : Bool) → b ≡ (n == 0) → b ≡ true → n ≡ 0
is_zero n b e t = elim (cases_eq n 0) [ inl z ↦ z | inr other ↦ absurd (true≢false (sym t ∙ e ∙ ne_eqb n 0 other)) ]

pub not_zero : (n : ℕ) (b : Bool) → b ≡ (n == 0) → b ≡ false → n ≡ 0 → ⊥
not_zero n b e f z = true≢false (sym (eq-eqb n 0 z) ∙ sym e ∙ f)

-- ---- one slot, and the others

slots_step : (n : ℕ) → 0 < n → slots_for n ≡ suc (slots_for (n - 15))
slots_step n h = omega arith

pub follow_one : (bytes : List ℕ) (slot n : ℕ) → 0 < n → follow bytes slot (slots_for n) ≡ slot ∷ follow bytes (next_of bytes slot) (slots_for (n - 15))
unfolding follow
follow_one bytes slot n h = ap (λ (m : ℕ). follow bytes slot m) (slots_step n h)

pub behind_one : (bytes : List ℕ) (slot n : ℕ) → 0 < n → behind bytes slot (slots_for n) ≡ behind bytes (next_of bytes slot) (slots_for (n - 15))
unfolding behind
behind_one bytes slot n h = ap (λ (m : ℕ). behind bytes slot m) (slots_step n h)

pub gather_one : (bytes : List ℕ) (slot n : ℕ) → 0 < n → gather bytes slot (slots_for n) n ≡ units_at bytes (32 * slot + 2) (min n 15) ++ gather bytes (next_of bytes slot) (slots_for (n - 15)) (n - 15)
unfolding gather
gather_one bytes slot n h = ap (λ (m : ℕ). gather bytes slot m n) (slots_step n h)

pub gather_none : (bytes : List ℕ) (slot : ℕ) (xs : List ℕ) → length xs ≡ 0 → xs ≡ gather bytes slot (slots_for (length xs)) (length xs)
unfolding gather
gather_none bytes slot [] e = refl
gather_none bytes slot (x ∷ xs) e = absurd (more (length xs) e)
  where
    more : (n : ℕ) → suc n ≡ 0 → ⊥
    more n e = omega (arith, e)

pub within_one : (bytes : List ℕ) (slot n : ℕ) → 0 < n → AreWithin bytes (follow bytes slot (slots_for n)) → (32 * slot + 32 ≤ length bytes) × AreWithin bytes (follow bytes (next_of bytes slot) (slots_for (n - 15)))
within_one bytes slot n h all = subst (AreWithin bytes) (follow_one bytes slot n h) all

-- ---- reading

pub gathers : (bytes : List ℕ) (slot n rest : ℕ) (here more : List ℕ) → 0 < n → rest ≡ n - 15 → here ≡ units_at bytes (32 * slot + 2) (min n 15) → more ≡ gather bytes (next_of bytes slot) (slots_for rest) rest
    → here ++ more ≡ gather bytes slot (slots_for n) n
gathers bytes slot n rest here more h r a b =
    ap (λ (z : List ℕ). z ++ more) a ∙ ap (λ (z : List ℕ). units_at bytes (32 * slot + 2) (min n 15) ++ z) (b ∙ ap (λ (k : ℕ). gather bytes (next_of bytes slot) (slots_for k) k) r) ∙ sym (gather_one bytes slot n h)

-- ---- writing

-- what a call leaves that puts the units into a chain of slots and ends it
pub record PutsFurther (old new : List ℕ) (slot : ℕ) (units : List ℕ) (result : ℕ) : Type 0 where
  pub next : result ≡ behind old slot (slots_for (length units))
  pub chain : follow new slot (slots_for (length units)) ≡ follow old slot (slots_for (length units))
  pub ends : behind new slot (slots_for (length units)) ≡ chain_end
  pub units_are : gather new slot (slots_for (length units)) (length units) ≡ units
  pub kept : KeptBut (follow old slot (slots_for (length units))) old new

-- units were put into one slot, behind its number
abbrev pub PutsHere : List ℕ → List ℕ → ℕ → List ℕ → Type 0
PutsHere old mid slot here = (units_at mid (32 * slot + 2) (length here) ≡ here) × Kept (32 * slot + 2) (2 * length here) old mid

puts_next : (old mid : List ℕ) (slot : ℕ) (here : List ℕ) → PutsHere old mid slot here → next_of mid slot ≡ next_of old slot
puts_next old mid slot here p = p.1 (32 * slot) 1 (inl (omega arith))

puts_other : (old mid : List ℕ) (slot other : ℕ) (here : List ℕ) → length here ≤ 15 → PutsHere old mid slot here → (other ≡ slot → ⊥) → SameSlot old mid other
puts_other old mid slot other here few p differ = kept_slot (32 * slot + 2) (2 * length here) slot other old mid (omega arith) (omega (arith, few)) differ p.1

apart_from : (k slot : ℕ) (xs : List ℕ) → times k (slot ∷ xs) ≡ 0 → k ≡ slot → ⊥
apart_from k slot xs z e = none (times slot xs) (sym (times_here slot xs) ∙ subst (λ (j : ℕ). times j (slot ∷ xs) ≡ 0) e z)
  where
    none : (n : ℕ) → suc n ≡ 0 → ⊥
    none n e = omega (arith, e)

none_left : (n : ℕ) → n ≤ 15 → slots_for (n - 15) ≡ 0
none_left n h = omega arith

-- the last slot
pub further_last : (old mid new : List ℕ) (slot : ℕ) (units : List ℕ) → 0 < length units → length units ≤ 15 → PutsHere old mid slot units → field_of new (32 * slot) 1 ≡ 255 → Kept (32 * slot) 1 mid new → PutsFurther old new slot units (next_of old slot)
unfolding follow behind gather
further_last old mid new slot units some few p end kept =
    let n = length units in
    let z = none_left n few in
    let one : slots_for n ≡ suc 0 = omega (arith, some, few) in
    let at : units_at new (32 * slot + 2) n ≡ units = units_same mid new (32 * slot + 2) n (λ i h. kept (32 * slot + 2 + 2 * i) 2 (inr (omega arith))) ∙ p.0 in
    let least : min n 15 ≡ n = omega (arith, few) in
    record {
      next = sym (ap (λ (m : ℕ). behind old slot m) one);
      chain = ap (λ (m : ℕ). follow new slot m) one ∙ sym (ap (λ (m : ℕ). follow old slot m) one);
      ends = ap (λ (m : ℕ). behind new slot m) one ∙ end;
      units_are = ap (λ (m : ℕ). gather new slot m n) one ∙ append-nil (units_at new (32 * slot + 2) (min n 15)) ∙ ap (λ (m : ℕ). units_at new (32 * slot + 2) m) least ∙ at;
      kept = λ k none. let differ = apart_from k slot [] (subst (λ (xs : List ℕ). times k xs ≡ 0) (ap (λ (m : ℕ). follow old slot m) one) none) in
          same_both k old mid new (puts_other old mid slot k units few p differ) (kept_slot (32 * slot) 1 slot k mid new (omega arith) (omega arith) differ kept);
    }

once_apart : (old : List ℕ) (slot n : ℕ) → 0 < n → ((k : ℕ) → times k (follow old slot (slots_for n)) ≤ 1) → times slot (follow old (next_of old slot) (slots_for (n - 15))) ≡ 0
once_apart old slot n some once =
    let xs = follow old (next_of old slot) (slots_for (n - 15)) in
    let a = subst (λ (ys : List ℕ). times slot ys ≤ 1) (follow_one old slot n some) (once slot) in
    let b = times_here slot xs in
    omega (arith, a, b)

-- the further slots are as they were before the first was written
pub rest_same : (old mid : List ℕ) (slot n : ℕ) (here : List ℕ) → 0 < n → length here ≤ 15 → PutsHere old mid slot here → ((k : ℕ) → times k (follow old slot (slots_for n)) ≤ 1)
    → AllByRecursion (SameSlot old mid) (follow old (next_of old slot) (slots_for (n - 15)))
rest_same old mid slot n here some few p once =
    let xs = follow old (next_of old slot) (slots_for (n - 15)) in
    let z = once_apart old slot n some once in
    all_from (SameSlot old mid) xs (λ k there. puts_other old mid slot k here few p (λ e. none k (subst (λ (j : ℕ). times j xs ≡ 0) (sym e) z) there))
  where
    none : {m : ℕ} (k : ℕ) → m ≡ 0 → 1 ≤ m → ⊥
    none k z h = omega (arith, z, h)

-- what the call for the further slots asks
pub record AsksFurther (mid : List ℕ) (next rest : ℕ) : Type 0 where
  pub within : AreWithin mid (follow mid next (slots_for rest))
  pub once : (k : ℕ) → times k (follow mid next (slots_for rest)) ≤ 1

pub asks_further : (old mid : List ℕ) (slot n rest : ℕ) (here : List ℕ) → 0 < n → length here ≤ 15 → rest ≡ n - 15 → length mid ≡ length old → PutsHere old mid slot here
    → AreWithin old (follow old slot (slots_for n)) → ((k : ℕ) → times k (follow old slot (slots_for n)) ≤ 1) → AsksFurther mid (next_of old slot) rest
asks_further old mid slot n rest here some few r size p within once =
    let next = next_of old slot in
    let same = follow_same old mid next (slots_for (n - 15)) (rest_same old mid slot n here some few p once) in
    let whole : follow mid next (slots_for rest) ≡ follow old next (slots_for (n - 15)) = ap (λ (k : ℕ). follow mid next (slots_for k)) r ∙ same in
    record {
      within = subst (λ (s : ℕ). AllByRecursion (λ slot. 32 * slot + 32 ≤ s) (follow mid next (slots_for rest))) (sym size)
          (subst (AllByRecursion (λ slot. 32 * slot + 32 ≤ length old)) (sym whole) (within_one old slot n some within).1);
      once = λ k. subst (λ (xs : List ℕ). times k xs ≤ 1) (sym whole)
          (let a = subst (λ (ys : List ℕ). times k ys ≤ 1) (follow_one old slot n some) (once k) in omega (arith, a));
    }

-- a slot, and then the further ones
pub further_more : (old mid new : List ℕ) (slot : ℕ) (units here rest : List ℕ) (result : ℕ) → units ≡ here ++ rest → length here ≡ 15 → PutsHere old mid slot here
    → ((k : ℕ) → times k (follow old slot (slots_for (length units))) ≤ 1) → PutsFurther mid new (next_of old slot) rest result → PutsFurther old new slot units result
further_more old mid new slot units here rest result e full p once f =
    let n = length units in
    let sizes = ap length e ∙ length-append here rest in
    let some : 0 < n = omega (arith, sizes, full) in
    let few : length here ≤ 15 = omega (arith, full) in
    let r : n - 15 ≡ length rest = omega (arith, sizes, full) in
    let next = next_of old slot in
    let m = slots_for (length rest) in
    let xs = follow old next m in
    let all = subst (λ (k : ℕ). AllByRecursion (SameSlot old mid) (follow old next (slots_for k))) r (rest_same old mid slot n here some few p once) in
    let chain = follow_same old mid next m all in
    let whole : follow old slot (slots_for n) ≡ slot ∷ xs = follow_one old slot n some ∙ ap (λ (k : ℕ). slot ∷ follow old next (slots_for k)) r in
    let apart : times slot (follow mid next m) ≡ 0 = subst (λ (ys : List ℕ). times slot ys ≡ 0) (sym chain) (subst (λ (k : ℕ). times slot (follow old next (slots_for k)) ≡ 0) r (once_apart old slot n some once)) in
    let here_same : SameSlot mid new slot = f.kept slot apart in
    let next_new : next_of new slot ≡ next = same_field mid new slot 0 1 (32 * slot) here_same (omega arith) (omega arith) ∙ puts_next old mid slot here p in
    let units_new : units_at new (32 * slot + 2) 15 ≡ here =
    units_same mid new (32 * slot + 2) 15 (λ i h. same_field mid new slot (2 + 2 * i) 2 (32 * slot + 2 + 2 * i) here_same (omega arith) (omega (arith, h))) ∙ subst (λ (k : ℕ). units_at mid (32 * slot + 2) k ≡ here) full p.0 in
    let least : min n 15 ≡ 15 = omega (arith, sizes, full) in
    record {
      next = f.next ∙ behind_same old mid next m all ∙ ap (λ (k : ℕ). behind old next (slots_for k)) (sym r) ∙ sym (behind_one old slot n some);
      chain = follow_one new slot n some ∙ ap (λ (k : ℕ). slot ∷ follow new (next_of new slot) (slots_for k)) r ∙ ap (λ (s : ℕ). slot ∷ follow new s m) next_new
          ∙ ap (λ (ys : List ℕ). slot ∷ ys) (f.chain ∙ chain) ∙ sym whole;
      ends = behind_one new slot n some ∙ ap (λ (k : ℕ). behind new (next_of new slot) (slots_for k)) r ∙ ap (λ (s : ℕ). behind new s m) next_new ∙ f.ends;
      units_are = gather_one new slot n some ∙ ap (λ (k : ℕ). units_at new (32 * slot + 2) k ++ gather new (next_of new slot) (slots_for (n - 15)) (n - 15)) least
          ∙ ap (λ (ys : List ℕ). ys ++ gather new (next_of new slot) (slots_for (n - 15)) (n - 15)) units_new
          ∙ ap (λ (ys : List ℕ). here ++ ys) (ap (λ (k : ℕ). gather new (next_of new slot) (slots_for k) k) r ∙ ap (λ (s : ℕ). gather new s m (length rest)) next_new ∙ f.units_are)
          ∙ sym e;
      kept = λ k none.
          let both = subst (λ (ys : List ℕ). times k ys ≡ 0) whole none in
          let differ = apart_from k slot xs both in
          same_both k old mid new (puts_other old mid slot k here few p differ) (f.kept k (subst (λ (ys : List ℕ). times k ys ≡ 0) (sym chain) (omega (arith, both))));
    }
