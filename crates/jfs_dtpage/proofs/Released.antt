-- An entry's slots made free slots.
use Rattle.std.proofs.Common.{◌≡◌, ◌≤◌, ◌+◌, ◌*◌, ℕ, suc, Bool, List, ◌∷◌, length, sym, ap, ◌∙◌, subst, arith}
use Rattle.std.specs.List.{AllByRecursion}
use Rattle.jfs_bits.specs.Field.{field_of}
use Rattle.jfs_dtpage.specs.Form.{more_slots}
use Rattle.jfs_dtpage.specs.Slots.{next_of, follow, behind, times, AreWithin, Kept, SameSlot, KeptBut}
use Rattle.jfs_dtpage.specs.Page.{link_of, length_of, chain_of}
use Rattle.jfs_dtpage.proofs.Kept.{kept_slot, same_both, same_field}
use Rattle.jfs_dtpage.proofs.Lists.{times_here, all_from}
use Rattle.jfs_dtpage.proofs.Chains.{follow_same}

none_of : (n : ℕ) → suc n ≡ 0 → ⊥
none_of n e = omega (arith, e)

pub apart_from : (k slot : ℕ) (xs : List ℕ) → times k (slot ∷ xs) ≡ 0 → k ≡ slot → ⊥
apart_from k slot xs z e = none_of (times slot xs) (sym (times_here slot xs) ∙ subst (λ (j : ℕ). times j (slot ∷ xs) ≡ 0) e z)

pub once_rest : (slot : ℕ) (xs : List ℕ) → times slot (slot ∷ xs) ≤ 1 → times slot xs ≡ 0
once_rest slot xs h = let t = times_here slot xs in omega (arith, h, t)

-- slots without `slot` among them, where a write stays within `slot`
pub all_kept : (at size slot : ℕ) (xs old new : List ℕ) → 32 * slot ≤ at → at + size ≤ 32 * slot + 32 → times slot xs ≡ 0 → Kept at size old new → AllByRecursion (SameSlot old new) xs
all_kept at size slot xs old new l h z kept = all_from (SameSlot old new) xs (λ k there. kept_slot at size slot k old new l h (λ e. absent k (subst (λ (j : ℕ). times j xs ≡ 0) (sym e) z) there) kept)
  where
    absent : {m : ℕ} (k : ℕ) → m ≡ 0 → 1 ≤ m → ⊥
    absent k z h = omega (arith, z, h)

-- what a call leaves that makes the last slot of a chain name another
pub record NamesLast (old new : List ℕ) (slot more after : ℕ) : Type 0 where
  pub chain : follow new slot (suc more) ≡ follow old slot (suc more)
  pub ends : behind new slot (suc more) ≡ after
  pub kept : KeptBut (follow old slot (suc more)) old new

pub last_here : (old new : List ℕ) (slot more after : ℕ) → more ≡ 0 → field_of new (32 * slot) 1 ≡ after → Kept (32 * slot) 1 old new → NamesLast old new slot more after
unfolding follow behind
last_here old new slot more after z value kept = record {
  chain = ap (λ (n : ℕ). slot ∷ follow new (next_of new slot) n) z ∙ sym (ap (λ (n : ℕ). slot ∷ follow old (next_of old slot) n) z);
  ends = ap (λ (n : ℕ). behind new (next_of new slot) n) z ∙ value;
  kept = λ k none. kept_slot (32 * slot) 1 slot k old new (omega arith) (omega arith) (apart_from k slot (follow old (next_of old slot) more) none) kept;
}

pub last_below : (old new : List ℕ) (slot more less after : ℕ) → more ≡ suc less → ((k : ℕ) → times k (follow old slot (suc more)) ≤ 1) → NamesLast old new (next_of old slot) less after → NamesLast old new slot more after
unfolding follow behind
last_below old new slot more less after e once below =
    let next = next_of old slot in
    let xs = follow old next more in
    let same_xs : xs ≡ follow old next (suc less) = ap (λ (n : ℕ). follow old next n) e in
    let apart : times slot (follow old next (suc less)) ≡ 0 = subst (λ (ys : List ℕ). times slot ys ≡ 0) same_xs (once_rest slot xs (once slot)) in
    let here : SameSlot old new slot = below.kept slot apart in
    let next_new : next_of new slot ≡ next = same_field old new slot 0 1 (32 * slot) here (omega arith) (omega arith) in
    record {
      chain = ap (λ (s : ℕ). slot ∷ follow new s more) next_new ∙ ap (λ (n : ℕ). slot ∷ follow new next n) e ∙ ap (λ (ys : List ℕ). slot ∷ ys) (below.chain ∙ sym same_xs);
      ends = ap (λ (s : ℕ). behind new s more) next_new ∙ ap (λ (n : ℕ). behind new next n) e ∙ below.ends;
      kept = λ k none. below.kept k (subst (λ (ys : List ℕ). times k ys ≡ 0) same_xs (omega (arith, none)));
    }

-- what the call for the slots behind asks
pub record AsksLast (old : List ℕ) (slot more : ℕ) : Type 0 where
  pub within : AreWithin old (follow old slot (suc more))
  pub once : (k : ℕ) → times k (follow old slot (suc more)) ≤ 1

pub asks_below : (old : List ℕ) (slot more less : ℕ) → more ≡ suc less → AsksLast old slot more → AsksLast old (next_of old slot) less
unfolding follow
asks_below old slot more less e a =
    let next = next_of old slot in
    record {
      within = subst (λ (n : ℕ). AreWithin old (follow old next n)) e a.within.1;
      once = λ k. subst (λ (n : ℕ). times k (follow old next n) ≤ 1) e (let h = a.once k in omega (arith, h));
    }

pub first_of_chain : (old : List ℕ) (slot more : ℕ) → AreWithin old (follow old slot (suc more)) → 32 * slot + 32 ≤ length old
unfolding follow
first_of_chain old slot more w = w.0

-- ---- an entry's slots

-- its first slot names the next one as a free slot does
pub entry_freed : (leaf : Bool) (old mid : List ℕ) (slot link more : ℕ) → link ≡ link_of leaf old slot → more ≡ more_slots leaf (length_of leaf old slot) → ((k : ℕ) → times k (chain_of leaf old slot) ≤ 1) → field_of mid (32 * slot) 1 ≡ link → Kept (32 * slot) 1 old mid
    → follow mid slot (suc more) ≡ chain_of leaf old slot
unfolding follow chain_of
entry_freed leaf old mid slot link more l m once value kept =
    let xs = follow old (link_of leaf old slot) (more_slots leaf (length_of leaf old slot)) in
    let all = all_kept (32 * slot) 1 slot xs old mid (omega arith) (omega arith) (once_rest slot xs (once slot)) kept in
    ap (λ (s : ℕ). slot ∷ follow mid s more) (value ∙ l) ∙ ap (λ (n : ℕ). slot ∷ follow mid (link_of leaf old slot) n) m
    ∙ ap (λ (ys : List ℕ). slot ∷ ys) (follow_same old mid (link_of leaf old slot) (more_slots leaf (length_of leaf old slot)) all)

pub asks_entry : (leaf : Bool) (old mid : List ℕ) (slot more : ℕ) → length mid ≡ length old → follow mid slot (suc more) ≡ chain_of leaf old slot → AreWithin old (chain_of leaf old slot) → ((k : ℕ) → times k (chain_of leaf old slot) ≤ 1) → AsksLast mid slot more
asks_entry leaf old mid slot more size chain within once = record {
  within = subst (λ (s : ℕ). AllByRecursion (λ slot. 32 * slot + 32 ≤ s) (follow mid slot (suc more))) (sym size) (subst (AllByRecursion (λ slot. 32 * slot + 32 ≤ length old)) (sym chain) within);
  once = λ k. subst (λ (ys : List ℕ). times k ys ≤ 1) (sym chain) (once k);
}

pub record Releases (leaf : Bool) (old new : List ℕ) (slot after : ℕ) : Type 0 where
  pub chain : follow new slot (suc (more_slots leaf (length_of leaf old slot))) ≡ chain_of leaf old slot
  pub ends : behind new slot (suc (more_slots leaf (length_of leaf old slot))) ≡ after
  pub kept : KeptBut (chain_of leaf old slot) old new

chain_apart : (leaf : Bool) (old : List ℕ) (slot k : ℕ) → times k (chain_of leaf old slot) ≡ 0 → k ≡ slot → ⊥
unfolding chain_of
chain_apart leaf old slot k none = apart_from k slot (follow old (link_of leaf old slot) (more_slots leaf (length_of leaf old slot))) none

pub releases : (leaf : Bool) (old mid new : List ℕ) (slot more after : ℕ) → more ≡ more_slots leaf (length_of leaf old slot) → follow mid slot (suc more) ≡ chain_of leaf old slot → Kept (32 * slot) 1 old mid → NamesLast mid new slot more after → Releases leaf old new slot after
releases leaf old mid new slot more after m chain kept last = record {
  chain = subst (λ (n : ℕ). follow new slot (suc n) ≡ chain_of leaf old slot) m (last.chain ∙ chain);
  ends = subst (λ (n : ℕ). behind new slot (suc n) ≡ after) m last.ends;
  kept = λ k none. same_both k old mid new (kept_slot (32 * slot) 1 slot k old mid (omega arith) (omega arith) (chain_apart leaf old slot k none) kept) (last.kept k (subst (λ (ys : List ℕ). times k ys ≡ 0) (sym chain) none));
}
