-- An entry put into the first slots of the free chain.
use Rattle.std.proofs.Common.{◌≡◌, ◌≤◌, ◌+◌, ◌-◌, ◌*◌, ◌/◌, ℕ, suc, Bool, true, false, List, ◌∷◌, ◌++◌, length, refl, sym, ap, ◌∙◌, subst, inl, length-append, arith}
use Rattle.std.specs.Prelude.{min}
use Rattle.std.specs.List.{AllByRecursion}
use Rattle.std.proofs.lemmas.List.{append-nil}
use Rattle.jfs_bits.specs.Field.{field_of}
use Rattle.jfs_bits.specs.Descriptor.{pxd_of}
use Rattle.jfs_bits.specs.declared.descriptor.Pxd.{Pxd}
use Rattle.jfs_dtpage.specs.Form.{link_at, first_units, more_slots}
use Rattle.jfs_dtpage.specs.Slots.{next_of, follow, behind, units_at, gather, slots_for, times, AreWithin, Kept, SameSlot, KeptBut}
use Rattle.jfs_dtpage.specs.Page.{link_of, length_of, chain_of, Ends, name_of, Entry, Named, Below, name_in, entry_of}
use Rattle.jfs_dtpage.specs.Given.{is_named, HasNumber}
use Rattle.jfs_dtpage.proofs.Kept.{kept_slot, kept_both, kept_wider, same_both, same_field}
use Rattle.jfs_dtpage.proofs.Lists.{units_same}
use Rattle.jfs_dtpage.proofs.Chains.{follow_same, behind_same}
use Rattle.jfs_dtpage.proofs.Further.{PutsFurther}
use Rattle.jfs_dtpage.proofs.Released.{apart_from, once_rest, all_kept}

-- ---- the first slot

pub number_same : (e : Entry) (old new : List ℕ) (at : ℕ) → ((from width : ℕ) → at ≤ from → from + width ≤ at + link_at (is_named e) → field_of new from width ≡ field_of old from width) → HasNumber old at e → HasNumber new at e
number_same (Named inode name) old new at same n = same at 4 (omega arith) (omega arith) ∙ n
number_same (Below child key) old new at same n =
    let one = same at 4 (omega arith) (omega arith) in
    let two = same (at + 4) 4 (omega arith) (omega arith) in
    subst (λ (p : Pxd). pxd_of new at ≡ p) n (rw (one, two) refl)

pub first_fits : (leaf : Bool) → link_at leaf + 2 + 2 * first_units leaf ≤ 32
first_fits true = omega arith
first_fits false = omega arith

-- what a call leaves that puts the first slot
pub record PutsFirst (old mid : List ℕ) (slot : ℕ) (e : Entry) (first : List ℕ) (link : ℕ) : Type 0 where
  pub number : HasNumber mid (32 * slot) e
  pub link_is : link_of (is_named e) mid slot ≡ link
  pub length_is : length_of (is_named e) mid slot ≡ length (name_in e)
  pub units : units_at mid (32 * slot + link_at (is_named e) + 2) (length first) ≡ first
  pub kept : Kept (32 * slot) 32 old mid

pub puts_first : (old a b d new : List ℕ) (slot : ℕ) (e : Entry) (first : List ℕ) (link : ℕ) → length first ≤ first_units (is_named e)
    → HasNumber a (32 * slot) e → Kept (32 * slot) (link_at (is_named e)) old a
    → field_of b (32 * slot + link_at (is_named e)) 1 ≡ link → Kept (32 * slot + link_at (is_named e)) 1 a b
    → field_of d (32 * slot + link_at (is_named e) + 1) 1 ≡ length (name_in e) → Kept (32 * slot + link_at (is_named e) + 1) 1 b d
    → units_at new (32 * slot + link_at (is_named e) + 2) (length first) ≡ first → Kept (32 * slot + link_at (is_named e) + 2) (2 * length first) d new
    → PutsFirst old new slot e first link
puts_first old a b d new slot e first link few number ka vl kb vn kd units kn =
    let z = first_fits (is_named e) in
    let s = 32 * slot in
    let l = link_at (is_named e) in
    record {
      number = number_same e a new s (λ from width low h. kn from width (inl (omega (arith, h))) ∙ kd from width (inl (omega (arith, h))) ∙ kb from width (inl h)) number;
      link_is = kn (s + l) 1 (inl (omega arith)) ∙ kd (s + l) 1 (inl (omega arith)) ∙ vl;
      length_is = kn (s + l + 1) 1 (inl (omega arith)) ∙ vn;
      units = units;
      kept = kept_both s 32 old d new (kept_both s 32 old b d (kept_both s 32 old a b (kept_wider s l s 32 old a (omega arith) (omega (arith, z)) ka) (kept_wider (s + l) 1 s 32 a b (omega arith) (omega (arith, z)) kb)) (kept_wider (s + l + 1) 1 s 32 b d (omega arith) (omega (arith, z)) kd)) (kept_wider (s + l + 2) (2 * length first) s 32 d new (omega arith) (omega (arith, z, few)) kn);
    }

-- ---- the whole entry

pub entry_from : (e : Entry) (bytes : List ℕ) (slot : ℕ) → HasNumber bytes (32 * slot) e → name_of (is_named e) bytes slot ≡ name_in e → entry_of (is_named e) bytes slot ≡ e
unfolding entry_of
entry_from (Named inode name) bytes slot number n = ap (λ (i : ℕ). Named i (name_of true bytes slot)) number ∙ ap (λ (m : List ℕ). Named inode m) n
entry_from (Below child key) bytes slot number n = ap (λ (p : Pxd). Below p (name_of false bytes slot)) number ∙ ap (λ (m : List ℕ). Below child m) n

abbrev pub need_of : Entry → ℕ
need_of e = more_slots (is_named e) (length (name_in e))

-- what a call leaves that puts an entry
pub record PutsEntry (old new : List ℕ) (slot : ℕ) (e : Entry) (result : ℕ) : Type 0 where
  pub next : result ≡ behind old slot (suc (need_of e))
  pub chain : chain_of (is_named e) new slot ≡ follow old slot (suc (need_of e))
  pub ends : Ends (is_named e) new slot
  pub entry : entry_of (is_named e) new slot ≡ e
  pub kept : KeptBut (follow old slot (suc (need_of e))) old new

first_kept : (old mid : List ℕ) (slot k : ℕ) (e : Entry) (first : List ℕ) (link : ℕ) (xs : List ℕ) → PutsFirst old mid slot e first link → times k (slot ∷ xs) ≡ 0 → SameSlot old mid k
first_kept old mid slot k e first link xs p none = kept_slot (32 * slot) 32 slot k old mid (omega arith) (omega arith) (apart_from k slot xs none) p.kept

no_more : (n first : ℕ) → n ≤ first → (n - first + 14) / 15 ≡ 0
no_more n first h = omega (arith, h)

-- a name that its first slot holds
pub entry_short : (old new : List ℕ) (slot : ℕ) (e : Entry) (first : List ℕ) → length (name_in e) ≤ first_units (is_named e) → first ≡ name_in e → PutsFirst old new slot e first 255 → PutsEntry old new slot e (next_of old slot)
unfolding follow behind chain_of Ends name_of gather
entry_short old new slot e first few whole p =
    let leaf = is_named e in
    let n = length (name_in e) in
    let none : more_slots leaf n ≡ 0 = no_more n (first_units leaf) few in
    let none_new : more_slots leaf (length_of leaf new slot) ≡ 0 = ap (λ (k : ℕ). more_slots leaf k) p.length_is ∙ none in
    let least : min n (first_units leaf) ≡ length first = omega (arith, few, ap length whole) in
    let name : name_of leaf new slot ≡ name_in e =
    ap (λ (k : ℕ). units_at new (32 * slot + link_at leaf + 2) (min (length_of leaf new slot) (first_units leaf)) ++ gather new (link_of leaf new slot) k (length_of leaf new slot - first_units leaf)) none_new
    ∙ append-nil (units_at new (32 * slot + link_at leaf + 2) (min (length_of leaf new slot) (first_units leaf)))
    ∙ ap (λ (k : ℕ). units_at new (32 * slot + link_at leaf + 2) (min k (first_units leaf))) p.length_is ∙ ap (λ (k : ℕ). units_at new (32 * slot + link_at leaf + 2) k) least ∙ p.units ∙ whole in
    record {
      next = sym (ap (λ (k : ℕ). behind old (next_of old slot) k) none);
      chain = ap (λ (k : ℕ). slot ∷ follow new (link_of leaf new slot) k) none_new ∙ sym (ap (λ (k : ℕ). slot ∷ follow old (next_of old slot) k) none);
      ends = ap (λ (k : ℕ). behind new (link_of leaf new slot) k) none_new ∙ p.link_is;
      entry = entry_from e new slot p.number name;
      kept = λ k absent. first_kept old new slot k e first 255 (follow old (next_of old slot) (more_slots leaf n)) p absent;
    }

-- what the call for the further slots asks
pub record AsksRest (mid : List ℕ) (next rest : ℕ) : Type 0 where
  pub within : AreWithin mid (follow mid next (slots_for rest))
  pub once : (k : ℕ) → times k (follow mid next (slots_for rest)) ≤ 1

pub asks_rest : (old mid : List ℕ) (slot : ℕ) (e : Entry) (first : List ℕ) (link rest : ℕ) → length mid ≡ length old → length (name_in e) - first_units (is_named e) ≡ rest → PutsFirst old mid slot e first link
    → AreWithin old (follow old slot (suc (need_of e))) → ((k : ℕ) → times k (follow old slot (suc (need_of e))) ≤ 1) → AsksRest mid (next_of old slot) rest
unfolding follow
asks_rest old mid slot e first link rest size r p within once =
    let next = next_of old slot in
    let xs = follow old next (need_of e) in
    let all = all_kept (32 * slot) 32 slot xs old mid (omega arith) (omega arith) (once_rest slot xs (once slot)) p.kept in
    let whole : follow mid next (slots_for rest) ≡ xs = ap (λ (k : ℕ). follow mid next (slots_for k)) (sym r) ∙ follow_same old mid next (need_of e) all in
    record {
      within = subst (λ (s : ℕ). AllByRecursion (λ slot. 32 * slot + 32 ≤ s) (follow mid next (slots_for rest))) (sym size) (subst (AllByRecursion (λ slot. 32 * slot + 32 ≤ length old)) (sym whole) within.1);
      once = λ k. subst (λ (ys : List ℕ). times k ys ≤ 1) (sym whole) (let h = once k in omega (arith, h));
    }

-- a name that goes on in further slots
pub entry_long : (old mid new : List ℕ) (slot : ℕ) (e : Entry) (first further : List ℕ) (result : ℕ) → name_in e ≡ first ++ further → length first ≡ first_units (is_named e) → PutsFirst old mid slot e first (next_of old slot)
    → ((k : ℕ) → times k (follow old slot (suc (need_of e))) ≤ 1) → PutsFurther mid new (next_of old slot) further result → PutsEntry old new slot e result
unfolding follow behind chain_of Ends name_of
entry_long old mid new slot e first further result parts full p once f =
    let leaf = is_named e in
    let n = length (name_in e) in
    let z = first_fits leaf in
    let sizes = ap length parts ∙ length-append first further in
    let r : n - first_units leaf ≡ length further = omega (arith, sizes, full) in
    let next = next_of old slot in
    let m = slots_for (length further) in
    let need : need_of e ≡ m = ap slots_for r in
    let xs = follow old next m in
    let whole : follow old slot (suc (need_of e)) ≡ slot ∷ xs = ap (λ (k : ℕ). slot ∷ follow old next k) need in
    let apart_old : times slot xs ≡ 0 = once_rest slot xs (subst (λ (ys : List ℕ). times slot ys ≤ 1) whole (once slot)) in
    let all = all_kept (32 * slot) 32 slot xs old mid (omega arith) (omega arith) apart_old p.kept in
    let chain = follow_same old mid next m all in
    let here : SameSlot mid new slot = f.kept slot (subst (λ (ys : List ℕ). times slot ys ≡ 0) (sym chain) apart_old) in
    let link_new : link_of leaf new slot ≡ next = here (link_at leaf) 1 (omega (arith, z)) ∙ p.link_is in
    let length_new : length_of leaf new slot ≡ n = same_field mid new slot (link_at leaf + 1) 1 (32 * slot + link_at leaf + 1) here (omega arith) (omega (arith, z)) ∙ p.length_is in
    let more_new : more_slots leaf (length_of leaf new slot) ≡ m = ap (λ (k : ℕ). more_slots leaf k) length_new ∙ need in
    let units_new : units_at new (32 * slot + link_at leaf + 2) (length first) ≡ first =
    units_same mid new (32 * slot + link_at leaf + 2) (length first) (λ i h. same_field mid new slot (link_at leaf + 2 + 2 * i) 2 (32 * slot + link_at leaf + 2 + 2 * i) here (omega arith) (omega (arith, z, h, full))) ∙ p.units in
    let least : min n (first_units leaf) ≡ length first = omega (arith, sizes, full) in
    let name : name_of leaf new slot ≡ name_in e =
    ap (λ (k : ℕ). units_at new (32 * slot + link_at leaf + 2) (min k (first_units leaf)) ++ gather new (link_of leaf new slot) (more_slots leaf k) (k - first_units leaf)) length_new
    ∙ ap (λ (k : ℕ). units_at new (32 * slot + link_at leaf + 2) k ++ gather new (link_of leaf new slot) (more_slots leaf n) (n - first_units leaf)) least
    ∙ ap (λ (ys : List ℕ). ys ++ gather new (link_of leaf new slot) (more_slots leaf n) (n - first_units leaf)) units_new
    ∙ ap (λ (ys : List ℕ). first ++ ys) (ap (λ (k : ℕ). gather new (link_of leaf new slot) (slots_for k) k) r ∙ ap (λ (s : ℕ). gather new s m (length further)) link_new ∙ f.units_are)
    ∙ sym parts in
    record {
      next = f.next ∙ behind_same old mid next m all ∙ sym (ap (λ (k : ℕ). behind old next k) need);
      chain = ap (λ (k : ℕ). slot ∷ follow new (link_of leaf new slot) k) more_new ∙ ap (λ (s : ℕ). slot ∷ follow new s m) link_new ∙ ap (λ (ys : List ℕ). slot ∷ ys) (f.chain ∙ chain) ∙ sym whole;
      ends = ap (λ (k : ℕ). behind new (link_of leaf new slot) k) more_new ∙ ap (λ (s : ℕ). behind new s m) link_new ∙ f.ends;
      entry = entry_from e new slot (number_same e mid new (32 * slot) (λ from width low h. same_field mid new slot (from - 32 * slot) width from here (omega (arith, low)) (omega (arith, low, h, z))) p.number) name;
      kept = λ k none. let both = subst (λ (ys : List ℕ). times k ys ≡ 0) whole none in
          same_both k old mid new (first_kept old mid slot k e first next xs p both) (f.kept k (subst (λ (ys : List ℕ). times k ys ≡ 0) (sym chain) (omega (arith, both))));
    }
