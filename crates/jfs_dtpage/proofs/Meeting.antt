-- Chains that are met slot by slot.
use Rattle.std.proofs.Common.{◌≡◌, ◌≤◌, ◌<◌, ◌+◌, ◌-◌, ℕ, zero, suc, Bool, true, false, List, [], ◌∷◌, length, get_or, set, ◌⊎◌, inl, inr, refl, sym, ap, ◌∙◌, subst, arith}
use Rattle.std.specs.List.{flat_map, AllByRecursion}
use Rattle.std.proofs.lemmas.Bool.{cases_eq, eq-eqb, ne_eqb}
use Rattle.std.proofs.lemmas.List.{get_or-set_same, get_or-set_other}
use Rattle.jfs_dtpage.specs.declared.head.DtForm.{DtForm}
use Rattle.jfs_dtpage.specs.Form.{count_of, first_free, free_of, is_leaf, table_at, more_slots}
use Rattle.jfs_dtpage.specs.Slots.{next_of, follow, behind, slots_at, times}
use Rattle.jfs_dtpage.specs.Met.{left_of, HasMet, IsTaken}
use Rattle.jfs_dtpage.specs.Page.{link_of, length_of, chain_of, Ends, table_of, taken_of, free_chain, usable, ChainsFit, FreeFits}
use Rattle.jfs_bits.specs.Field.{field_of}
use Rattle.jfs_dtpage.proofs.Lists.{times-append, times_here}
use Rattle.jfs_dtpage.proofs.Pages.{table_slot}

-- ---- one slot

pub left_yes : (left : List Bool) (slot : ℕ) → get_or left slot false ≡ true → left_of left slot ≡ 1
left_yes left slot e = rw e refl

pub left_no : (left : List Bool) (slot : ℕ) → get_or left slot false ≡ false → left_of left slot ≡ 0
left_no left slot e = rw e refl

pub met_one : (left : List Bool) (slot : ℕ) → slot < length left → get_or left slot false ≡ true → HasMet left (set left slot false) (slot ∷ [])
met_one left slot h is k = elim (cases_eq slot k) [
  | inl e ↦ subst (λ (j : ℕ). left_of (set left slot false) j + times j (slot ∷ []) ≡ left_of left j) e (rw (get_or-set_same left slot false false h, is, eq-eqb slot slot refl) refl)
  | inr other ↦ rw (get_or-set_other left slot k false false (λ e. other (sym e)), ne_eqb slot k other) (omega arith)
]

-- ---- a chain, slot by slot

abbrev pub Meets : List ℕ → List Bool → List Bool → ℕ → ℕ → ℕ → ℕ → Type 0
Meets bytes old now first count slot more =
    ((k : ℕ) → left_of now k + times k (follow bytes first count) ≡ left_of old k + times k (follow bytes slot more)) × (behind bytes first count ≡ behind bytes slot more) × ((k : ℕ) → left_of now k ≤ left_of old k)

pub follow_next : (bytes : List ℕ) (slot more : ℕ) → 0 < more → follow bytes slot more ≡ slot ∷ follow bytes (next_of bytes slot) (more - 1)
unfolding follow
follow_next bytes slot zero h = absurd (none h)
  where
    none : 0 < 0 → ⊥
    none h = omega (arith, h)
follow_next bytes slot (suc more) h = let e : more ≡ suc more - 1 = omega arith in ap (λ (n : ℕ). slot ∷ follow bytes (next_of bytes slot) n) e

pub behind_next : (bytes : List ℕ) (slot more : ℕ) → 0 < more → behind bytes slot more ≡ behind bytes (next_of bytes slot) (more - 1)
unfolding behind
behind_next bytes slot zero h = absurd (none h)
  where
    none : 0 < 0 → ⊥
    none h = omega (arith, h)
behind_next bytes slot (suc more) h = let e : more ≡ suc more - 1 = omega arith in ap (λ (n : ℕ). behind bytes (next_of bytes slot) n) e

pub meets_more : (bytes : List ℕ) (old now new : List Bool) (first count slot more next : ℕ) → 0 < more → Meets bytes old now first count slot more → HasMet now new (slot ∷ []) → next ≡ next_of bytes slot → Meets bytes old new first count next (more - 1)
meets_more bytes old now new first count slot more next h m met e = (
  λ k. let a = m.0 k in let b = met k in let c = ap (times k) (follow_next bytes slot more h) in let d = ap (λ (s : ℕ). times k (follow bytes s (more - 1))) e in omega (arith, a, b, c, d),
  m.1 ∙ behind_next bytes slot more h ∙ ap (λ (s : ℕ). behind bytes s (more - 1)) (sym e),
  λ k. let a = m.2 k in let b = met k in omega (arith, a, b),
)

pub meets_taken : (bytes : List ℕ) (old now : List Bool) (first count slot more : ℕ) → 0 < more → Meets bytes old now first count slot more → left_of now slot ≡ 0 → IsTaken old (follow bytes first count)
meets_taken bytes old now first count slot more h m z =
    (slot, (let a = m.0 slot in let c = ap (times slot) (follow_next bytes slot more h) in let t = times_here slot (follow bytes (next_of bytes slot) (more - 1)) in omega (arith, a, c, t, z)))

follow_none : (bytes : List ℕ) (slot : ℕ) → follow bytes slot 0 ≡ []
unfolding follow
follow_none bytes slot = refl

behind_none : (bytes : List ℕ) (slot : ℕ) → behind bytes slot 0 ≡ slot
unfolding behind
behind_none bytes slot = refl

pub meets_all : (bytes : List ℕ) (old now : List Bool) (first count slot more : ℕ) → more ≡ 0 → Meets bytes old now first count slot more → (slot ≡ behind bytes first count) × HasMet old now (follow bytes first count)
meets_all bytes old now first count slot more z m = (
  sym (m.1 ∙ ap (λ (n : ℕ). behind bytes slot n) z ∙ behind_none bytes slot),
  λ k. let a = m.0 k in let c = ap (times k) (ap (λ (n : ℕ). follow bytes slot n) z ∙ follow_none bytes slot) in omega (arith, a, c),
)

-- ---- an entry

pub entry_met : (leaf : Bool) (bytes : List ℕ) (slot : ℕ) (old mid new : List Bool) → HasMet old mid (slot ∷ []) → HasMet mid new (follow bytes (link_of leaf bytes slot) (more_slots leaf (length_of leaf bytes slot))) → HasMet old new (chain_of leaf bytes slot)
unfolding chain_of
entry_met leaf bytes slot old mid new a b k = let x = a k in let y = b k in omega (arith, x, y)

pub first_taken : (leaf : Bool) (bytes : List ℕ) (slot : ℕ) (old : List Bool) → left_of old slot ≡ 0 → IsTaken old (chain_of leaf bytes slot)
unfolding chain_of
first_taken leaf bytes slot old z = (slot, (let t = times_here slot (follow bytes (link_of leaf bytes slot) (more_slots leaf (length_of leaf bytes slot))) in omega (arith, t, z)))

pub further_taken : (leaf : Bool) (bytes : List ℕ) (slot : ℕ) (old mid : List Bool) → HasMet old mid (slot ∷ []) → IsTaken mid (follow bytes (link_of leaf bytes slot) (more_slots leaf (length_of leaf bytes slot))) → IsTaken old (chain_of leaf bytes slot)
unfolding chain_of
further_taken leaf bytes slot old mid a t = (t.0, (let x = a t.0 in let y = t.1 in omega (arith, x, y)))

pub ends_is : (leaf : Bool) (bytes : List ℕ) (slot : ℕ) → behind bytes (link_of leaf bytes slot) (more_slots leaf (length_of leaf bytes slot)) ≡ 255 → Ends leaf bytes slot
unfolding Ends
ends_is leaf bytes slot e = e

pub ends_at : (leaf : Bool) (bytes : List ℕ) (slot : ℕ) → Ends leaf bytes slot → behind bytes (link_of leaf bytes slot) (more_slots leaf (length_of leaf bytes slot)) ≡ 255
unfolding Ends
ends_at leaf bytes slot e = e

-- ---- all entries

abbrev pub chains_from : DtForm → List ℕ → ℕ → List ℕ
chains_from form bytes place = flat_map (chain_of (is_leaf bytes) bytes) (slots_at bytes (table_at form bytes + place) (count_of bytes - place))

abbrev pub AllEnd : DtForm → List ℕ → ℕ → Type 0
AllEnd form bytes place = AllByRecursion (Ends (is_leaf bytes) bytes) (slots_at bytes (table_at form bytes + place) (count_of bytes - place))

abbrev pub MeetsAll : DtForm → List ℕ → List Bool → ℕ → Type 0
MeetsAll form bytes left place =
    ((k : ℕ) → left_of left k + times k (taken_of form bytes) ≡ usable form bytes k + times k (chains_from form bytes place))
    × (AllEnd form bytes place → AllByRecursion (Ends (is_leaf bytes) bytes) (table_of form bytes))
    × (AllByRecursion (Ends (is_leaf bytes) bytes) (table_of form bytes) → AllEnd form bytes place)
    × ((k : ℕ) → left_of left k ≤ usable form bytes k)

table_start : (form : DtForm) (bytes : List ℕ) → slots_at bytes (table_at form bytes + 0) (count_of bytes - 0) ≡ table_of form bytes
unfolding table_of
table_start form bytes = let e : table_at form bytes + 0 ≡ table_at form bytes = omega arith in let f : count_of bytes - 0 ≡ count_of bytes = omega arith in rw (e, f) refl

pub all_start : (form : DtForm) (bytes : List ℕ) (left : List Bool) → ((k : ℕ) → left_of left k ≡ usable form bytes k) → MeetsAll form bytes left 0
all_start form bytes left h =
    let e = table_start form bytes in (
      λ k. let a = h k in let b = ap (λ (xs : List ℕ). times k (flat_map (chain_of (is_leaf bytes) bytes) xs)) e in omega (arith, a, b),
      λ all. subst (AllByRecursion (Ends (is_leaf bytes) bytes)) e all,
      λ all. subst (AllByRecursion (Ends (is_leaf bytes) bytes)) (sym e) all,
      λ k. let a = h k in omega (arith, a),
    )

one_more : (form : DtForm) (bytes : List ℕ) (place slot : ℕ) → place < count_of bytes → slot ≡ get_or (table_of form bytes) place 0 → slots_at bytes (table_at form bytes + place) (count_of bytes - place) ≡ slot ∷ slots_at bytes (table_at form bytes + (place + 1)) (count_of bytes - (place + 1))
unfolding slots_at
one_more form bytes place slot h e =
    let n : count_of bytes - place ≡ suc (count_of bytes - (place + 1)) = omega (arith, h) in
    let p : table_at form bytes + place + 1 ≡ table_at form bytes + (place + 1) = omega arith in
    ap (λ (m : ℕ). slots_at bytes (table_at form bytes + place) m) n ∙ ap (λ (m : ℕ). field_of bytes (table_at form bytes + place) 1 ∷ slots_at bytes m (count_of bytes - (place + 1))) p
    ∙ ap (λ (s : ℕ). s ∷ slots_at bytes (table_at form bytes + (place + 1)) (count_of bytes - (place + 1))) (sym (e ∙ table_slot form bytes place h))

pub all_more : (form : DtForm) (bytes : List ℕ) (old new : List Bool) (place slot : ℕ) → place < count_of bytes → slot ≡ get_or (table_of form bytes) place 0 → MeetsAll form bytes old place → Ends (is_leaf bytes) bytes slot → HasMet old new (chain_of (is_leaf bytes) bytes slot) → MeetsAll form bytes new (place + 1)
all_more form bytes old new place slot h e m end met =
    let one = one_more form bytes place slot h e in
    let chain = chain_of (is_leaf bytes) bytes in
    let rest = slots_at bytes (table_at form bytes + (place + 1)) (count_of bytes - (place + 1)) in (
      λ k. let a = m.0 k in let b = met k in let c = ap (λ (xs : List ℕ). times k (flat_map chain xs)) one in let d = times-append k (chain slot) (flat_map chain rest) in omega (arith, a, b, c, d),
      λ all. m.1 (subst (AllByRecursion (Ends (is_leaf bytes) bytes)) (sym one) (end, all)),
      λ all. (subst (AllByRecursion (Ends (is_leaf bytes) bytes)) one (m.2 all)).1,
      λ k. let a = m.3 k in let b = met k in omega (arith, a, b),
    )

pub all_broken : (form : DtForm) (bytes : List ℕ) (old : List Bool) (place slot : ℕ) → place < count_of bytes → slot ≡ get_or (table_of form bytes) place 0 → MeetsAll form bytes old place → (Ends (is_leaf bytes) bytes slot → ⊥) ⊎ IsTaken old (chain_of (is_leaf bytes) bytes slot) → ChainsFit form bytes → ⊥
all_broken form bytes old place slot h e m (inl end) fit = end (subst (AllByRecursion (Ends (is_leaf bytes) bytes)) (one_more form bytes place slot h e) (m.2 fit.ends)).0
all_broken form bytes old place slot h e m (inr taken) fit =
    let k = taken.0 in
    let chain = chain_of (is_leaf bytes) bytes in
    let rest = slots_at bytes (table_at form bytes + (place + 1)) (count_of bytes - (place + 1)) in
    let a = m.0 k in let b = taken.1 in let c = ap (λ (xs : List ℕ). times k (flat_map chain xs)) (one_more form bytes place slot h e) in
    let d = times-append k (chain slot) (flat_map chain rest) in let o = fit.once k in
    none (times k (taken_of form bytes)) (usable form bytes k) (left_of old k) (times k (chain slot)) (times k (flat_map chain rest)) (omega (arith, a, c, d)) b o
  where
    none : (taken usable left here rest : ℕ) → left + taken ≡ usable + (here + rest) → left < here → taken ≤ usable → ⊥
    none taken usable left here rest a b o = omega (arith, a, b, o)

slots_none : (bytes : List ℕ) (at n : ℕ) → n ≡ 0 → slots_at bytes at n ≡ []
unfolding slots_at
slots_none bytes at n e = ap (λ (m : ℕ). slots_at bytes at m) e

pub all_met : (form : DtForm) (bytes : List ℕ) (left : List Bool) (place : ℕ) → count_of bytes ≤ place → MeetsAll form bytes left place → ChainsFit form bytes × ((k : ℕ) → left_of left k + times k (taken_of form bytes) ≡ usable form bytes k)
all_met form bytes left place h m =
    let e = slots_none bytes (table_at form bytes + place) (count_of bytes - place) (omega (arith, h)) in
    let each : (k : ℕ) → left_of left k + times k (taken_of form bytes) ≡ usable form bytes k = λ k. let a = m.0 k in let b = ap (λ (xs : List ℕ). times k (flat_map (chain_of (is_leaf bytes) bytes) xs)) e in omega (arith, a, b) in
    (record { ends = m.1 (subst (AllByRecursion (Ends (is_leaf bytes) bytes)) (sym e) tt); once = λ k. let a = each k in omega (arith, a) }, each)

-- ---- the free chain

pub free_all : (form : DtForm) (bytes : List ℕ) (old new : List Bool) → ((k : ℕ) → left_of old k + times k (taken_of form bytes) ≡ usable form bytes k) → behind bytes (first_free bytes) (free_of bytes) ≡ 255 → HasMet old new (free_chain bytes) → ((k : ℕ) → left_of new k ≡ 0) → FreeFits form bytes
free_all form bytes old new h end met none = record { ends = end; once = λ k. let a = h k in let b = met k in let c = none k in omega (arith, a, b, c) }

pub free_taken : (form : DtForm) (bytes : List ℕ) (old : List Bool) → ((k : ℕ) → left_of old k + times k (taken_of form bytes) ≡ usable form bytes k) → IsTaken old (free_chain bytes) → FreeFits form bytes → ⊥
free_taken form bytes old h taken fit =
    let a = h taken.0 in let b = taken.1 in let c = fit.once taken.0 in none (left_of old taken.0) (times taken.0 (taken_of form bytes)) (times taken.0 (free_chain bytes)) (usable form bytes taken.0) a b c
  where
    none : (left taken free usable : ℕ) → left + taken ≡ usable → left < free → taken + free ≡ usable → ⊥
    none left taken free usable a b c = omega (arith, a, b, c)

pub free_left : (form : DtForm) (bytes : List ℕ) (old new : List Bool) → ((k : ℕ) → left_of old k + times k (taken_of form bytes) ≡ usable form bytes k) → HasMet old new (free_chain bytes) → (k : ℕ) → left_of new k ≡ 1 → FreeFits form bytes → ⊥
free_left form bytes old new h met k one fit =
    let a = h k in let b = met k in let c = fit.once k in none (left_of old k) (left_of new k) (times k (taken_of form bytes)) (times k (free_chain bytes)) (usable form bytes k) a b one c
  where
    none : (left now taken free usable : ℕ) → left + taken ≡ usable → now + free ≡ left → now ≡ 1 → taken + free ≡ usable → ⊥
    none left now taken free usable a b o c = omega (arith, a, b, o, c)

-- ---- an entry as it was met

pub entry_yes : (leaf : Bool) (bytes : List ℕ) (slot : ℕ) (old mid new : List Bool) (link more after : ℕ) → link ≡ link_of leaf bytes slot → more ≡ more_slots leaf (length_of leaf bytes slot) → after ≡ behind bytes link more → after ≡ 255
    → HasMet old mid (slot ∷ []) → HasMet mid new (follow bytes link more) → Ends leaf bytes slot × HasMet old new (chain_of leaf bytes slot)
entry_yes leaf bytes slot old mid new link more after l m a end one rest = (
  ends_is leaf bytes slot (sym (ap (λ (n : ℕ). behind bytes n more) l ∙ ap (λ (n : ℕ). behind bytes (link_of leaf bytes slot) n) m) ∙ sym a ∙ end),
  entry_met leaf bytes slot old mid new one (subst (λ (n : ℕ). HasMet mid new (follow bytes (link_of leaf bytes slot) n)) m (subst (λ (n : ℕ). HasMet mid new (follow bytes n more)) l rest)),
)

pub entry_no_end : (leaf : Bool) (bytes : List ℕ) (slot link more after : ℕ) → link ≡ link_of leaf bytes slot → more ≡ more_slots leaf (length_of leaf bytes slot) → after ≡ behind bytes link more → (after ≡ 255 → ⊥) → Ends leaf bytes slot → ⊥
entry_no_end leaf bytes slot link more after l m a other end = other (a ∙ ap (λ (n : ℕ). behind bytes n more) l ∙ ap (λ (n : ℕ). behind bytes (link_of leaf bytes slot) n) m ∙ ends_at leaf bytes slot end)

pub entry_taken : (leaf : Bool) (bytes : List ℕ) (slot : ℕ) (old mid : List Bool) (link more : ℕ) → link ≡ link_of leaf bytes slot → more ≡ more_slots leaf (length_of leaf bytes slot) → HasMet old mid (slot ∷ []) → IsTaken mid (follow bytes link more) → IsTaken old (chain_of leaf bytes slot)
entry_taken leaf bytes slot old mid link more l m one t =
    further_taken leaf bytes slot old mid one (subst (λ (n : ℕ). IsTaken mid (follow bytes (link_of leaf bytes slot) n)) m (subst (λ (n : ℕ). IsTaken mid (follow bytes n more)) l t))
