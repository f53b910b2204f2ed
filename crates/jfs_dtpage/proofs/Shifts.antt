-- The sorted table, in which slots are moved one by one.
use Rattle.std.proofs.Common.{◌≡◌, ◌≤◌, ◌<◌, ◌+◌, ◌-◌, ℕ, List, length, get_or, inl, inr, refl, sym, ap, ◌∙◌, subst, arith}
use Rattle.std.specs.List.{insert, remove}
use Rattle.std.proofs.lemmas.Bool.{cases_eq}
use Rattle.std.proofs.lemmas.List.Edits.{length-insert, get_or-insert_below, get_or-insert_at, get_or-insert_above, length-remove, get_or-remove_below, get_or-remove_above}
use Rattle.jfs_bits.specs.Field.{field_of}
use Rattle.jfs_dtpage.specs.Slots.{slots_at, Kept}
use Rattle.jfs_dtpage.proofs.Kept.{kept_both, kept_wider}
use Rattle.jfs_dtpage.proofs.Lists.{slots_from, length-slots_at, get_or-slots_at}

-- the places before `i` have what they are to have, the others are as they were
abbrev pub Half : ℕ → ℕ → List ℕ → List ℕ → List ℕ → ℕ → Type 0
Half at n ys old now i = ((j : ℕ) → j < i → field_of now (at + j) 1 ≡ get_or ys j 0) × ((j : ℕ) → i ≤ j → field_of now (at + j) 1 ≡ field_of old (at + j) 1) × Kept at n old now

pub half_more : (at n : ℕ) (ys old now new : List ℕ) (i : ℕ) → i < n → Half at n ys old now i → field_of new (at + i) 1 ≡ get_or ys i 0 → Kept (at + i) 1 now new → Half at n ys old new (i + 1)
half_more at n ys old now new i h half value kept = (
  λ j l. elim (cases_eq j i) [
    | inl e ↦ subst (λ (k : ℕ). field_of new (at + k) 1 ≡ get_or ys k 0) (sym e) value
    | inr other ↦ kept (at + j) 1 (inl (omega (arith, l, other))) ∙ half.0 j (omega (arith, l, other))
  ],
  λ j l. kept (at + j) 1 (inr (omega (arith, l))) ∙ half.1 j (omega (arith, l)),
  kept_both at n old now new half.2 (kept_wider (at + i) 1 at n now new (omega arith) (omega (arith, h)) kept),
)

-- ---- a slot put in, the others carried on

abbrev pub Shifts : ℕ → ℕ → List ℕ → List ℕ → List ℕ → ℕ → ℕ → Type 0
Shifts at n ys old now i carried = Half at n ys old now i × (i < n → carried ≡ get_or ys i 0)

pub shifts_none : (at count place slot : ℕ) (old : List ℕ) → place ≤ count → Shifts at (count + 1) (insert (slots_at old at count) place slot) old old place slot
shifts_none at count place slot old h =
    let n = length-slots_at old at count in
    let within : place ≤ length (slots_at old at count) = omega (arith, n, h) in (
      (λ j l. sym (get_or-slots_at old at count j (omega (arith, l, h))) ∙ sym (get_or-insert_below (slots_at old at count) place slot 0 j l within), λ j l. refl, λ from width side. refl),
      λ l. sym (get_or-insert_at (slots_at old at count) place slot 0 within),
    )

pub shifts_more : (at count place slot : ℕ) (old now new : List ℕ) (i carried next : ℕ) → place ≤ count → place ≤ i → i < count + 1 → Shifts at (count + 1) (insert (slots_at old at count) place slot) old now i carried
    → next ≡ field_of now (at + i) 1 → field_of new (at + i) 1 ≡ carried → Kept (at + i) 1 now new → Shifts at (count + 1) (insert (slots_at old at count) place slot) old new (i + 1) next
shifts_more at count place slot old now new i carried next h past l s e value kept =
    let n = length-slots_at old at count in (
      half_more at (count + 1) (insert (slots_at old at count) place slot) old now new i l s.0 (value ∙ s.1 l) kept,
      λ m. e ∙ s.0.1 i (omega arith) ∙ sym (get_or-slots_at old at count i (omega (arith, m))) ∙ sym (get_or-insert_above (slots_at old at count) place slot 0 i past (omega (arith, n, h))),
    )

pub shifts_all : (at count place slot : ℕ) (old now : List ℕ) (i carried : ℕ) → place ≤ count → count + 1 ≤ i → Shifts at (count + 1) (insert (slots_at old at count) place slot) old now i carried → slots_at now at (count + 1) ≡ insert (slots_at old at count) place slot
shifts_all at count place slot old now i carried h past s =
    let ys = insert (slots_at old at count) place slot in
    let n : length ys ≡ count + 1 = length-insert (slots_at old at count) place slot (omega (arith, length-slots_at old at count, h)) ∙ ap (λ (k : ℕ). k + 1) (length-slots_at old at count) in
    ap (λ (k : ℕ). slots_at now at k) (sym n) ∙ slots_from now ys at (λ j l. s.0.0 j (omega (arith, l, n, past)))

-- ---- a slot taken out, the others closed up

abbrev pub Closes : ℕ → ℕ → List ℕ → List ℕ → List ℕ → ℕ → Type 0
Closes at n ys old now i = Half at n ys old now i

pub closes_none : (at count place : ℕ) (old : List ℕ) → place < count → Closes at count (remove (slots_at old at count) place) old old place
closes_none at count place old h =
    let n = length-slots_at old at count in
    (λ j l. sym (get_or-slots_at old at count j (omega (arith, l, h))) ∙ sym (get_or-remove_below (slots_at old at count) place 0 j l (omega (arith, n, h))), λ j l. refl, λ from width side. refl)

pub closes_more : (at count place : ℕ) (old now new : List ℕ) (i next : ℕ) → place < count → place ≤ i → i < count - 1 → Closes at count (remove (slots_at old at count) place) old now i
    → next ≡ field_of now (at + i + 1) 1 → field_of new (at + i) 1 ≡ next → Kept (at + i) 1 now new → Closes at count (remove (slots_at old at count) place) old new (i + 1)
closes_more at count place old now new i next h past l s e value kept =
    let n = length-slots_at old at count in
    half_more at count (remove (slots_at old at count) place) old now new i (omega (arith, l)) s
    (value ∙ e ∙ (let q : at + i + 1 ≡ at + (i + 1) = omega arith in ap (λ (p : ℕ). field_of now p 1) q) ∙ s.1 (i + 1) (omega arith) ∙ sym (get_or-slots_at old at count (i + 1) (omega (arith, l))) ∙ sym (get_or-remove_above (slots_at old at count) place 0 i past (omega (arith, n, h)))) kept

pub closes_all : (at count place : ℕ) (old now : List ℕ) (i : ℕ) → place < count → count - 1 ≤ i → Closes at count (remove (slots_at old at count) place) old now i → slots_at now at (count - 1) ≡ remove (slots_at old at count) place
closes_all at count place old now i h past s =
    let ys = remove (slots_at old at count) place in
    let m = length-remove (slots_at old at count) place (omega (arith, length-slots_at old at count, h)) in
    let n : length ys ≡ count - 1 = omega (arith, m, length-slots_at old at count) in
    ap (λ (k : ℕ). slots_at now at k) (sym n) ∙ slots_from now ys at (λ j l. s.0 j (omega (arith, l, n, past)))
