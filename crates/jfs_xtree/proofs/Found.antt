-- The place of an extent among a leaf's entries, and the entry that shares a block with it.
use Rattle.std.proofs.Common.{◌≡◌, ◌≤◌, ◌<◌, ◌⊎◌, inl, inr, refl, sym, ap, ◌∙◌, subst, ℕ, zero, suc, ◌+◌, ◌-◌, List, ◌∷◌, true, Option, Some, None, arith}
use Rattle.std.specs.Prelude.{nat_le}
use Rattle.std.proofs.lemmas.Bool.{leb-true, le-leb, lt-leb}
use Rattle.jfs_bits.specs.declared.extent.Xad.{Xad}
use Rattle.jfs_tree.specs.Edit.{IsApart, with_entry, found_in}
use Rattle.jfs_xtpage.specs.Page.{entries_of, entries_from, entry_of, count_of, end_of, rises_from}
use Rattle.jfs_xtree.specs.Node.{xt_scale, with_at, IsPlace, GoesBetween}
use Rattle.jfs_xtree.specs.Laws.{ends_after}
use Rattle.jfs_xtree.proofs.Reading.{is_rising}

none_less : (i : ℕ) → suc i ≤ zero → ⊥
none_less i h = omega (arith, h)

-- an entry is put at its place
entry_at : (bytes : List ℕ) (p i n m : ℕ) (x : Xad) → m ≡ p + i → i ≤ n → IsApart xt_scale x (entries_from bytes p n) → ((j : ℕ) → p ≤ j → j < m → (entry_of bytes j).offset ≤ x.offset)
    → ((j : ℕ) → m ≤ j → j < p + n → x.offset < (entry_of bytes j).offset) → with_entry xt_scale x (entries_from bytes p n) ≡ with_at (entries_from bytes p n) i x
entry_at bytes p zero zero m x at h apart before behind = refl
entry_at bytes p (suc i) zero m x at h apart before behind = absurd (none_less i h)
entry_at bytes p zero (suc n) m x at h apart before behind =
    let e = entry_of bytes p in
    let past = behind p (omega (arith, at)) (omega arith) in
    let ends = ends_after e in
    rw (lt-leb (end_of e) x.offset (omega (arith, past, ends))) refl
entry_at bytes p (suc i) (suc n) m x at h apart before behind =
    let e = entry_of bytes p in
    let begins = before p (omega arith) (omega (arith, at)) in
    let ended : nat_le (end_of e) x.offset ≡ true = elim apart.0 [ inl y ↦ y | inr y ↦ absurd (let a = leb-true (end_of x) e.offset y in let b = ends_after x in omega (arith, a, b, begins)) ] in
    rw ended (ap (λ xs. e ∷ xs) (entry_at bytes (suc p) i n m x (omega (arith, at)) (omega (arith, h)) apart.1 (λ j a b. before j (omega (arith, a)) b) (λ j a b. behind j a (omega (arith, b)))))

pub entry_placed : (bytes : List ℕ) (place : ℕ) (x : Xad) → IsPlace bytes x.offset place → IsApart xt_scale x (entries_of bytes) → with_entry xt_scale x (entries_of bytes) ≡ with_at (entries_of bytes) place x
entry_placed bytes place x at apart = entry_at bytes 0 place (count_of bytes) place x (omega arith) at.most apart (λ j a b. at.before j b) (λ j a b. at.behind j a (omega (arith, b)))

-- an extent that is apart from all
apart_at : (bytes : List ℕ) (p n : ℕ) (x : Xad) → IsApart xt_scale x (entries_from bytes p n) → (j : ℕ) → p ≤ j → j < p + n → (nat_le (end_of (entry_of bytes j)) x.offset ≡ true) ⊎ (nat_le (end_of x) (entry_of bytes j).offset ≡ true)
apart_at bytes p zero x apart j a b = absurd (nowhere p j a b)
  where
    nowhere : (p j : ℕ) → p ≤ j → j < p + zero → ⊥
    nowhere p j a b = omega (arith, a, b)
apart_at bytes p (suc n) x apart j a b = elim (cases p j a) [
  | inl e ↦ subst (λ k. (nat_le (end_of (entry_of bytes k)) x.offset ≡ true) ⊎ (nat_le (end_of x) (entry_of bytes k).offset ≡ true)) (sym e) apart.0
  | inr l ↦ apart_at bytes (suc p) n x apart.1 j l (omega (arith, b))
]
  where
    cases : (p i : ℕ) → p ≤ i → (i ≡ p) ⊎ (suc p ≤ i)
    cases zero zero h = inl refl
    cases zero (suc i) h = inr (omega arith)
    cases (suc p) zero h = absurd (none_less p h)
    cases (suc p) (suc i) h = elim (cases p i (omega (arith, h))) [ inl e ↦ inl (ap (λ n. suc n) e) | inr l ↦ inr (omega (arith, l)) ]

pub apart_goes : (bytes : List ℕ) (place : ℕ) (x : Xad) → IsPlace bytes x.offset place → IsApart xt_scale x (entries_of bytes) → GoesBetween bytes place x
apart_goes bytes place x at apart = record {
  before = λ j e. (let m = at.most in let begins = at.before j (omega (arith, e)) in
      elim (apart_at bytes 0 (count_of bytes) x apart j (omega arith) (omega (arith, e, m))) [
        | inl y ↦ leb-true (end_of (entry_of bytes j)) x.offset y
        | inr y ↦ absurd (let a = leb-true (end_of x) (entry_of bytes j).offset y in let b = ends_after x in omega (arith, a, b, begins))
      ]);
  behind = λ l. (let past = at.behind place (omega arith) l in
      elim (apart_at bytes 0 (count_of bytes) x apart place (omega arith) (omega (arith, l))) [
        | inl y ↦ absurd (let a = leb-true (end_of (entry_of bytes place)) x.offset y in let b = ends_after (entry_of bytes place) in omega (arith, a, b, past))
        | inr y ↦ leb-true (end_of x) (entry_of bytes place).offset y
      ]);
}

-- entries that end before an extent are passed over
skipped : (bytes : List ℕ) (p i n m r : ℕ) (x : Xad) → m ≡ p + i → n ≡ i + r → ((j : ℕ) → p ≤ j → j < m → end_of (entry_of bytes j) ≤ x.offset) → found_in xt_scale x (entries_from bytes p n) ≡ found_in xt_scale x (entries_from bytes m r)
skipped bytes p zero n m r x at is ended = ap (λ k. found_in xt_scale x (entries_from bytes p k)) (omega (arith, is)) ∙ ap (λ k. found_in xt_scale x (entries_from bytes k r)) (omega (arith, at))
skipped bytes p (suc i) zero m r x at is ended = absurd (none i r is)
  where
    none : (i r : ℕ) → zero ≡ suc i + r → ⊥
    none i r e = omega (arith, e)
skipped bytes p (suc i) (suc n) m r x at is ended =
    rw (le-leb (end_of (entry_of bytes p)) x.offset (ended p (omega arith) (omega (arith, at))))
    (skipped bytes (suc p) i n m r x (omega (arith, at)) (omega (arith, is)) (λ j a b. ended j (omega (arith, a)) b))

met : (bytes : List ℕ) (m r : ℕ) (x : Xad) → 0 < r → x.offset < end_of (entry_of bytes m) → (entry_of bytes m).offset < end_of x → found_in xt_scale x (entries_from bytes m r) ≡ Some (entry_of bytes m)
met bytes m zero x h a b = absurd (omega (arith, h))
met bytes m (suc r) x h a b = rw (lt-leb (end_of (entry_of bytes m)) x.offset a, lt-leb (end_of x) (entry_of bytes m).offset b) refl

missed : (bytes : List ℕ) (m r : ℕ) (x : Xad) → (0 < r → (x.offset < end_of (entry_of bytes m)) × (end_of x ≤ (entry_of bytes m).offset)) → found_in xt_scale x (entries_from bytes m r) ≡ None
missed bytes m zero x h = refl
missed bytes m (suc r) x h = let t = h (omega arith) in rw (lt-leb (end_of (entry_of bytes m)) x.offset t.0, le-leb (end_of x) (entry_of bytes m).offset t.1) refl

-- the entry before the place
pub finds_before : (bytes : List ℕ) (place i : ℕ) (x before : Xad) → rises_from 0 (entries_of bytes) ≡ true → IsPlace bytes x.offset place → place ≡ i + 1 → before ≡ entry_of bytes i → x.offset < end_of before → Some before ≡ found_in xt_scale x (entries_of bytes)
finds_before bytes place i x before rises at e is past =
    let r = is_rising bytes rises in
    let m = at.most in
    let begins = at.before i (omega (arith, e)) in
    let wide = ends_after x in
    ap (λ y. Some y) is
    ∙ sym (skipped bytes 0 i (count_of bytes) i (count_of bytes - i) x (omega arith) (omega (arith, e, m)) (λ j a b. (let g = r j (omega (arith, b, e, m)) in let k = at.before (suc j) (omega (arith, b, e)) in omega (arith, g, k)))
    ∙ met bytes i (count_of bytes - i) x (omega (arith, e, m)) (subst (λ (y : Xad). x.offset < end_of y) is past) (omega (arith, begins, wide)))

-- all before the place end before the extent
pub ended : (bytes : List ℕ) (place : ℕ) (x : Xad) → rises_from 0 (entries_of bytes) ≡ true → IsPlace bytes x.offset place → ((i : ℕ) → place ≡ i + 1 → end_of (entry_of bytes i) ≤ x.offset) → (j : ℕ) → j < place → end_of (entry_of bytes j) ≤ x.offset
ended bytes place x rises at last j l = elim (cases j place l) [
  | inl e ↦ last j e
  | inr h ↦ let m = at.most in let g = is_rising bytes rises j (omega (arith, h, m)) in let k = at.before (suc j) h in omega (arith, g, k)
]
  where
    cases : (j place : ℕ) → j < place → (place ≡ j + 1) ⊎ (suc j < place)
    cases j zero l = absurd (none_less j l)
    cases zero (suc zero) l = inl refl
    cases zero (suc (suc p)) l = inr (omega arith)
    cases (suc j) (suc p) l = elim (cases j p (omega (arith, l))) [ inl e ↦ inl (omega (arith, e)) | inr h ↦ inr (omega (arith, h)) ]

pub finds_behind : (bytes : List ℕ) (place : ℕ) (x behind : Xad) → rises_from 0 (entries_of bytes) ≡ true → IsPlace bytes x.offset place → ((i : ℕ) → place ≡ i + 1 → end_of (entry_of bytes i) ≤ x.offset) → place < count_of bytes
    → behind ≡ entry_of bytes place → behind.offset < end_of x → Some behind ≡ found_in xt_scale x (entries_of bytes)
finds_behind bytes place x behind rises at last l is begins =
    let m = at.most in
    let past = at.behind place (omega arith) l in
    let wide = ends_after (entry_of bytes place) in
    ap (λ y. Some y) is
    ∙ sym (skipped bytes 0 place (count_of bytes) place (count_of bytes - place) x (omega arith) (omega (arith, m)) (λ j a b. ended bytes place x rises at last j b)
    ∙ met bytes place (count_of bytes - place) x (omega (arith, l)) (omega (arith, past, wide)) (subst (λ (y : Xad). y.offset < end_of x) is begins))

pub finds_none : (bytes : List ℕ) (place : ℕ) (x : Xad) → rises_from 0 (entries_of bytes) ≡ true → IsPlace bytes x.offset place → ((i : ℕ) → place ≡ i + 1 → end_of (entry_of bytes i) ≤ x.offset)
    → (place < count_of bytes → end_of x ≤ (entry_of bytes place).offset) → (let n : Option Xad = None in n) ≡ found_in xt_scale x (entries_of bytes)
finds_none bytes place x rises at last beyond =
    let m = at.most in
    sym (skipped bytes 0 place (count_of bytes) place (count_of bytes - place) x (omega arith) (omega (arith, m)) (λ j a b. ended bytes place x rises at last j b)
    ∙ missed bytes place (count_of bytes - place) x (λ h. (let past = at.behind place (omega arith) (omega (arith, h)) in let wide = ends_after (entry_of bytes place) in omega (arith, past, wide), beyond (omega (arith, h)))))

-- as the code looks at it
pub last_before : (bytes : List ℕ) (place r offset : ℕ) (before : Xad) → before ≡ entry_of bytes (place - 1) → r ≡ end_of before → r ≤ offset → (i : ℕ) → place ≡ i + 1 → end_of (entry_of bytes i) ≤ offset
last_before bytes place r offset before is ends h i e =
    let at : place - 1 ≡ i = omega (arith, e) in
    let same : end_of before ≡ end_of (entry_of bytes i) = ap end_of (is ∙ ap (entry_of bytes) at) in
    omega (arith, same, ends, h)

pub none_before : (bytes : List ℕ) (place offset : ℕ) → place ≤ 0 → (i : ℕ) → place ≡ i + 1 → end_of (entry_of bytes i) ≤ offset
none_before bytes place offset h i e = absurd (none i place h e)
  where
    none : (i place : ℕ) → place ≤ 0 → place ≡ i + 1 → ⊥
    none i place h e = omega (arith, h, e)
