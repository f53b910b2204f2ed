-- Two entries' names, compared by the units in their first slots.
use Rattle.std.proofs.Common.{◌≡◌, ◌≤◌, ◌<◌, ◌+◌, ◌-◌, ◌*◌, ℕ, zero, suc, Bool, List, [], ◌∷◌, length, get_or, inl, inr, sym, ap, ◌∙◌, subst, length-append, arith}
use Rattle.std.specs.Prelude.{◌==◌, if◌then◌else◌, min}
use Rattle.std.specs.Ordering.{nat_cmp, ordering_then, ordering_reverse}
use Rattle.std.specs.Cmp.Lexicographic.{slice_cmp}
use Rattle.std.specs.declared.cmp.Ordering.{Ordering}
use Rattle.std.specs.declared.cmp.Ordering.TheVariants.{Less, Equal, Greater}
use Rattle.std.proofs.lemmas.Bool.{cases_lt, cond_below}
use Rattle.std.proofs.lemmas.Cmp.{nat_cmp_total, nat_list_cmp_total, tied_itself}
use Rattle.std.proofs.lemmas.List.{get_or_append_left}
use Rattle.jfs_bits.specs.Field.{field_of}
use Rattle.jfs_dtpage.specs.declared.head.DtForm.{DtForm}
use Rattle.jfs_dtpage.specs.Form.{bytes_of, count_of, is_leaf, link_at, first_units, more_slots}
use Rattle.jfs_dtpage.specs.Slots.{units_at, gather, AreWithin}
use Rattle.jfs_dtpage.specs.Order.{IsBefore, name_at}
use Rattle.jfs_dtpage.specs.Page.{link_of, length_of, chain_of, name_of, names_of, table_of, ChainsFit}
use Rattle.jfs_dtpage.proofs.Lists.{length-units_at}
use Rattle.jfs_dtpage.proofs.Pages.{chain_within, name_is}

none : (i : ℕ) → i < 0 → ⊥
none i h = omega (arith, h)

-- ---- lists that differ first at a place compare as the numbers there

pub differ_at : (xs ys : List ℕ) (i : ℕ) → i < length xs → i < length ys → ((k : ℕ) → k < i → get_or xs k 0 ≡ get_or ys k 0) → get_or xs i 0 < get_or ys i 0 → IsBefore xs ys
differ_at [] ys i h l s b = absurd (none i h)
differ_at (x ∷ xs) [] i h l s b = absurd (none i l)
differ_at (x ∷ xs) (y ∷ ys) zero h l s b = ap (λ (o : Ordering). ordering_then o (slice_cmp nat_cmp xs ys)) (sym (cond_below x y Less (if x == y then Equal else Greater) b))
differ_at (x ∷ xs) (y ∷ ys) (suc i) h l s b =
    let e : x ≡ y = s 0 (omega arith) in
    ap (λ (o : Ordering). ordering_then o (slice_cmp nat_cmp xs ys)) (ap (λ (z : ℕ). nat_cmp x z) (sym e) ∙ tied_itself nat_cmp_total x)
    ∙ differ_at xs ys i (omega (arith, h)) (omega (arith, l)) (λ k a. s (suc k) (omega (arith, a))) b

pub not_both : (a b : List ℕ) → IsBefore a b → IsBefore b a → ⊥
not_both a b x y = differ (sym x ∙ nat_list_cmp_total.antisymm a b ∙ ap ordering_reverse y)
  where
    differ : Less ≡ Greater → ⊥
    differ e = absurd cc

-- ---- the first units of a name

get_or-units_at : (bytes : List ℕ) (at n i : ℕ) → i < n → get_or (units_at bytes at n) i 0 ≡ field_of bytes (at + 2 * i) 2
unfolding units_at
get_or-units_at bytes at zero i h = absurd (none i h)
get_or-units_at bytes at (suc n) zero h = ap (λ (p : ℕ). field_of bytes p 2) (omega arith)
get_or-units_at bytes at (suc n) (suc i) h = get_or-units_at bytes (at + 2) n i (omega (arith, h)) ∙ ap (λ (p : ℕ). field_of bytes p 2) (omega arith)

pub unit_there : (leaf : Bool) (bytes : List ℕ) (slot i : ℕ) → i < min (first_units leaf) (length_of leaf bytes slot) → i < length (name_of leaf bytes slot)
unfolding name_of
unit_there leaf bytes slot i h =
    let n = min (length_of leaf bytes slot) (first_units leaf) in
    let first = units_at bytes (32 * slot + link_at leaf + 2) n in
    let further = gather bytes (link_of leaf bytes slot) (more_slots leaf (length_of leaf bytes slot)) (length_of leaf bytes slot - first_units leaf) in
    let a = length-append first further in
    let b = length-units_at bytes (32 * slot + link_at leaf + 2) n in
    omega (arith, h, a, b)

pub unit_is : (leaf : Bool) (bytes : List ℕ) (slot at i : ℕ) → at ≡ 32 * slot + link_at leaf + 2 → i < min (first_units leaf) (length_of leaf bytes slot) → get_or (name_of leaf bytes slot) i 0 ≡ field_of bytes (at + 2 * i) 2
unfolding name_of
unit_is leaf bytes slot at i e h =
    let n = min (length_of leaf bytes slot) (first_units leaf) in
    let first = units_at bytes (32 * slot + link_at leaf + 2) n in
    let further = gather bytes (link_of leaf bytes slot) (more_slots leaf (length_of leaf bytes slot)) (length_of leaf bytes slot - first_units leaf) in
    let l : i < n = omega (arith, h) in
    get_or_append_left first further 0 i (let b = length-units_at bytes (32 * slot + link_at leaf + 2) n in omega (arith, l, b))
    ∙ get_or-units_at bytes (32 * slot + link_at leaf + 2) n i l ∙ ap (λ (p : ℕ). field_of bytes (p + 2 * i) 2) (sym e)

-- both names have the unit, and those before it are the same
pub units_rise : (leaf : Bool) (bytes : List ℕ) (one other at beside i : ℕ) → at ≡ 32 * one + link_at leaf + 2 → beside ≡ 32 * other + link_at leaf + 2
    → i < min (first_units leaf) (min (length_of leaf bytes one) (length_of leaf bytes other)) → ((k : ℕ) → k < i → field_of bytes (at + 2 * k) 2 ≡ field_of bytes (beside + 2 * k) 2)
    → field_of bytes (at + 2 * i) 2 < field_of bytes (beside + 2 * i) 2 → IsBefore (name_of leaf bytes one) (name_of leaf bytes other)
units_rise leaf bytes one other at beside i a b h s l =
    let mine : (k : ℕ) → k < i + 1 → k < min (first_units leaf) (length_of leaf bytes one) = λ k z. omega (arith, h, z) in
    let its : (k : ℕ) → k < i + 1 → k < min (first_units leaf) (length_of leaf bytes other) = λ k z. omega (arith, h, z) in
    differ_at (name_of leaf bytes one) (name_of leaf bytes other) i (unit_there leaf bytes one i (mine i (omega arith))) (unit_there leaf bytes other i (its i (omega arith)))
    (λ k z. unit_is leaf bytes one at k a (mine k (omega (arith, z))) ∙ s k z ∙ sym (unit_is leaf bytes other beside k b (its k (omega (arith, z)))))
    (let x = unit_is leaf bytes one at i a (mine i (omega arith)) in let y = unit_is leaf bytes other beside i b (its i (omega arith)) in omega (arith, l, x, y))

-- ---- entries of a page, by their places

pub within_at : (form : DtForm) (bytes : List ℕ) (place slot : ℕ) (leaf : Bool) → length bytes ≡ bytes_of form → ChainsFit form bytes → place < count_of bytes → leaf ≡ is_leaf bytes → slot ≡ get_or (table_of form bytes) place 0
    → AreWithin bytes (chain_of leaf bytes slot)
within_at form bytes place slot leaf size fit h l s =
    subst (λ (b : Bool). AreWithin bytes (chain_of b bytes slot)) (sym l) (subst (λ (k : ℕ). AreWithin bytes (chain_of (is_leaf bytes) bytes k)) (sym s) (chain_within form bytes place size fit h))

pub name_by : (form : DtForm) (bytes : List ℕ) (place slot : ℕ) (leaf : Bool) → place < count_of bytes → leaf ≡ is_leaf bytes → slot ≡ get_or (table_of form bytes) place 0 → name_of leaf bytes slot ≡ name_at (names_of form bytes) place
name_by form bytes place slot leaf h l s = ap (λ (b : Bool). name_of b bytes slot) l ∙ ap (λ (k : ℕ). name_of (is_leaf bytes) bytes k) s ∙ sym (name_is form bytes place h)

-- one more name is before the next one
pub rises_more : (names : List (List ℕ)) (place : ℕ) (one next : List ℕ) → 1 ≤ place → one ≡ name_at names (place - 1) → next ≡ name_at names place → IsBefore one next
    → ((i : ℕ) → suc i < place → IsBefore (name_at names i) (name_at names (suc i))) → (i : ℕ) → suc i < place + 1 → IsBefore (name_at names i) (name_at names (suc i))
rises_more names place one next l o n b inv i h = elim (cases_lt (suc i) place) [
  | inl a ↦ inv i a
  | inr c ↦
      let e : place ≡ suc i = omega (arith, c, h) in let f : place - 1 ≡ i = omega (arith, e) in
      subst (λ (k : ℕ). IsBefore (name_at names k) (name_at names (suc i))) f
      (subst (λ (k : ℕ). IsBefore (name_at names (place - 1)) (name_at names k)) e (subst (λ (z : List ℕ). IsBefore (name_at names (place - 1)) z) n (subst (λ (z : List ℕ). IsBefore z next) o b)))
]
