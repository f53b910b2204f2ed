-- The tests of a page's rules decide them.
use Rattle.std.proofs.Common.{◌≡◌, ◌≤◌, ◌<◌, ◌⊎◌, ◌+◌, ◌%◌, ℕ, zero, suc, Bool, true, List, [], ◌∷◌, ◌++◌, length, Some, None, Decides, inl, inr, refl, subst, arith}
use Rattle.std.specs.Prelude.{nat_le, ◌==◌, ◌&&◌}
use Rattle.std.specs.List.{list_all, range_with_len, AllByRecursion}
use Rattle.std.specs.Ordering.{is_lt, nat_cmp}
use Rattle.std.specs.Cmp.Lexicographic.{slice_cmp}
use Rattle.std.specs.declared.cmp.Ordering.{Ordering}
use Rattle.std.specs.declared.cmp.Ordering.TheVariants.{Less, Equal, Greater}
use Rattle.std.proofs.lemmas.Bool.{cases_eq, cases_lt, eqb-true, eq-eqb, leb-true, le-leb, and_parts, and_from}
use Rattle.std.proofs.lemmas.Bool.Decides.{Decides-and, Decides-or, Decides-eqb}
use Rattle.jfs_bits.specs.declared.rule.Rule.{Rule}
use Rattle.jfs_bits.specs.declared.rule.Rule.TheVariants as rules
use Rattle.jfs_bits.specs.Field.{field_of}
use Rattle.jfs_bits.specs.Broken.{IsFirstBroken, first_broken}
use Rattle.jfs_bits.proofs.Broken.{decided-none, none-decided, some-decided}
use Rattle.jfs_dtpage.specs.declared.head.DtForm.{DtForm}
use Rattle.jfs_dtpage.specs.declared.head.DtForm.TheVariants.{Root, Full}
use Rattle.jfs_dtpage.specs.Form.{most_of, flag_of, count_of, free_of, first_free, is_leaf, more_slots, slots_of}
use Rattle.jfs_dtpage.specs.Slots.{chain_end, behind, times}
use Rattle.jfs_dtpage.specs.Order.{IsBefore, IsRising, name_at}
use Rattle.jfs_dtpage.specs.Page.{Ends, link_of, length_of, table_of, names_of, taken_of, free_chain, usable, dt_rules, FlagFits, TableFits, SlotsFit, ChainsFit, FreeFits, IsDtPage, Holds}
use Rattle.jfs_dtpage.proofs.Lists.{times-append, times_here, times_other, times_rest}
use Rattle.jfs_dtpage.proofs.Pages.{usable_range}
use Rattle.jfs_dtpage.proofs.Rising.{rising_from_next}
use Rattle.jfs_dtree.specs.Rules.{fits_flag, fits_table, fits_slots, ends, fits_chains, fits_free, rises, holds, rows}

-- ---- flag and slots

flag_decides : (form : DtForm) (low : ℕ) → Decides (fits_flag form low) (FlagFits form low)
flag_decides Root low = Decides-or (low == 3) (low == 5) (Decides-eqb low 3) (Decides-eqb low 5)
flag_decides Full low = Decides-or (low == 2) (low == 4) (Decides-eqb low 2) (Decides-eqb low 4)

table_decides : (form : DtForm) (bytes : List ℕ) → Decides (fits_table form bytes) (TableFits form bytes)
table_decides Root bytes = (λ e. tt, λ h. refl)
table_decides Full bytes =
    let size = field_of bytes 20 1 in
    let table = field_of bytes 21 1 in (
      λ e. let a = and_parts (size == 128 && nat_le 1 table) (nat_le table 124) e in let b = and_parts (size == 128) (nat_le 1 table) a.0 in (eqb-true size 128 b.0, leb-true 1 table b.1, leb-true table 124 a.1),
      λ h. and_from (size == 128 && nat_le 1 table) (nat_le table 124) (and_from (size == 128) (nat_le 1 table) (eq-eqb size 128 h.0) (le-leb 1 table h.1)) (le-leb table 124 h.2),
    )

slots_decide : (form : DtForm) (bytes : List ℕ) → Decides (fits_slots form bytes) (SlotsFit form bytes)
slots_decide form bytes =
    let few = nat_le (count_of bytes) (most_of form) in
    let free = nat_le (free_of bytes) (most_of form) in
    let t = table_decides form bytes in (
      λ e. let a = and_parts (fits_table form bytes && few) free e in let b = and_parts (fits_table form bytes) few a.0 in
          record { table = t.0 b.0; entries = leb-true (count_of bytes) (most_of form) b.1; free = leb-true (free_of bytes) (most_of form) a.1 },
      λ h. and_from (fits_table form bytes && few) free (and_from (fits_table form bytes) few (t.1 h.table) (le-leb (count_of bytes) (most_of form) h.entries)) (le-leb (free_of bytes) (most_of form) h.free),
    )

-- ---- tests of each number of a list

tested_at : (p : ℕ → Bool) (xs : List ℕ) (k : ℕ) → list_all p xs ≡ true → 1 ≤ times k xs → p k ≡ true
tested_at p [] k e some = absurd (omega (arith, some))
tested_at p (x ∷ xs) k e some =
    let a = and_parts (p x) (list_all p xs) e in
    elim (cases_eq x k) [
      | inl is ↦ subst (λ (n : ℕ). p n ≡ true) is a.0
      | inr other ↦ tested_at p xs k a.1 (let n = times_other k x xs other in omega (arith, n, some))
    ]

tested_from : (p : ℕ → Bool) (xs : List ℕ) → ((k : ℕ) → 1 ≤ times k xs → p k ≡ true) → list_all p xs ≡ true
tested_from p [] h = refl
tested_from p (x ∷ xs) h = and_from (p x) (list_all p xs) (h x (let n = times_here x xs in omega (arith, n))) (tested_from p xs (λ k some. h k (let n = times_rest k x xs in omega (arith, n, some))))

in_range : (a n k : ℕ) → a ≤ k → k < a + n → 1 ≤ times k (range_with_len a n)
in_range a zero k low high = absurd (omega (arith, low, high))
in_range a (suc n) k low high = elim (cases_eq a k) [
  | inl is ↦ subst (λ (j : ℕ). 1 ≤ times j (range_with_len a (suc n))) is (let t = times_here a (range_with_len (a + 1) n) in omega (arith, t))
  | inr other ↦ let r = in_range (a + 1) n k (omega (arith, low, other)) (omega (arith, high)) in let t = times_rest k a (range_with_len (a + 1) n) in omega (arith, r, t)
]

-- ---- chains

all_decides : {P : ℕ → Type 0} (p : ℕ → Bool) → ((k : ℕ) → Decides (p k) (P k)) → (xs : List ℕ) → Decides (list_all p xs) (AllByRecursion P xs)
all_decides p d [] = (λ e. tt, λ h. refl)
all_decides p d (x ∷ xs) = Decides-and (p x) (list_all p xs) (d x) (all_decides p d xs)

ends_decides : (bytes : List ℕ) (slot : ℕ) → Decides (ends bytes slot) (Ends (is_leaf bytes) bytes slot)
unfolding Ends
ends_decides bytes slot = Decides-eqb (behind bytes (link_of (is_leaf bytes) bytes slot) (more_slots (is_leaf bytes) (length_of (is_leaf bytes) bytes slot))) chain_end

cases_some : (n : ℕ) → (n ≡ 0) ⊎ (1 ≤ n)
cases_some zero = inl refl
cases_some (suc n) = inr (omega arith)

once_decides : (form : DtForm) (bytes xs : List ℕ) → Decides (list_all (λ slot. nat_le (times slot xs) (usable form bytes slot)) xs) ((slot : ℕ) → times slot xs ≤ usable form bytes slot)
once_decides form bytes xs = (
  λ e slot. elim (cases_some (times slot xs)) [
    | inl none ↦ omega (arith, none)
    | inr some ↦ leb-true (times slot xs) (usable form bytes slot) (tested_at (λ slot. nat_le (times slot xs) (usable form bytes slot)) xs slot e some)
  ],
  λ h. tested_from (λ slot. nat_le (times slot xs) (usable form bytes slot)) xs (λ slot some. le-leb (times slot xs) (usable form bytes slot) (h slot)),
)

pub chains_decide : (form : DtForm) (bytes : List ℕ) → Decides (fits_chains form bytes) (ChainsFit form bytes)
chains_decide form bytes =
    let a = all_decides (ends bytes) (ends_decides bytes) (table_of form bytes) in
    let b = once_decides form bytes (taken_of form bytes) in
    let d = Decides-and (list_all (ends bytes) (table_of form bytes)) (list_all (λ slot. nat_le (times slot (taken_of form bytes)) (usable form bytes slot)) (taken_of form bytes)) a b in (
      λ e. let h = d.0 e in record { ends = h.0; once = h.1 },
      λ h. d.1 (h.ends, h.once),
    )

-- ---- the free chain

met_decides : (form : DtForm) (bytes xs ys : List ℕ) → Decides (list_all (λ slot. times slot xs + times slot ys == usable form bytes slot) (range_with_len 0 128 ++ xs ++ ys)) ((slot : ℕ) → times slot xs + times slot ys ≡ usable form bytes slot)
met_decides form bytes xs ys =
    let test = λ (slot : ℕ). times slot xs + times slot ys == usable form bytes slot in (
      λ e slot. elim (cases_some (times slot (range_with_len 0 128 ++ xs ++ ys))) [
        | inl none ↦
            let a = times-append slot (range_with_len 0 128) (xs ++ ys) in
            let b = times-append slot xs ys in
            let zero_in = λ (h : slot < 128). in_range 0 128 slot (omega arith) (omega (arith, h)) in
            let out : 128 ≤ slot = elim (cases_lt slot 128) [ inl h ↦ absurd (let z = zero_in h in omega (arith, z, a, none)) | inr h ↦ h ] in
            let z : usable form bytes slot ≡ 0 = elim (cases_some (usable form bytes slot)) [ inl z ↦ z | inr some ↦ absurd (outside form slot (usable_range form bytes slot some).1 out) ] in
            omega (arith, a, b, none, z)
        | inr some ↦ eqb-true (times slot xs + times slot ys) (usable form bytes slot) (tested_at test (range_with_len 0 128 ++ xs ++ ys) slot e some)
      ],
      λ h. tested_from test (range_with_len 0 128 ++ xs ++ ys) (λ slot some. eq-eqb (times slot xs + times slot ys) (usable form bytes slot) (h slot)),
    )
  where
    outside : (form : DtForm) (slot : ℕ) → slot < slots_of form → 128 ≤ slot → ⊥
    outside Root slot h l = omega (arith, h, l)
    outside Full slot h l = omega (arith, h, l)

free_decides : (form : DtForm) (bytes : List ℕ) → Decides (fits_free form bytes) (FreeFits form bytes)
free_decides form bytes =
    let last = behind bytes (first_free bytes) (free_of bytes) in
    let all = list_all (λ slot. times slot (taken_of form bytes) + times slot (free_chain bytes) == usable form bytes slot) (range_with_len 0 128 ++ taken_of form bytes ++ free_chain bytes) in
    let d = Decides-and (last == chain_end) all (Decides-eqb last chain_end) (met_decides form bytes (taken_of form bytes) (free_chain bytes)) in (
      λ e. let h = d.0 e in record { ends = h.0; once = h.1 },
      λ h. d.1 (h.ends, h.once),
    )

-- ---- the order

less_decides : (r : Ordering) → Decides (is_lt r) (r ≡ Less)
less_decides Less = (λ e. refl, λ h. refl)
less_decides Equal = (λ e. absurd cc, λ h. absurd cc)
less_decides Greater = (λ e. absurd cc, λ h. absurd cc)

next_rises : (names : List (List ℕ)) → rises names ≡ true → (i : ℕ) → suc i < length names → IsBefore (name_at names i) (name_at names (suc i))
next_rises [] e i h = absurd (omega (arith, h))
next_rises (one ∷ []) e i h = absurd (omega (arith, h))
next_rises (one ∷ next ∷ more) e zero h = (less_decides (slice_cmp nat_cmp one next)).0 (and_parts (is_lt (slice_cmp nat_cmp one next)) (rises (next ∷ more)) e).0
next_rises (one ∷ next ∷ more) e (suc i) h = next_rises (next ∷ more) (and_parts (is_lt (slice_cmp nat_cmp one next)) (rises (next ∷ more)) e).1 i (omega (arith, h))

rises_next : (names : List (List ℕ)) → ((i : ℕ) → suc i < length names → IsBefore (name_at names i) (name_at names (suc i))) → rises names ≡ true
rises_next [] h = refl
rises_next (one ∷ []) h = refl
rises_next (one ∷ next ∷ more) h = and_from (is_lt (slice_cmp nat_cmp one next)) (rises (next ∷ more)) ((less_decides (slice_cmp nat_cmp one next)).1 (h 0 (omega arith))) (rises_next (next ∷ more) (λ i l. h (suc i) (omega (arith, l))))

pub order_decides : (names : List (List ℕ)) → Decides (rises names) (IsRising names)
order_decides names = (
  λ e. rising_from_next names (next_rises names e),
  λ h. rises_next names (λ i l. h i (suc i) (omega arith) l),
)

-- ---- all rules

pub decides : (form : DtForm) (bytes : List ℕ) (rule : Rule) → Decides (holds form bytes rule) (Holds form bytes rule)
decides form bytes rules.Flag = flag_decides form (flag_of bytes % 8)
decides form bytes rules.Slots = slots_decide form bytes
decides form bytes rules.Chain = chains_decide form bytes
decides form bytes rules.Free = free_decides form bytes
decides form bytes rules.Order = order_decides (names_of form bytes)
decides form bytes rule = (λ e. tt, λ h. refl)

pub none_broken : (form : DtForm) (bytes : List ℕ) → IsDtPage form bytes → first_broken (rows form bytes) ≡ None
none_broken form bytes sound = none-decided (Holds form bytes) (holds form bytes) (decides form bytes) dt_rules sound

pub first_of : (form : DtForm) (bytes : List ℕ) (rule : Rule) → IsFirstBroken (Holds form bytes) dt_rules rule → first_broken (rows form bytes) ≡ Some rule
first_of form bytes rule first = some-decided (Holds form bytes) (holds form bytes) (decides form bytes) dt_rules rule first

pub sound_of : (form : DtForm) (bytes : List ℕ) → first_broken (rows form bytes) ≡ None → IsDtPage form bytes
sound_of form bytes none = decided-none (Holds form bytes) (holds form bytes) (decides form bytes) dt_rules none
