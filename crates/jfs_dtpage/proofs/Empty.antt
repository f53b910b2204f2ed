-- Pages without entries, all of whose slots are free.
use Rattle.std.proofs.Common.{◌≡◌, ◌≤◌, ◌<◌, ◌+◌, ◌-◌, ◌*◌, ◌%◌, ℕ, zero, suc, Bool, true, false, List, [], ◌∷◌, map, length, inl, inr, refl, sym, ap, ◌∙◌, subst, ◌⊎◌, arith}
use Rattle.std.specs.Prelude.{if◌then◌else◌, nat_le, nat_lt, ◌&&◌, ◌||◌}
use Rattle.std.specs.List.{AllByRecursion, flat_map}
use Rattle.std.proofs.lemmas.Bool.{cases_lt, cases_eq, le-leb, lt-leb, lt-ltb, le-ltb}
use Rattle.jfs_bits.specs.Field.{field_of}
use Rattle.jfs_dtpage.specs.declared.head.DtForm.{DtForm}
use Rattle.jfs_dtpage.specs.declared.head.DtForm.TheVariants.{Root, Full}
use Rattle.jfs_dtpage.specs.Form.{flag_of, count_of, free_of, first_free, is_leaf, most_of, table_at}
use Rattle.jfs_dtpage.specs.Slots.{next_of, follow, behind, slots_at, times, Kept}
use Rattle.jfs_dtpage.specs.Page.{Ends, table_of, entries_of, entry_of, name_of, taken_of, chain_of, usable, FlagFits, TableFits, IsDtPage}
use Rattle.jfs_dtpage.proofs.Lists.{times_here, times_other}
use Rattle.jfs_dtpage.proofs.Kept.{kept_both, kept_wider}
use Rattle.jfs_dtpage.proofs.Joined.{page_of}

-- ---- slots that name one another in turn

abbrev pub InTurn : List ℕ → ℕ → ℕ → Type 0
InTurn bytes first end = (k : ℕ) → first ≤ k → k + 1 < end → next_of bytes k ≡ k + 1

no_bit : (b : Bool) → ◌≡◌ {A = ℕ} (if b && false then 1 else 0) 0
no_bit true = refl
no_bit false = refl

pub between : ℕ → ℕ → ℕ → ℕ
between first end k = if nat_le first k && nat_lt k end then 1 else 0

between_no : (first end k : ℕ) → (k < first) ⊎ (end ≤ k) → between first end k ≡ 0
unfolding between
between_no first end k (inl h) = rw (lt-leb first k h) refl
between_no first end k (inr h) = rw (le-ltb k end h) (no_bit (nat_le first k))

between_yes : (first end k : ℕ) → first ≤ k → k < end → between first end k ≡ 1
unfolding between
between_yes first end k l h = rw (le-leb first k l, lt-ltb k end h) refl

turn_times : (bytes : List ℕ) (first n end k : ℕ) → end ≡ first + n → InTurn bytes first end → times k (follow bytes first n) ≡ between first end k
unfolding follow
turn_times bytes first zero end k e turn = sym (between_no first end k (elim (cases_lt k first) [ inl l ↦ inl l | inr m ↦ inr (omega (arith, e, m)) ]))
turn_times bytes first (suc zero) end k e turn = elim (cases_eq first k) [
  | inl same ↦ subst (λ (j : ℕ). times j (first ∷ []) ≡ between first end j) same (times_here first [] ∙ sym (between_yes first end first (omega arith) (omega (arith, e))))
  | inr other ↦ times_other k first [] other ∙ sym (between_no first end k (elim (cases_lt k first) [ inl l ↦ inl l | inr m ↦ inr (omega (arith, e, m, other)) ]))
]
turn_times bytes first (suc (suc n)) end k e turn =
    let next : next_of bytes first ≡ first + 1 = turn first (omega arith) (omega (arith, e)) in
    let rest = turn_times bytes (first + 1) (suc n) end k (omega (arith, e)) (λ j l h. turn j (omega (arith, l)) h) in
    let whole : times k (first ∷ follow bytes (next_of bytes first) (suc n)) ≡ times k (first ∷ follow bytes (first + 1) (suc n)) = ap (λ (s : ℕ). times k (first ∷ follow bytes s (suc n))) next in
    whole ∙ elim (cases_eq first k) [
      | inl same ↦ subst (λ (j : ℕ). times j (follow bytes (first + 1) (suc n)) ≡ between (first + 1) end j → times j (first ∷ follow bytes (first + 1) (suc n)) ≡ between first end j) same
          (λ r. let a = times_here first (follow bytes (first + 1) (suc n)) in let b = between_no (first + 1) end first (inl (omega arith)) in let c = between_yes first end first (omega arith) (omega (arith, e)) in omega (arith, a, b, c, r)) rest
      | inr other ↦ times_other k first (follow bytes (first + 1) (suc n)) other ∙ rest ∙ skip first end k other
    ]
  where
    skip : (first end k : ℕ) → (first ≡ k → ⊥) → between (first + 1) end k ≡ between first end k
    skip first end k other = elim (cases_lt k first) [
      | inl l ↦ between_no (first + 1) end k (inl (omega (arith, l))) ∙ sym (between_no first end k (inl l))
      | inr m ↦ elim (cases_lt k end) [
        | inl h ↦ between_yes (first + 1) end k (omega (arith, m, other)) h ∙ sym (between_yes first end k m h)
        | inr h ↦ between_no (first + 1) end k (inr h) ∙ sym (between_no first end k (inr h))
      ]
    ]

turn_behind : (bytes : List ℕ) (first n end : ℕ) → end ≡ first + n → 0 < n → InTurn bytes first end → next_of bytes (end - 1) ≡ 255 → behind bytes first n ≡ 255
unfolding behind
turn_behind bytes first zero end e some turn last = absurd (none some)
  where
    none : 0 < 0 → ⊥
    none h = omega (arith, h)
turn_behind bytes first (suc zero) end e some turn last = let at : first ≡ end - 1 = omega (arith, e) in ap (next_of bytes) at ∙ last
turn_behind bytes first (suc (suc n)) end e some turn last =
    ap (λ (s : ℕ). behind bytes s (suc n)) (turn first (omega arith) (omega (arith, e))) ∙ turn_behind bytes (first + 1) (suc n) end (omega (arith, e)) (omega arith) (λ j l h. turn j (omega (arith, l)) h) last

-- ---- a page without entries

pub no_table : (form : DtForm) (bytes : List ℕ) → count_of bytes ≡ 0 → table_of form bytes ≡ []
unfolding table_of slots_at
no_table form bytes z = ap (λ (n : ℕ). slots_at bytes (table_at form bytes) n) z

pub no_entries : (form : DtForm) (bytes : List ℕ) → count_of bytes ≡ 0 → entries_of form bytes ≡ []
no_entries form bytes z = ap (map (entry_of (is_leaf bytes) bytes)) (no_table form bytes z)

below_zero : (j : ℕ) → j < 0 → ⊥
below_zero j h = omega (arith, h)

pub empty_page : (form : DtForm) (bytes : List ℕ) (first end : ℕ) → FlagFits form (flag_of bytes % 8) → TableFits form bytes → count_of bytes ≡ 0 → free_of bytes ≡ most_of form → first_free bytes ≡ first → end ≡ first + most_of form → 0 < most_of form
    → InTurn bytes first end → next_of bytes (end - 1) ≡ 255 → ((k : ℕ) → between first end k ≡ usable form bytes k) → IsDtPage form bytes
empty_page form bytes first end flag fits z free start e some turn last all =
    let t = no_table form bytes z in
    let taken : (k : ℕ) → times k (taken_of form bytes) ≡ 0 = λ k. ap (λ (xs : List ℕ). times k (flat_map (chain_of (is_leaf bytes) bytes) xs)) t in
    let chain : (k : ℕ) → times k (follow bytes (first_free bytes) (free_of bytes)) ≡ usable form bytes k =
    λ k. ap (λ (s : ℕ). times k (follow bytes s (free_of bytes))) start ∙ ap (λ (n : ℕ). times k (follow bytes first n)) free ∙ turn_times bytes first (most_of form) end k e turn ∙ all k in
    page_of form bytes flag (record { table = fits; entries = omega (arith, z); free = omega (arith, free) })
    (record { ends = subst (AllByRecursion (Ends (is_leaf bytes) bytes)) (sym t) tt; once = λ k. let a = taken k in omega (arith, a) })
    (record {
      ends = ap (λ (s : ℕ). behind bytes s (free_of bytes)) start ∙ ap (λ (n : ℕ). behind bytes first n) free ∙ turn_behind bytes first (most_of form) end e some turn last;
      once = λ k. let a = taken k in let b = chain k in omega (arith, a, b);
    })
    (λ i j h l. absurd (below_zero j (subst (λ (xs : List ℕ). j < length (map (name_of (is_leaf bytes) bytes) xs)) t l)))

pub all_root : (bytes : List ℕ) (k : ℕ) → between 1 9 k ≡ usable Root bytes k
unfolding between
all_root bytes k = refl

one_bit : (b : Bool) → ◌≡◌ {A = ℕ} (if true && b && true then 1 else 0) (if true && b then 1 else 0)
one_bit true = refl
one_bit false = refl

behind_table : (k : ℕ) → ◌≡◌ {A = ℕ} (if nat_le 1 k && nat_lt k 128 && (nat_lt k 1 || nat_le 5 k) then 1 else 0) (if nat_le 5 k && nat_lt k 128 then 1 else 0)
behind_table k = elim (cases_lt k 5) [
  | inl l ↦ elim (cases_lt k 1) [
    | inl m ↦ rw (lt-leb 1 k m, lt-leb 5 k l) refl
    | inr m ↦ rw (le-ltb k 1 m, lt-leb 5 k l) (no_bit (nat_le 1 k && nat_lt k 128))
  ]
  | inr l ↦ rw (le-leb 1 k (omega (arith, l)), le-ltb k 1 (omega (arith, l)), le-leb 5 k l) (one_bit (nat_lt k 128))
]

pub all_full : (bytes : List ℕ) (k : ℕ) → field_of bytes 21 1 ≡ 1 → between 5 128 k ≡ usable Full bytes k
unfolding between
all_full bytes k t = sym (ap (λ (n : ℕ). if nat_le 1 k && nat_lt k 128 && (nat_lt k n || nat_le (n + 4) k) then 1 else 0) t ∙ behind_table k)

-- ---- slots linked one by one

abbrev pub Linked : List ℕ → List ℕ → ℕ → ℕ → ℕ → Type 0
Linked old now first end slot = ((k : ℕ) → first ≤ k → k < slot → next_of now k ≡ k + 1) × Kept (32 * first) (32 * (end - first)) old now

pub linked_more : (old now new : List ℕ) (first end slot at value : ℕ) → first ≤ slot → slot < end → Linked old now first end slot → at ≡ 32 * slot → field_of new at 1 ≡ value → value ≡ slot + 1 → Kept at 1 now new → Linked old new first end (slot + 1)
linked_more old now new first end slot at value low high l e v is kept = (
  λ k a b. elim (cases_eq k slot) [
    | inl same ↦ subst (λ (j : ℕ). next_of new j ≡ j + 1) (sym same) (subst (λ (p : ℕ). field_of new p 1 ≡ slot + 1) e (v ∙ is))
    | inr other ↦ kept (32 * k) 1 (inl (omega (arith, e, b, other))) ∙ l.0 k a (omega (arith, b, other))
  ],
  kept_both (32 * first) (32 * (end - first)) old now new l.1 (kept_wider at 1 (32 * first) (32 * (end - first)) now new (omega (arith, e, low)) (omega (arith, e, low, high)) kept),
)

pub record AllLinked (old new : List ℕ) (first end : ℕ) : Type 0 where
  pub turn : InTurn new first end
  pub last : next_of new (end - 1) ≡ 255
  pub kept : Kept (32 * first) (32 * (end - first)) old new

pub linked_all : (old now new : List ℕ) (first end slot at : ℕ) → first < end → end - 1 ≤ slot → Linked old now first end slot → at ≡ 32 * (end - 1) → field_of new at 1 ≡ 255 → Kept at 1 now new → AllLinked old new first end
linked_all old now new first end slot at some past l e v kept = record {
  turn = λ k a b. kept (32 * k) 1 (inl (omega (arith, e, b))) ∙ l.0 k a (omega (arith, b, past));
  last = subst (λ (p : ℕ). field_of new p 1 ≡ 255) e v;
  kept = kept_both (32 * first) (32 * (end - first)) old now new l.1 (kept_wider at 1 (32 * first) (32 * (end - first)) now new (omega (arith, e, some)) (omega (arith, e, some)) kept);
}
