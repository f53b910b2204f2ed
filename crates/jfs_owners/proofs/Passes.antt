-- Groups of blocks that all have two owners.
use Rattle.std.proofs.Common.{◌≡◌, ◌≢◌, ◌<◌, ◌≤◌, ◌+◌, ◌-◌, ◌*◌, ◌/◌, ◌%◌, ◌^◌, ℕ, Bool, true, false, ◌&&◌, ◌||◌, inl, inr, ◌⊎◌, List, length, refl, sym, ap, ◌∙◌, arith}
use Rattle.std.specs.Prelude.{◌==◌, min, max, nat_le, nat_lt, get_or, set}
use Rattle.std.proofs.lemmas.Bool.{cases_lt, cases_eq, eq-eqb, ne_eqb, lt-ltb, le-ltb, le-leb, and_from}
use Rattle.std.proofs.lemmas.Bool.Decides.{nat_tests}
use Rattle.std.proofs.lemmas.List.{get_or-set_same, get_or-set_other, length-set}
use Rattle.jfs_bits.specs.Field.{field_of}
use Rattle.jfs_bits.specs.Bits.{is_taken, is_taken_in}
use Rattle.jfs_bits.proofs.Words.{mask-bits}
use Rattle.jfs_owners.specs.Passed.{AreShared, AreGroups, PassesShared}

-- all bits of a full word are set
full_word : (i : ℕ) → i < 32 → is_taken_in 4294967295 i ≡ true
full_word i h = mask-bits 0 32 i (omega arith) (omega arith) h ∙ and_from (nat_le 0 i) (nat_lt i 32) (le-leb 0 i (omega arith)) (lt-ltb i 32 h)

-- ---- the words of a group one by one

pub no_word : (shared : List ℕ) (group b : ℕ) → 1024 * group ≤ b → b < 1024 * group + 32 * 0 → is_taken shared b ≡ true
no_word shared group b from below = absurd (omega (arith, from, below))

pub next_word : (shared : List ℕ) (group w : ℕ) → ((b : ℕ) → 1024 * group ≤ b → b < 1024 * group + 32 * w → is_taken shared b ≡ true) → field_of shared (128 * group + 4 * w) 4 ≡ 4294967295
    → (b : ℕ) → 1024 * group ≤ b → b < 1024 * group + 32 * (w + 1) → is_taken shared b ≡ true
unfolding is_taken
next_word shared group w before full b from below = elim (cases_lt b (1024 * group + 32 * w)) [
  | inl l ↦ before b from l
  | inr l ↦ (let place : 4 * (b / 32) ≡ 128 * group + 4 * w = omega (arith, l, below) in rw (place, full) (full_word (b % 32) (omega arith)))
]

-- ---- the groups that are passed over

-- one group after the other
pub shared_on : (shared : List ℕ) (from mid to : ℕ) → AreShared shared from mid → AreShared shared mid to → AreShared shared from to
shared_on shared from mid to front rest b f l = elim (cases_lt b (1024 * mid)) [ inl h ↦ front b f h | inr h ↦ rest b h l ]

-- up to the farther of two
pub shared_most : (shared : List ℕ) (from mid to : ℕ) → AreShared shared from mid → AreShared shared mid to → AreShared shared from (max to mid)
shared_most shared from mid to front rest b f l = elim (cases_lt b (1024 * mid)) [ inl h ↦ front b f h | inr h ↦ rest b h (omega (arith, h, l)) ]

pub none_shared : (shared : List ℕ) (at : ℕ) → AreShared shared at at
none_shared shared at b f l = absurd (omega (arith, f, l))

-- a group gets another one ahead of it
pub ends_set : (later : List ℕ) (at to : ℕ) → AreGroups later → to ≤ length later → AreGroups (set later at to)
ends_set later at to a most g l =
    let h : g < length later = rw (length-set later at to) at l in
    rw (length-set later at to) (elim (cases_eq g at) [
      | inl e ↦ rw (e, get_or-set_same later at to 0 (rw e at h)) most
      | inr n ↦ rw (get_or-set_other later at g to 0 n) (a g h)
    ])

pub passes_set : (shared later : List ℕ) (at to : ℕ) → PassesShared shared later → AreShared shared at to → PassesShared shared (set later at to)
passes_set shared later at to p new g l =
    let h : g < length later = rw (length-set later at to) at l in
    elim (cases_eq g at) [
      | inl e ↦ rw (e, get_or-set_same later at to 0 (rw e at h)) new
      | inr n ↦ rw (get_or-set_other later at g to 0 n) (p g h)
    ]

-- what was shared is shared still
pub still_shared : (old new : List ℕ) (later : List ℕ) → ((b : ℕ) → is_taken old b ≡ true → is_taken new b ≡ true) → PassesShared old later → PassesShared new later
still_shared old new later more p g l b f h = more b (p g l b f h)

-- ---- runs by groups

-- the part of a run in a group
pub in_part : (first end start b : ℕ) → (nat_le (max start first) b && nat_lt b (min (start + 1024) end)) ≡ ((nat_le first b && nat_lt b end) && (nat_le start b && nat_lt b (start + 1024)))
in_part first end start b = grind (arith, nat_tests)

-- one group more
pub group_more : (r o : Bool) (g b : ℕ) → (r && (nat_le (1024 * g) b && nat_lt b (1024 * g + 1024)) || ((r && nat_lt b (1024 * g)) || o)) ≡ ((r && nat_lt b (1024 * (g + 1))) || o)
group_more true o g b = grind (arith, nat_tests)
group_more false o g b = refl

pub group_again : (r o s : Bool) (g b : ℕ) → ((r && (nat_le (1024 * g) b && nat_lt b (1024 * g + 1024))) && ((r && nat_lt b (1024 * g)) || o) || ((r && nat_lt b (1024 * g)) && o || s)) ≡ ((r && nat_lt b (1024 * (g + 1))) && o || s)
group_again true true s g b = grind (arith, nat_tests)
group_again true false s g b = grind (arith, nat_tests)
group_again false o s g b = refl

-- what is passed over is there already
pub passed_owned : (r o now : Bool) (b from to : ℕ) → from ≤ to → now ≡ ((r && nat_lt b from) || o) → (from ≤ b → b < to → now ≡ true) → now ≡ ((r && nat_lt b to) || o)
passed_owned r o now b from to order is there = elim (cases_lt b from) [
  | inl l ↦ is ∙ ap (λ x. (r && x) || o) (lt-ltb b from l ∙ sym (lt-ltb b to (omega (arith, l, order))))
  | inr l ↦ elim (cases_lt b to) [
    | inl h ↦ behind r o now (is ∙ ap (λ x. (r && x) || o) (le-ltb b from l)) (there l h) ∙ ap (λ x. (r && x) || o) (sym (lt-ltb b to h))
    | inr h ↦ is ∙ ap (λ x. (r && x) || o) (le-ltb b from l ∙ sym (le-ltb b to h))
  ]
]
  where
    behind : (r o now : Bool) → now ≡ ((r && false) || o) → now ≡ true → now ≡ ((r && true) || o)
    behind true o now e t = t
    behind false o now e t = e

pub passed_shared : (r o s now : Bool) (b from to : ℕ) → from ≤ to → (s ≡ true → o ≡ true) → now ≡ ((r && nat_lt b from) && o || s) → (from ≤ b → b < to → now ≡ true) → now ≡ ((r && nat_lt b to) && o || s)
passed_shared r o s now b from to order nested is there = elim (cases_lt b from) [
  | inl l ↦ is ∙ ap (λ x. (r && x) && o || s) (lt-ltb b from l ∙ sym (lt-ltb b to (omega (arith, l, order))))
  | inr l ↦ elim (cases_lt b to) [
    | inl h ↦ behind r o s now nested (is ∙ ap (λ x. (r && x) && o || s) (le-ltb b from l)) (there l h) ∙ ap (λ x. (r && x) && o || s) (sym (lt-ltb b to h))
    | inr h ↦ is ∙ ap (λ x. (r && x) && o || s) (le-ltb b from l ∙ sym (le-ltb b to h))
  ]
]
  where
    behind : (r o s now : Bool) → (s ≡ true → o ≡ true) → now ≡ ((r && false) && o || s) → now ≡ true → now ≡ ((r && true) && o || s)
    behind true true s now n e t = t
    behind true false s now n e t = e
    behind false o s now n e t = e

-- a block with two owners has one, when both are counted on
pub nested_on : (r o s now again : Bool) → (s ≡ true → o ≡ true) → now ≡ (r || o) → again ≡ (r && o || s) → again ≡ true → now ≡ true
nested_on true o s now again n e f t = e
nested_on false true s now again n e f t = e
nested_on false false s now again n e f t = e ∙ n (sym f ∙ t)
