-- What a walk counts.
use Rattle.std.proofs.Common.{◌≡◌, inl, inr, refl, sym, ap, ◌∙◌, ℕ, ◌+◌, ◌-◌, ◌<◌, ◌≤◌, Bool, true, false, ◌||◌, ◌==◌, nat_le, if◌then◌else◌, List, [], ◌∷◌, Option, Some, None, Result, Ok, Err, arith}
use Rattle.std.specs.List.{list_any}
use Rattle.std.proofs.lemmas.Bool.{cases_lt, le-leb, lt-leb}
use Rattle.jfs_bits.specs.declared.extent.Xad.{Xad}
use Rattle.jfs_bits.specs.declared.rule.Rule.{Rule}
use Rattle.jfs_bits.specs.declared.rule.Rule.TheVariants as rules
use Rattle.jfs_ranges.specs.declared.view.ViewError.{ViewError}
use Rattle.jfs_tree.specs.Walk.{Page, Key, Row, Fault, Marks, Scale, rows_of}
use Rattle.jfs_tree.specs.Spells.{no_page}
use Rattle.jfs_tree.specs.Walking.{Meets, Stops}
use Rattle.jfs_tree.specs.declared.form.TreeError.{TreeError}
use Rattle.jfs_tree.specs.declared.form.TreeError.TheVariants.{View, Bad, Memory}
use Rattle.jfs_owners.specs.findings.specs.Inodes.{blocks_in, pages_met}
use Rattle.jfs_object_check.specs.declared.tally.Tally.{Tally}
use Rattle.jfs_object_check.specs.Tally.{less, with_page, with_extent, with_pages, with_tree}

-- ---- blocks that are left

chosen : {A : Type 0} (b : Bool) (x y : A) → b ≡ true → (if b then x else y) ≡ x
chosen true x y h = refl
chosen false x y h = absurd (cc h)

other : {A : Type 0} (b : Bool) (x y : A) → b ≡ false → (if b then x else y) ≡ y
other true x y h = absurd (cc h)
other false x y h = refl

some_less : (n k : ℕ) → k ≤ n → less (Some n) k ≡ Some (n - k)
some_less n k l = chosen (nat_le k n) (Some (n - k)) None (le-leb k n l)

none_less : (n k : ℕ) → n < k → less (Some n) k ≡ None
none_less n k l = other (nat_le k n) (Some (n - k)) None (lt-leb k n l)

pub less_zero : (o : Option ℕ) → less o 0 ≡ o
less_zero None = refl
less_zero (Some n) = some_less n 0 (omega arith) ∙ ap Some (let e : n - 0 ≡ n = omega arith in e)

pub less_both : (o : Option ℕ) (a b : ℕ) → less (less o a) b ≡ less o (a + b)
less_both None a b = refl
less_both (Some n) a b = elim (cases_lt n (a + b)) [
  | inl l ↦ elim (cases_lt n a) [
    | inl m ↦ ap (λ o. less o b) (none_less n a m) ∙ sym (none_less n (a + b) l)
    | inr m ↦ ap (λ o. less o b) (some_less n a m) ∙ none_less (n - a) b (omega (arith, l, m)) ∙ sym (none_less n (a + b) l)
  ]
  | inr l ↦ ap (λ o. less o b) (some_less n a (omega (arith, l))) ∙ some_less (n - a) b (omega (arith, l)) ∙ ap Some (let e : n - a - b ≡ n - (a + b) = omega (arith, l) in e) ∙ sym (some_less n (a + b) l)
]

-- ---- what a visitor has at the end

abbrev done : {P : Type 0} → P → Result P TreeError
done p = Ok p

no_view : {P : Type 0} (p : P) (e : ViewError) → done p ≡ Err (View e) → ⊥
no_view p e h = cc

no_memory : {P : Type 0} (p : P) → done p ≡ Err Memory → ⊥
no_memory p h = cc

stopped : {P V X : Type 0} (n : ℕ) (rule : Rule) (v w : V) (m : P) → Stops n rule v (done m) w → X
stopped n rule v w m t = absurd (no_bad n rule m t.0)
  where
    no_bad : {P : Type 0} (n : ℕ) (rule : Rule) (m : P) → done m ≡ Err (Bad n rule) → ⊥
    no_bad n rule m h = cc

same_tally : (t : Tally) (o : Option ℕ) (b : Bool) → o ≡ t.left → b ≡ t.past → (let u : Tally = record { left = o; end = t.end; past = b } in u) ≡ t
same_tally t o b p q = λ i. record { left = p i; end = t.end; past = q i }

one_page : (n k : ℕ) (t : Tally) → (with_page n t).left ≡ less t.left (if n == no_page then 0 else 1)
one_page n k t = by (n == no_page)
  where
    by : (b : Bool) → (let u : Tally = (if b then t else record t { left = less t.left 1 }) in u.left) ≡ less t.left (if b then 0 else 1)
    by true = sym (less_zero t.left)
    by false = refl

kept : (n : ℕ) (t : Tally) → ((with_page n t).end ≡ t.end) × ((with_page n t).past ≡ t.past)
kept n t = by (n == no_page)
  where
    by : (b : Bool) → (let u : Tally = (if b then t else record t { left = less t.left 1 }) in (u.end ≡ t.end) × (u.past ≡ t.past))
    by true = (refl, refl)
    by false = (refl, refl)

-- a page, and then so many
paged : (n k : ℕ) (t : Tally) → with_pages k (with_page n t) ≡ with_pages ((if n == no_page then 0 else 1) + k) t
paged n k t =
    let left = ap (λ o. less o k) (one_page n k t) ∙ less_both t.left (if n == no_page then 0 else 1) k in
    let same = kept n t in
    λ i. record { left = left i; end = same.0 i; past = same.1 i }

treed : (n k : ℕ) (es : List Xad) (t : Tally) → with_tree k es (with_page n t) ≡ with_tree ((if n == no_page then 0 else 1) + k) es t
treed n k es t =
    let same = kept n t in
    let left = ap (λ o. less o (k + blocks_in es)) (one_page n k t) ∙ less_both t.left (if n == no_page then 0 else 1) (k + blocks_in es) ∙ ap (less t.left) (add_up (if n == no_page then 0 else 1) k (blocks_in es)) in
    λ i. record { left = left i; end = same.0 i; past = same.1 i || list_any (λ e. nat_le (same.0 i) e.offset) es }
  where
    add_up : (a b c : ℕ) → a + (b + c) ≡ (a + b) + c
    add_up a b c = omega arith

or_both : (a b c : Bool) → ((a || b) || c) ≡ (a || (b || c))
or_both true b c = refl
or_both false b c = refl

-- an extent, and then others
extended : (k : ℕ) (x : Xad) (es : List Xad) (t : Tally) → with_tree k es (with_extent x t) ≡ with_tree k (x ∷ es) t
extended k x es t =
    let left = less_both t.left x.at.len (k + blocks_in es) ∙ ap (less t.left) (add_up x.at.len k (blocks_in es)) in
    let past = or_both t.past (nat_le t.end x.offset) (list_any (λ e. nat_le t.end e.offset) es) in
    λ i. record { left = left i; end = t.end; past = past i }
  where
    add_up : (a b c : ℕ) → a + (b + c) ≡ b + (a + c)
    add_up a b c = omega arith

pub none_counted : (t : Tally) → with_pages 0 t ≡ t
none_counted t = same_tally t (less t.left 0) t.past (less_zero t.left) refl

pub nothing_counted : (t : Tally) → with_tree 0 [] t ≡ t
nothing_counted t = same_tally t (less t.left (0 + 0)) (t.past || false) (ap (less t.left) (let e : 0 + 0 ≡ 0 = omega arith in e) ∙ less_zero t.left) (or_false t.past)
  where
    or_false : (b : Bool) → (b || false) ≡ b
    or_false true = refl
    or_false false = refl

module _ {P E : Type 0} (s : Scale P E) where
  pub pages_counted : (low : P) (v : Tally) (ms : Marks P E) (m : P) (w : Tally) → Meets s (λ old n new. new ≡ with_page n old) (λ old n x new. new ≡ old) low v ms (Ok m) w → w ≡ with_pages (pages_met ms) v
  pages_counted low v [] m w h = h.1 ∙ sym (none_counted v)
  pages_counted low v (Page n ∷ ms) m w h = elim h [
    | inl t ↦ absurd (no_view m t.0 t.1)
    | inr t ↦ pages_counted low t.0 ms m w t.2 ∙ ap (with_pages (pages_met ms)) t.1 ∙ paged n (pages_met ms) v
  ]
  pages_counted low v (Key n k ∷ ms) m w h = elim h [
    | inl t ↦ pages_counted k v ms m w t.1
    | inr t ↦ stopped n rules.Order v w m t.1
  ]
  pages_counted low v (Row n e ∷ ms) m w h = elim h [
    | inl t ↦ elim t.1 [
      | inl x ↦ absurd (no_memory m x)
      | inr x ↦ pages_counted (s.to e) x.0 ms m w x.2 ∙ ap (with_pages (pages_met ms)) x.1
    ]
    | inr t ↦ stopped n rules.Order v w m t.1
  ]
  pages_counted low v (Fault n rule ∷ ms) m w h = stopped n rule v w m h

pub tree_counted : (s : Scale ℕ Xad) (low : ℕ) (v : Tally) (ms : Marks ℕ Xad) (m : ℕ) (w : Tally) → Meets s (λ old n new. new ≡ with_page n old) (λ old n x new. new ≡ with_extent x old) low v ms (Ok m) w → w ≡ with_tree (pages_met ms) (rows_of ms) v
tree_counted s low v [] m w h = h.1 ∙ sym (nothing_counted v)
tree_counted s low v (Page n ∷ ms) m w h = elim h [
  | inl t ↦ absurd (no_view m t.0 t.1)
  | inr t ↦ tree_counted s low t.0 ms m w t.2 ∙ ap (with_tree (pages_met ms) (rows_of ms)) t.1 ∙ treed n (pages_met ms) (rows_of ms) v
]
tree_counted s low v (Key n k ∷ ms) m w h = elim h [
  | inl t ↦ tree_counted s k v ms m w t.1
  | inr t ↦ stopped n rules.Order v w m t.1
]
tree_counted s low v (Row n e ∷ ms) m w h = elim h [
  | inl t ↦ elim t.1 [
    | inl x ↦ absurd (no_memory m x)
    | inr x ↦ tree_counted s (s.to e) x.0 ms m w x.2 ∙ ap (with_tree (pages_met ms) (rows_of ms)) x.1 ∙ extended (pages_met ms) e (rows_of ms) v
  ]
  | inr t ↦ stopped n rules.Order v w m t.1
]
tree_counted s low v (Fault n rule ∷ ms) m w h = stopped n rule v w m h
