-- Walks, cut and joined, and what they tell of a root.
use Rattle.std.proofs.Common.{◌≡◌, inl, inr, refl, sym, ap, ◌∙◌, subst, ℕ, Bool, true, false, List, [], ◌∷◌, ◌++◌, if◌then◌else◌, ◌+◌, ◌==◌, append_assoc, arith, Result, Ok, Err}
use Rattle.std.proofs.lemmas.List.{append-nil}
use Rattle.jfs_bits.specs.declared.rule.Rule.{Rule}
use Rattle.jfs_bits.specs.declared.rule.Rule.TheVariants as rules
use Rattle.jfs_tree.specs.Walk.{Page, Key, Row, Fault, Marks, Scale, rows_of, times}
use Rattle.jfs_tree.specs.Spells.{judge, with_row}
use Rattle.jfs_tree.specs.Walking.{Stops, Meets}
use Rattle.jfs_tree.specs.declared.form.TreeError.{TreeError}
use Rattle.jfs_tree.specs.declared.form.TreeError.TheVariants.{View, Bad, Memory}
use Rattle.jfs_ranges.specs.declared.view.ViewError.{ViewError}

abbrev done : {P : Type 0} → P → Result P TreeError
done p = Ok p

abbrev fails : {P : Type 0} → TreeError → Result P TreeError
fails e = Err e

not_both : {P : Type 0} (p : P) (e : TreeError) → done p ≡ fails e → ⊥
not_both p e h = cc

done_is : {P : Type 0} (a b : P) → done a ≡ done b → a ≡ b
done_is a b h = cc

-- what stops stops also before more
stops_on : {P V : Type 0} (n : ℕ) (rule : Rule) (v u : V) (m : P) {X : Type 0} → Stops n rule v (done m) u → X
stops_on n rule v u m t = absurd (not_both m (Bad n rule) t.0)

-- a walk that comes to its end goes on
pub joined : {P E V : Type 0} (s : Scale P E) (page : V → ℕ → V → Type 0) (row : V → ℕ → E → V → Type 0) (low : P) (v : V) (a b : Marks P E) (m : P) (u : V) (r : Result P TreeError) (w : V)
    → Meets s page row low v a (Ok m) u → Meets s page row m u b r w → Meets s page row low v (a ++ b) r w
joined s page row low v [] b m u r w h k = subst (λ p. Meets s page row p v b r w) (done_is m low h.0) (subst (λ x. Meets s page row m x b r w) h.1 k)
joined s page row low v (Page n ∷ a) b m u r w h k = elim h [
  | inl t ↦ absurd (not_both m (View t.0) t.1)
  | inr t ↦ inr (t.0, t.1, joined s page row low t.0 a b m u r w t.2 k)
]
joined s page row low v (Key n l ∷ a) b m u r w h k = elim h [
  | inl t ↦ inl (t.0, joined s page row l v a b m u r w t.1 k)
  | inr t ↦ stops_on n rules.Order v u m t.1
]
joined s page row low v (Row n e ∷ a) b m u r w h k = elim h [
  | inl t ↦ inl (
    t.0,
    elim t.1 [
      | inl x ↦ absurd (not_both m Memory x)
      | inr x ↦ inr (x.0, x.1, joined s page row (s.to e) x.0 a b m u r w x.2 k)
    ],
  )
  | inr t ↦ stops_on n rules.Order v u m t.1
]
joined s page row low v (Fault n rule ∷ a) b m u r w h k = stops_on n rule v u m h

-- and one that doesn't ends there
pub stopped : {P E V : Type 0} (s : Scale P E) (page : V → ℕ → V → Type 0) (row : V → ℕ → E → V → Type 0) (low : P) (v : V) (a b : Marks P E) (e : TreeError) (w : V)
    → Meets s page row low v a (Err e) w → Meets s page row low v (a ++ b) (Err e) w
stopped s page row low v [] b e w h = absurd (not_both low e (sym h.0))
stopped s page row low v (Page n ∷ a) b e w h = elim h [
  | inl t ↦ inl t
  | inr t ↦ inr (t.0, t.1, stopped s page row low t.0 a b e w t.2)
]
stopped s page row low v (Key n l ∷ a) b e w h = elim h [
  | inl t ↦ inl (t.0, stopped s page row l v a b e w t.1)
  | inr t ↦ inr t
]
stopped s page row low v (Row n x ∷ a) b e w h = elim h [
  | inl t ↦ inl (
    t.0,
    elim t.1 [
      | inl y ↦ inl y
      | inr y ↦ inr (y.0, y.1, stopped s page row (s.to x) y.0 a b e w y.2)
    ],
  )
  | inr t ↦ inr t
]
stopped s page row low v (Fault n rule ∷ a) b e w h = h

if_true : {A : Type 0} (b : Bool) (x y : A) → b ≡ true → (if b then x else y) ≡ x
if_true true x y h = refl
if_true false x y h = cc

if_false : {A : Type 0} (b : Bool) (x y : A) → b ≡ false → (if b then x else y) ≡ y
if_false true x y h = cc
if_false false x y h = refl

-- a walk to the end met a list
pub met_list : {P E V : Type 0} (s : Scale P E) (page : V → ℕ → V → Type 0) (row : V → ℕ → E → V → Type 0) (low : P) (v : V) (ms : Marks P E) (m : P) (w : V)
    → Meets s page row low v ms (Ok m) w → judge s low ms ≡ Ok (rows_of ms)
met_list s page row low v [] m w h = refl
met_list s page row low v (Page n ∷ ms) m w h = elim h [
  | inl t ↦ absurd (not_both m (View t.0) t.1)
  | inr t ↦ met_list s page row low t.0 ms m w t.2
]
met_list s page row low v (Key n k ∷ ms) m w h = elim h [
  | inl t ↦ if_true (s.le low k) (judge s k ms) _ t.0 ∙ met_list s page row k v ms m w t.1
  | inr t ↦ stops_on n rules.Order v w m t.1
]
met_list s page row low v (Row n e ∷ ms) m w h = elim h [
  | inl t ↦ if_true (s.le low (s.from e)) (with_row e (judge s (s.to e) ms)) _ t.0 ∙ elim t.1 [
    | inl x ↦ absurd (not_both m Memory x)
    | inr x ↦ ap (with_row e) (met_list s page row (s.to e) x.0 ms m w x.2)
  ]
  | inr t ↦ stops_on n rules.Order v w m t.1
]
met_list s page row low v (Fault n rule ∷ ms) m w h = stops_on n rule v w m h

same_bad : {P : Type 0} (n p : ℕ) (f rule : Rule) → fails {P = P} (Bad p rule) ≡ fails (Bad n f) → (n ≡ p) × (f ≡ rule)
same_bad n p f rule h = (cc, cc)

no_view : {P : Type 0} (e : ViewError) (p : ℕ) (rule : Rule) → fails {P = P} (Bad p rule) ≡ fails (View e) → ⊥
no_view e p rule h = cc

no_memory : {P : Type 0} (p : ℕ) (rule : Rule) → fails {P = P} (Bad p rule) ≡ fails Memory → ⊥
no_memory p rule h = cc

named : {P E V : Type 0} (n p : ℕ) (f rule : Rule) (v w : V) (j : Result (List E) (ℕ × Rule)) → j ≡ Err (n, f) → Stops {P = P} n f v (fails (Bad p rule)) w → j ≡ Err (p, rule)
named {P} n p f rule v w j is t = let e = same_bad {P = P} n p f rule t.0 in is ∙ ap (λ (x : ℕ × Rule). Err x) (ap (λ q. (q, f)) e.0 ∙ ap (λ q. (p, q)) e.1)

err_row : {E F : Type 0} (e : E) (j : Result (List E) F) (f : F) → j ≡ Err f → with_row e j ≡ Err f
err_row e j f h = rw h refl

-- a walk that a rule stops met the first one
pub met_bad : {P E V : Type 0} (s : Scale P E) (page : V → ℕ → V → Type 0) (row : V → ℕ → E → V → Type 0) (low : P) (v : V) (ms : Marks P E) (p : ℕ) (rule : Rule) (w : V)
    → Meets s page row low v ms (Err (Bad p rule)) w → judge s low ms ≡ Err (p, rule)
met_bad s page row low v [] p rule w h = absurd (not_both low (Bad p rule) (sym h.0))
met_bad {P} s page row low v (Page n ∷ ms) p rule w h = elim h [
  | inl t ↦ absurd (no_view {P = P} t.0 p rule t.1)
  | inr t ↦ met_bad s page row low t.0 ms p rule w t.2
]
met_bad s page row low v (Key n k ∷ ms) p rule w h = elim h [
  | inl t ↦ if_true (s.le low k) (judge s k ms) _ t.0 ∙ met_bad s page row k v ms p rule w t.1
  | inr t ↦ named n p rules.Order rule v w (judge s low (Key n k ∷ ms)) (if_false (s.le low k) (judge s k ms) _ t.0) t.1
]
met_bad {P} s page row low v (Row n e ∷ ms) p rule w h = elim h [
  | inl t ↦ if_true (s.le low (s.from e)) (with_row e (judge s (s.to e) ms)) _ t.0 ∙ elim t.1 [
    | inl x ↦ absurd (no_memory {P = P} p rule x)
    | inr x ↦ err_row e (judge s (s.to e) ms) (p, rule) (met_bad s page row (s.to e) x.0 ms p rule w x.2)
  ]
  | inr t ↦ named n p rules.Order rule v w (judge s low (Row n e ∷ ms)) (if_false (s.le low (s.from e)) (with_row e (judge s (s.to e) ms)) _ t.0) t.1
]
met_bad s page row low v (Fault n f ∷ ms) p rule w h = named n p f rule v w (judge s low (Fault n f ∷ ms)) refl h

-- ---- what a visitor has at the end

-- one that keeps the entries
pub gathers : {P E V : Type 0} (s : Scale P E) (page : V → ℕ → V → Type 0) (row : V → ℕ → E → V → Type 0) (kept : V → List E)
    → ((v : V) (n : ℕ) (u : V) → page v n u → kept u ≡ kept v) → ((v : V) (n : ℕ) (e : E) (u : V) → row v n e u → kept u ≡ kept v ++ e ∷ [])
    → (low : P) (v : V) (ms : Marks P E) (m : P) (w : V) → Meets s page row low v ms (Ok m) w → kept w ≡ kept v ++ rows_of ms
gathers s page row kept p q low v [] m w h = ap kept h.1 ∙ sym (append-nil (kept v))
gathers s page row kept p q low v (Page n ∷ ms) m w h = elim h [
  | inl t ↦ absurd (not_both m (View t.0) t.1)
  | inr t ↦ gathers s page row kept p q low t.0 ms m w t.2 ∙ ap (λ es. es ++ rows_of ms) (p v n t.0 t.1)
]
gathers s page row kept p q low v (Key n k ∷ ms) m w h = elim h [
  | inl t ↦ gathers s page row kept p q k v ms m w t.1
  | inr t ↦ stops_on n rules.Order v w m t.1
]
gathers s page row kept p q low v (Row n e ∷ ms) m w h = elim h [
  | inl t ↦ elim t.1 [
    | inl x ↦ absurd (not_both m Memory x)
    | inr x ↦ gathers s page row kept p q (s.to e) x.0 ms m w x.2 ∙ ap (λ es. es ++ rows_of ms) (q v n e x.0 x.1) ∙ append_assoc (kept v) (e ∷ []) (rows_of ms)
  ]
  | inr t ↦ stops_on n rules.Order v w m t.1
]
gathers s page row kept p q low v (Fault n rule ∷ ms) m w h = stops_on n rule v w m h

plus_last : (a b c d : ℕ) → a ≡ b + c → c ≡ d → a ≡ b + d
plus_last a b c d e f = omega (arith, e, f)

plus_first : (a b c x d : ℕ) → a ≡ b + c → c ≡ x + d → a ≡ (x + b) + d
plus_first a b c x d e f = omega (arith, e, f)

-- one that counts a page
pub counts : {P E V : Type 0} (s : Scale P E) (page : V → ℕ → V → Type 0) (row : V → ℕ → E → V → Type 0) (count : V → ℕ) (p : ℕ)
    → ((v : V) (n : ℕ) (u : V) → page v n u → count u ≡ (if n == p then 1 else 0) + count v) → ((v : V) (n : ℕ) (e : E) (u : V) → row v n e u → count u ≡ count v)
    → (low : P) (v : V) (ms : Marks P E) (m : P) (w : V) → Meets s page row low v ms (Ok m) w → count w ≡ times p ms + count v
counts s page row count p f g low v [] m w h = ap count h.1 ∙ plus_zero (count v)
  where
    plus_zero : (n : ℕ) → n ≡ 0 + n
    plus_zero n = omega arith
counts s page row count p f g low v (Page n ∷ ms) m w h = elim h [
  | inl t ↦ absurd (not_both m (View t.0) t.1)
  | inr t ↦ plus_first (count w) (times p ms) (count t.0) (if n == p then 1 else 0) (count v) (counts s page row count p f g low t.0 ms m w t.2) (f v n t.0 t.1)
]
counts s page row count p f g low v (Key n k ∷ ms) m w h = elim h [
  | inl t ↦ counts s page row count p f g k v ms m w t.1
  | inr t ↦ stops_on n rules.Order v w m t.1
]
counts s page row count p f g low v (Row n e ∷ ms) m w h = elim h [
  | inl t ↦ elim t.1 [
    | inl x ↦ absurd (not_both m Memory x)
    | inr x ↦ plus_last (count w) (times p ms) (count x.0) (count v) (counts s page row count p f g (s.to e) x.0 ms m w x.2) (g v n e x.0 x.1)
  ]
  | inr t ↦ stops_on n rules.Order v w m t.1
]
counts s page row count p f g low v (Fault n rule ∷ ms) m w h = stops_on n rule v w m h
