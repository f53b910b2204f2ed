-- What a walk counts that counts each page and each entry.
use Rattle.std.proofs.Common.{◌≡◌, inl, inr, refl, ℕ, ◌+◌, Bool, true, false, ◌==◌, if◌then◌else◌, List, [], ◌∷◌, Result, Ok, Err, arith}
use Rattle.jfs_tree.specs.Walk.{Page, Key, Row, Fault, Marks, Scale, rows_of, times}
use Rattle.jfs_tree.specs.Spells.{no_page}
use Rattle.jfs_tree.specs.Walking.{Stops, Meets}
use Rattle.jfs_bits.specs.declared.rule.Rule.{Rule}
use Rattle.jfs_tree.specs.declared.form.TreeError.{TreeError}
use Rattle.jfs_tree.specs.declared.form.TreeError.TheVariants.{View, Bad, Memory}
use Rattle.jfs_owners.specs.Counts.{OwnerSets, Adds, page_has}
use Rattle.jfs_findings.specs.objects.specs.Objects.{met}
use Rattle.jfs_owners.proofs.Counted.{adds_none, adds_both}

abbrev done : {P : Type 0} → P → Result P TreeError
done p = Ok p

abbrev fails : {P : Type 0} → TreeError → Result P TreeError
fails e = Err e

not_both : {P : Type 0} (p : P) (e : TreeError) → done p ≡ fails e → ⊥
not_both p e h = cc

stops : {P V : Type 0} (n : ℕ) (rule : Rule) (v u : V) (m : P) {X : Type 0} → Stops n rule v (done m) u → X
stops n rule v u m t = absurd (not_both m (Bad n rule) t.0)

pub no_pages : {P E : Type 0} (s : Scale P E) (b : ℕ) → met {P = P} {E = E} [] b ≡ 0
no_pages s b = nothing (b == no_page)
  where
    nothing : (t : Bool) → ◌≡◌ {A = ℕ} (if t then 0 else 0) 0
    nothing true = refl
    nothing false = refl

next_page : (t : Bool) (one rest : ℕ) → (if t then 0 else (one + rest)) ≡ (if t then 0 else one) + (if t then 0 else rest)
next_page true one rest = refl
next_page false one rest = refl

-- the pages and entries that a walk met to its end: `has` says how often an entry has a block, and `all` how often entries have
module _ {P E : Type 0} (s : Scale P E) (row : OwnerSets → ℕ → E → OwnerSets → Type 0) (has : E → ℕ → ℕ) (all : ℕ → List E → ℕ)
    (none : (b : ℕ) → all b [] ≡ 0) (more : (b : ℕ) (e : E) (es : List E) → all b (e ∷ es) ≡ has e b + all b es)
    (adds : (v : OwnerSets) (n : ℕ) (e : E) (u : OwnerSets) → row v n e u → Adds (has e) v u) where
  pub walk_adds : (low : P) (v : OwnerSets) (ms : Marks P E) (m : P) (w : OwnerSets) → Meets s (λ old n new. Adds (page_has n) old new) row low v ms (Ok m) w
      → Adds (λ b. met ms b + all b (rows_of ms)) v w
  walk_adds low v [] m w h = adds_none (λ b. met {P = P} {E = E} [] b + all b []) v w h.1 (λ b. (let p = no_pages s b in let q = none b in omega (arith, p, q)))
  walk_adds low v (Page n ∷ ms) m w h = elim h [
    | inl t ↦ absurd (not_both m (View t.0) t.1)
    | inr t ↦ adds_both (page_has n) (λ b. met ms b + all b (rows_of ms)) (λ b. met (Page n ∷ ms) b + all b (rows_of ms)) v t.0 w t.1 (walk_adds low t.0 ms m w t.2)
        (λ b. (let p = next_page (b == no_page) (if n == b then 1 else 0) (times b ms) in omega (arith, p)))
  ]
  walk_adds low v (Key n k ∷ ms) m w h = elim h [
    | inl t ↦ walk_adds k v ms m w t.1
    | inr t ↦ stops n _ v w m t.1
  ]
  walk_adds low v (Row n e ∷ ms) m w h = elim h [
    | inl t ↦ elim t.1 [
      | inl x ↦ absurd (not_both m Memory x)
      | inr x ↦ adds_both (has e) (λ b. met ms b + all b (rows_of ms)) (λ b. met ms b + all b (e ∷ rows_of ms)) v x.0 w (adds v n e x.0 x.1) (walk_adds (s.to e) x.0 ms m w x.2)
          (λ b. (let p = more b e (rows_of ms) in omega (arith, p)))
    ]
    | inr t ↦ stops n _ v w m t.1
  ]
  walk_adds low v (Fault n rule ∷ ms) m w h = stops n rule v w m h
