-- What stands in front of the first broken rule of a tree.
use Rattle.std.proofs.Common.{◌≡◌, ℕ, Bool, if◌then◌else◌, inl, inr, refl, sym, subst, [], ◌∷◌, Result, Ok, Err}
use Rattle.std.specs.Prelude.{IfOk}
use Rattle.jfs_bits.specs.declared.extent.Xad.{Xad}
use Rattle.jfs_bits.specs.declared.rule.Rule.{Rule}
use Rattle.jfs_ranges.specs.declared.view.ViewError.{ViewError}
use Rattle.jfs_tree.specs.Walk.{Page, Key, Row, Fault, Marks, Scale}
use Rattle.jfs_tree.specs.Walking.{Meets, ended}
use Rattle.jfs_tree.specs.declared.form.TreeError.{TreeError}
use Rattle.jfs_tree.specs.declared.form.TreeError.TheVariants.{View, Bad, Memory}
use Rattle.jfs_xtree.specs.Node.{xt_scale}
use Rattle.jfs_findings.specs.objects.specs.Owners.{covers, run_has}
use Rattle.jfs_owners.specs.Counts.{OwnerSets, Adds, page_has}
use Rattle.jfs_owners.specs.Held.{front, extents_front, SeesFront}
use Rattle.jfs_owners.proofs.Walked.{walk_adds}

-- the walk came to the end of the tree, or to a rule that it breaks
abbrev IsOver : {P : Type 0} → Result P TreeError → Type 0
IsOver (Ok end) = Unit {0}
IsOver (Err (View e)) = ⊥
IsOver (Err (Bad n rule)) = Unit {0}
IsOver (Err Memory) = ⊥

module _ {P E V : Type 0} (s : Scale P E) (page : V → ℕ → V → Type 0) (row : V → ℕ → E → V → Type 0) (r : Result P TreeError) (over : IsOver r) where
  front_met : (low : P) (v w : V) (ms : Marks P E) → Meets s page row low v ms r w → (end : P) × Meets s page row low v (front s low ms) (Ok end) w
  front_met low v w [] h = (low, (refl, h.1))
  front_met low v w (Page n ∷ ms) h = elim h [
    | inl t ↦ absurd (subst IsOver t.1 over)
    | inr t ↦ (let m = front_met low t.0 w ms t.2 in (m.0, inr (t.0, t.1, m.1)))
  ]
  front_met low v w (Key n k ∷ ms) h = elim h [
    | inl t ↦ (let m = front_met k v w ms t.1 in (m.0, subst (λ (b : Bool). Meets s page row low v (if b then Key n k ∷ front s k ms else []) (Ok m.0) w) (sym t.0) (inl (t.0, m.1))))
    | inr t ↦ (low, subst (λ (b : Bool). Meets s page row low v (if b then Key n k ∷ front s k ms else []) (Ok low) w) (sym t.0) (refl, t.1.1))
  ]
  front_met low v w (Row n e ∷ ms) h = elim h [
    | inl t ↦ elim t.1 [
      | inl x ↦ absurd (subst IsOver x over)
      | inr x ↦ (let m = front_met (s.to e) x.0 w ms x.2 in
          (m.0, subst (λ (b : Bool). Meets s page row low v (if b then Row n e ∷ front s (s.to e) ms else []) (Ok m.0) w) (sym t.0) (inl (t.0, inr (x.0, x.1, m.1)))))
    ]
    | inr t ↦ (low, subst (λ (b : Bool). Meets s page row low v (if b then Row n e ∷ front s (s.to e) ms else []) (Ok low) w) (sym t.0) (refl, t.1.1))
  ]
  front_met low v w (Fault n rule ∷ ms) h = (low, (refl, h.1))

-- a walk through the whole tree, and one that ended at a broken rule
pub whole_front : {P E V : Type 0} (s : Scale P E) (page : V → ℕ → V → Type 0) (row : V → ℕ → E → V → Type 0) (ms : Marks P E) (end : P) (old new : V) → Meets s page row s.least old ms (Ok end) new → SeesFront s page row ms old new
whole_front s page row ms end old new met = front_met s page row (Ok end) _ s.least old new ms met

pub fault_front : {P E V T : Type 0} (s : Scale P E) (page : V → ℕ → V → Type 0) (row : V → ℕ → E → V → Type 0) (ms : Marks P E) (r : Result T TreeError) (n : ℕ) (rule : Rule) (old new : V)
    → r ≡ Err (Bad n rule) → (end : P) × Meets s page row s.least old ms (ended end r) new → SeesFront s page row ms old new
fault_front s page row ms r n rule old new is met =
    front_met s page row (Err (Bad n rule)) _ s.least old new ms (subst (λ x. Meets s page row s.least old ms (ended met.0 x) new) is met.1)

-- ---- owners

pub front_adds : {T : Type 0} (ms : Marks ℕ Xad) (r : Result T ViewError) (old new : OwnerSets)
    → IfOk r (λ it. SeesFront xt_scale (λ o n p. Adds (page_has n) o p) (λ o n x p. Adds (run_has x.at) o p) ms old new) → IfOk r (λ it. Adds (extents_front ms) old new)
front_adds ms (Ok it) old new seen =
    walk_adds xt_scale (λ o n x p. Adds (run_has x.at) o p) (λ x. run_has x.at) covers (λ b. refl) (λ b x xs. refl) (λ v n x u h. h) xt_scale.least old (front xt_scale xt_scale.least ms) seen.0 new seen.1
front_adds ms (Err e) old new seen = tt
