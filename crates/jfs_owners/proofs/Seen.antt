-- Trees that are shown to a visitor.
use Rattle.std.proofs.Common.{◌≡◌, sym, ◌∙◌, refl, subst, ℕ, Bool, true, false, List, Result, Ok, Err, IfOk, IfErr}
use Rattle.jfs_bits.specs.declared.rule.Rule.{Rule}
use Rattle.jfs_disk.specs.Image.{Image}
use Rattle.jfs_ranges.specs.declared.view.ViewError.{ViewError}
use Rattle.jfs_tree.specs.Walk.{Node, Scale, rows_of}
use Rattle.jfs_tree.specs.Spells.{tree_of, spells}
use Rattle.jfs_tree.specs.Call.{pages_of}
use Rattle.jfs_tree.specs.Walking.{Meets, NamesFirst}
use Rattle.jfs_tree.specs.declared.form.TreeError.{TreeError}
use Rattle.jfs_tree.specs.declared.form.TreeError.TheVariants.{View, Bad, Memory}
use Rattle.jfs_findings.specs.objects.specs.Objects.{listed}
use Rattle.jfs_owners.specs.Held.{Sees, HandsOn}

list_or_fault : {E : Type 0} (l : Result (List E) (ℕ × Rule)) (es : List E) (f : ℕ × Rule) → l ≡ Ok es → l ≡ Err f → ⊥
list_or_fault {E} l es f h k = by (sym h ∙ k)
  where
    by : (let a : Result (List E) (ℕ × Rule) = Ok es in a) ≡ Err f → ⊥
    by e = cc

not_true : (let b : Bool = true in b) ≡ false → ⊥
not_true h = cc

module _ {P E V : Type 0} (s : Scale P E) (page : V → ℕ → V → Type 0) (row : V → ℕ → E → V → Type 0) (node : List ℕ → Node P E) (image : Image) (root : Node P E) where
  -- a tree that breaks a rule
  pub unseen : (e : TreeError) (r : Result Bool ViewError) (v : V) → NamesFirst s (pages_of node image) root e → HandsOn e r → IfOk r (Sees s page row (tree_of s (pages_of node image) root) v v)
  unfolding spells
  unseen (View e) (Ok shown) v n h = absurd h
  unseen (View e) (Err f) v n h = tt
  unseen (Bad p rule) (Ok true) v n h = absurd (not_true h)
  unseen (Bad p rule) (Ok false) v n h = (((p, rule), n), refl)
  unseen (Bad p rule) (Err f) v n h = absurd h
  unseen Memory (Ok shown) v n h = absurd h
  unseen Memory (Err f) v n h = tt

  -- one that breaks none, seen to its end
  pub seen : (v w : V) (end : P) → spells s (pages_of node image) root ≡ Ok (rows_of (tree_of s (pages_of node image) root)) → Meets s page row s.least v (tree_of s (pages_of node image) root) (Ok end) w
      → (es : List E) → listed s (tree_of s (pages_of node image) root) ≡ Ok es → Sees s page row (tree_of s (pages_of node image) root) v w true
  unfolding spells
  seen v w end list met es is = (list, (end, met))

  -- nothing is said of one that breaks a rule
  pub unsaid : {T : Type 0} (r : Result T TreeError) (p : ℕ) (rule : Rule) (v w : V) → r ≡ Err (Bad p rule) → IfErr r (NamesFirst s (pages_of node image) root) → (es : List E) → listed s (tree_of s (pages_of node image) root) ≡ Ok es → Sees s page row (tree_of s (pages_of node image) root) v w true
  unfolding spells
  unsaid {T} r p rule v w bad first es is =
      absurd (list_or_fault (listed s (tree_of s (pages_of node image) root)) es (p, rule) is (subst (λ (x : Result T TreeError). IfErr x (NamesFirst s (pages_of node image) root)) bad first))

  -- shown after it was found to break none
  pub shown_whole : (after : Image) (v w : V) → after ≡ image → spells s (pages_of node image) root ≡ Ok (rows_of (tree_of s (pages_of node image) root))
      → ((es : List E) → listed s (tree_of s (pages_of node after) root) ≡ Ok es → Sees s page row (tree_of s (pages_of node after) root) v w true) → Sees s page row (tree_of s (pages_of node image) root) v w true
  unfolding spells
  shown_whole after v w same list h =
      subst (λ (i : Image). ((es : List E) → listed s (tree_of s (pages_of node i) root) ≡ Ok es → Sees s page row (tree_of s (pages_of node i) root) v w true)) same h (rows_of (tree_of s (pages_of node image) root)) list
