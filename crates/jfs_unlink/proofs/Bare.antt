-- Whether a directory's root has a name.
use Rattle.std.proofs.Common.{◌≡◌, refl, sym, ap, ◌∙◌, ℕ, suc, Bool, true, false, true≢false, ◌==◌, List, [], ◌∷◌, length, Ok, Err, arith}
use Rattle.std.proofs.lemmas.Bool.Decides.{nat_tests}
use Rattle.jfs_name.specs.declared.name.NameEntry.{NameEntry}
use Rattle.jfs_tree.specs.Walk.{Node, Leaf}
use Rattle.jfs_tree.specs.Form.{IsLeaf}
use Rattle.jfs_plain.specs.declared.refusal.Refusal.TheVariants.{NotEmpty}
use Rattle.jfs_loss.specs.way.specs.declared.object.Held.{Held}
use Rattle.jfs_unlink.specs.Call.{bare_at}

module _ (at : Held) (node : Node (List ℕ) NameEntry) where
  module _ (bare : Bool) (told : (es : List NameEntry) → node ≡ Leaf es → bare ≡ (length es == 0)) (leaf : IsLeaf node) where
    some : (n : ℕ) → (suc n == 0) ≡ false
    some n = grind (arith, nat_tests)

    pub is_bare : bare ≡ true → bare_at at node ≡ Ok at
    is_bare h = ap (bare_at at) leaf.1 ∙ by leaf.0 (sym (told leaf.0 leaf.1) ∙ h)
      where
        by : (es : List NameEntry) → (length es == 0) ≡ true → bare_at at (Leaf es) ≡ Ok at
        by [] e = refl
        by (x ∷ es) e = absurd (true≢false (sym e ∙ some (length es)))

    pub is_full : bare ≡ false → bare_at at node ≡ Err NotEmpty
    is_full h = ap (bare_at at) leaf.1 ∙ by leaf.0 (sym (told leaf.0 leaf.1) ∙ h)
      where
        by : (es : List NameEntry) → (length es == 0) ≡ false → bare_at at (Leaf es) ≡ Err NotEmpty
        by [] e = absurd (true≢false e)
        by (x ∷ es) e = refl
