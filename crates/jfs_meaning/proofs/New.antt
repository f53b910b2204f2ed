-- The tree of a new volume is consistent.
use Rattle.std.proofs.Common.{◌≡◌, ◌≤◌, ◌<◌, refl, sym, ap, ◌∙◌, subst, ℕ, zero, suc, ◌==◌, false, nat_lt, [], Some, None, inl, inr, arith}
use Rattle.std.proofs.lemmas.Bool.{cases_lt}
use Rattle.std.proofs.lemmas.Bool.Decides.{nat_tests}
use Rattle.jfs_bits.specs.declared.descriptor.Moment.{Moment}
use Rattle.jfs_plain.specs.Tree.{Tree, root}
use Rattle.jfs_plain.specs.Moves.{Same, new_directory}
use Rattle.jfs_plain.specs.Plain.{new_tree}
use Rattle.jfs_plain.specs.declared.node.Node.{Node}
use Rattle.jfs_meaning.specs.Consistent.{is_reserved, leading_to, names_in, links_due, IsConsistentTree}
use Rattle.jfs_meaning.specs.Laws.{NewTreeLaw}
use Rattle.jfs_meaning.proofs.Books.{some_is}

module _ (most : ℕ) (now : Moment) (t : Tree) (room : 4 ≤ most) (same : Same (new_tree now) t) where
  late : (n : ℕ) → 4 ≤ n → (new_tree now).nodes n ≡ None
  late n l = rw (other n l, past n l) refl
    where
      other : (n : ℕ) → 4 ≤ n → (n == 2) ≡ false
      other n l = grind (arith, nat_tests)

      past : (n : ℕ) → 4 ≤ n → nat_lt n 4 ≡ false
      past n l = grind (arith, nat_tests)

  none_late : (n : ℕ) → 4 ≤ n → t.nodes n ≡ None
  none_late n l = same.nodes n ∙ late n l

  no_names : (n : ℕ) → names_in (t.nodes n) ≡ []
  no_names n = ap names_in (same.nodes n) ∙ elim (cases_lt n 4) [ inl l ↦ early n l | inr l ↦ ap names_in (late n l) ]
    where
      early : (n : ℕ) → n < 4 → names_in ((new_tree now).nodes n) ≡ []
      early zero l = refl
      early (suc zero) l = refl
      early (suc (suc zero)) l = refl
      early (suc (suc (suc zero))) l = refl
      early (suc (suc (suc (suc n)))) l = absurd (omega (arith, l))

  -- the root alone has no reserved number
  is_root : (n : ℕ) (o : Node) → t.nodes n ≡ Some o → is_reserved n ≡ false → n ≡ root
  is_root n o there free = elim (cases_lt n 4) [ inl l ↦ early n l free | inr l ↦ absurd (cc (there, none_late n l)) ]
    where
      early : (n : ℕ) → n < 4 → is_reserved n ≡ false → n ≡ root
      early zero l e = absurd (cc (e))
      early (suc zero) l e = absurd (cc (e))
      early (suc (suc zero)) l e = refl
      early (suc (suc (suc zero))) l e = absurd (cc (e))
      early (suc (suc (suc (suc n)))) l e = absurd (omega (arith, l))

  root_is : (o : Node) → t.nodes root ≡ Some o → new_directory 493 root now ≡ o
  root_is o there = some_is (sym (same.nodes root) ∙ there)

  pub consistent : IsConsistentTree most t
  consistent = record {
    within = λ n l. none_late n (omega (arith, room, l));
    top = (new_directory 493 root now, record { there = same.nodes root; directory = refl; parent = refl });
    files = λ n o there file. ap names_in (sym there) ∙ no_names n;
    names = λ dir n l. (let z = ap (leading_to n) (no_names dir) in absurd (omega (arith, l, z)));
    links = λ n o there free. (let e = is_root n o there free in subst (λ (o : Node). o.links ≡ links_due most t n o) (root_is o (sym (ap t.nodes e) ∙ there)) refl);
    parents = λ n o there dir late. absurd (cc (there, none_late n late));
  }

pub new_tree_consistent : NewTreeLaw
new_tree_consistent most now t room same = consistent most now t room same
