-- The names that are left where one goes.
use Rattle.std.proofs.Common.{◌≡◌, refl, sym, ap, ◌∙◌, subst, ℕ, List, [], ◌∷◌, ◌++◌, Some, None, Ok}
use Rattle.std.specs.Ordering.{nat_cmp}
use Rattle.std.specs.Cmp.Lexicographic.{slice_cmp}
use Rattle.std.specs.Cmp.{tied_itself}
use Rattle.std.specs.declared.cmp.Ordering.{Ordering}
use Rattle.std.specs.declared.cmp.Ordering.TheVariants.{Less, Equal, Greater}
use Rattle.std.proofs.lemmas.Cmp.{nat_list_cmp_total}
use Rattle.std.proofs.lemmas.Option.{same_Some}
use Rattle.jfs_name.specs.declared.name.NameEntry.{NameEntry}
use Rattle.jfs_name.specs.Directory.{place_of, without_name}
use Rattle.jfs_dtpage.proofs.Rising.{same_names, before_other}
use Rattle.jfs_tree.specs.Walk.{Node}
use Rattle.jfs_tree.specs.Spells.{spells}
use Rattle.jfs_tree.specs.Edit.{found_in}
use Rattle.jfs_tree.specs.Shrink.{TakenOut}
use Rattle.jfs_dtree.specs.Node.{name_scale}
use Rattle.jfs_dtree.specs.Laws.{next_of, next_after}
use Rattle.jfs_dtree.proofs.Places.{reaches, itself}
use Rattle.jfs_dtree.proofs.Listed.{Ascends, spelled_ascends, next_before, one_next, reach}

-- what is found has the name
pub found_same : (es : List NameEntry) (x e : NameEntry) → found_in name_scale x es ≡ Some e → e.name ≡ x.name
found_same [] x e h = absurd cc
found_same (d ∷ es) x e h = by (slice_cmp nat_cmp d.name x.name) refl (found_same es x e)
  where
    by : (o : Ordering) → slice_cmp nat_cmp d.name x.name ≡ o → (found_in name_scale x es ≡ Some e → e.name ≡ x.name) → e.name ≡ x.name
    by Less o rest = rest (rw (next_after d.name x.name o) at h)
    by Equal o rest =
        let same = same_names d.name x.name o in
        let is : Some d ≡ Some e = rw (itself d.name x.name same, itself x.name d.name (sym same)) at h in
        ap (λ (f : NameEntry). f.name) (sym (same_Some d e is)) ∙ same
    by Greater o rest =
        let b = before_other d.name x.name o in
        let none : None ≡ Some e = rw (reaches x.name d.name b, next_after x.name d.name b) at h in absurd cc

remove_at : (front back : List NameEntry) (x : NameEntry) (low : List ℕ) → Ascends low (front ++ x ∷ back) → without_name x.name (front ++ x ∷ back) ≡ front ++ back
unfolding Ascends
remove_at [] back x low r = rw (tied_itself nat_list_cmp_total x.name) refl
remove_at (f ∷ front) back x low r =
    let n = place_of x.name (front ++ x ∷ back) in
    rw (next_before f.name x.name (reach front back x (next_of f.name) r.1), one_next n) (ap (λ es. f ∷ es) (remove_at front back x (next_of f.name) r.1))

pub taken_as : (pages : ℕ → Node (List ℕ) NameEntry) (root : Node (List ℕ) NameEntry) (es list : List NameEntry) (x e : NameEntry) → spells name_scale pages root ≡ Ok es → found_in name_scale x es ≡ Some e → TakenOut e es list → list ≡ without_name x.name es
taken_as pages root es list x e h found taken =
    taken.after ∙ sym (ap (without_name x.name) taken.before ∙ ap (λ name. without_name name (taken.front ++ e ∷ taken.back)) (sym (found_same es x e found))
    ∙ remove_at taken.front taken.back e [] (subst (Ascends []) taken.before (spelled_ascends pages root es h)))
