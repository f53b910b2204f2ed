-- The ends of both paths: what the plain step asks of them first.
use Rattle.std.proofs.Common.{◌≡◌, refl, sym, ap, ◌∙◌, subst, inl, inr, ℕ, true, false, List, Option, Some, None, is_some, Result, Ok, Err}
use Rattle.jfs_plain.specs.Tree.{Tree, Place, walk, root, place, place_as, place_at}
use Rattle.jfs_plain.specs.declared.node.Node.{Node}
use Rattle.jfs_plain.specs.declared.refusal.Refusal.{Refusal}
use Rattle.jfs_plain.specs.declared.refusal.Refusal.TheVariants.{IntoItself}
use Rattle.jfs_link.specs.way.specs.Answer.{Follows}
use Rattle.jfs_link.specs.way.specs.Walk.{IsThere, IsOf}
use Rattle.jfs_link.specs.way.specs.declared.object.Held.{Held}
use Rattle.jfs_link.specs.steps.specs.Place.{last_of, IsPlace}
use Rattle.jfs_rename.specs.Ends.{moving_of, is_nameless, AreEnds, RefusesAlways}
use Rattle.jfs_rename.proofs.Plain.{no_object, of_root, no_from, no_to}

pub some_node : (x : Option Node) → is_some x ≡ true → (o : Node) × (x ≡ Some o)
some_node None h = absurd (cc (h))
some_node (Some o) h = (o, refl)

module _ (t : Tree) (from to : List (List ℕ)) where
  pub walk_refused : (why : Refusal) → Follows {X = ℕ} {Y = Held} (IsOf t) (walk t root from) (Err why) → RefusesAlways t from to why
  walk_refused why (inl e) = inl (λ room now. no_object t room from to now why e)
  walk_refused why (inr e) = inr e

  module _ (object : Held) (f : Follows {X = ℕ} {Y = Held} (IsOf t) (walk t root from) (Ok object)) where
    walked : walk t root from ≡ Ok object.number
    walked = f.1 ∙ ap (λ (n : ℕ). Ok n) f.2.0

    there : IsThere t object.number
    there = subst (IsThere t) f.2.0 f.2.1

    abbrev node : (o : Node) × (t.nodes object.number ≡ Some o)
    node = some_node (t.nodes object.number) there

    pub nameless_refused : is_nameless from to ≡ true → RefusesAlways t from to IntoItself
    nameless_refused e = inl (λ room now. of_root t room from to now object.number node.0 walked node.1 e)

    module _ (named : is_nameless from to ≡ false) where
      pub source_refused : (why : Refusal) → Follows {X = Place} {Y = Held} (IsPlace t from) (place t from) (Err why) → RefusesAlways t from to why
      source_refused why (inl e) = inl (λ room now. no_from t room from to now object.number node.0 walked node.1 named why e)
      source_refused why (inr e) = inr e

      module _ (source : Held) (s : Follows {X = Place} {Y = Held} (IsPlace t from) (place t from) (Ok source)) where
        source_is : place t from ≡ place_as source.number (last_of from)
        source_is = s.1 ∙ ap (λ (p : Place). Ok p) s.2.0

        pub target_refused : (why : Refusal) → Follows {X = Place} {Y = Held} (IsPlace t to) (place t to) (Err why) → RefusesAlways t from to why
        target_refused why (inl e) = inl (λ room now. no_to t room from to now object.number node.0 walked node.1 named (place_at source.number (last_of from)) source_is why e)
        target_refused why (inr e) = inr e

        pub are_ends : (target : Held) → Follows {X = Place} {Y = Held} (IsPlace t to) (place t to) (Ok target) → AreEnds t from to (moving_of object source target)
        are_ends target g = record {
          walked = walked;
          there = there;
          named = named;
          source = source_is;
          source_there = s.2.1;
          target = g.1 ∙ ap (λ (p : Place). Ok p) g.2.0;
          target_there = g.2.1;
        }
