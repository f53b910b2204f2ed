-- What the plain step of link comes to, by each of its causes in their order.
use Rattle.std.proofs.Common.{◌≡◌, refl, ap, ◌∙◌, ℕ, Bool, true, false, List, Option, Some, Result, Ok, Err}
use Rattle.jfs_bits.specs.declared.descriptor.Moment.{Moment}
use Rattle.jfs_plain.specs.Tree.{Tree, Found, Place, is_dir, walk, object, found, found_at, and_then, new_place, root}
use Rattle.jfs_plain.specs.Moves.{changed, stamped, rises}
use Rattle.jfs_plain.specs.Step.{Room, Outcome, link, gained, refuse, is_full, is_short, is_deep}
use Rattle.jfs_plain.specs.declared.node.Node.{Node}
use Rattle.jfs_plain.specs.declared.refusal.Refusal.{Refusal}
use Rattle.jfs_plain.specs.declared.refusal.Refusal.TheVariants.{IsDir, TooManyLinks, NoSpace, TooDeep}
use Rattle.jfs_plain.specs.declared.reply.Reply.TheVariants.{Done}

module _ (t : Tree) (room : Room) (from to : List (List ℕ)) (now : Moment) where
  -- after each question
  given_space : Found → Place → Outcome
  given_space o p = refuse (is_deep room p) (TooDeep p.dir) (Ok (Done, changed o.inode (stamped now) (changed o.inode rises (gained p o.inode now t))))

  given_place : Found → Place → Outcome
  given_place o p = refuse (is_full o.node.links) TooManyLinks (refuse (is_short room 8) (NoSpace room.free) (given_space o p))

  given_object : Found → Outcome
  given_object o = refuse (is_dir o.node.kind) IsDir (and_then (new_place t to) (given_place o))

  begun : link room t from to now ≡ and_then (object t from) given_object
  unfolding given_object given_place given_space
  begun = refl

  pub no_object : (why : Refusal) → walk t root from ≡ Err why → link room t from to now ≡ Err why
  no_object why e = begun ∙ ap (λ (x : Result ℕ Refusal). and_then (and_then x (λ n. found n (t.nodes n))) given_object) e

  module _ (m : ℕ) (node : Node) (walked : walk t root from ≡ Ok m) (is : t.nodes m ≡ Some node) where
    object_is : link room t from to now ≡ given_object (found_at m node)
    object_is = begun ∙ ap (λ (x : Result ℕ Refusal). and_then (and_then x (λ n. found n (t.nodes n))) given_object) walked ∙ ap (λ (y : Option Node). and_then (found m y) given_object) is

    pub of_directory : is_dir node.kind ≡ true → link room t from to now ≡ Err IsDir
    unfolding given_object
    of_directory e = object_is ∙ ap (λ (x : Bool). refuse x IsDir (and_then (new_place t to) (given_place (found_at m node)))) e

    module _ (kind : is_dir node.kind ≡ false) where
      place_next : link room t from to now ≡ and_then (new_place t to) (given_place (found_at m node))
      unfolding given_object
      place_next = object_is ∙ ap (λ (x : Bool). refuse x IsDir (and_then (new_place t to) (given_place (found_at m node)))) kind

      pub no_place : (why : Refusal) → new_place t to ≡ Err why → link room t from to now ≡ Err why
      no_place why e = place_next ∙ ap (λ (x : Result Place Refusal). and_then x (given_place (found_at m node))) e

      module _ (p : Place) (at : new_place t to ≡ Ok p) where
        placed : link room t from to now ≡ given_place (found_at m node) p
        placed = place_next ∙ ap (λ (x : Result Place Refusal). and_then x (given_place (found_at m node))) at

        pub full : is_full node.links ≡ true → link room t from to now ≡ Err TooManyLinks
        unfolding given_place
        full e = placed ∙ ap (λ (x : Bool). refuse x TooManyLinks (refuse (is_short room 8) (NoSpace room.free) (given_space (found_at m node) p))) e

        module _ (few : is_full node.links ≡ false) where
          spaced : link room t from to now ≡ refuse (is_short room 8) (NoSpace room.free) (given_space (found_at m node) p)
          unfolding given_place
          spaced = placed ∙ ap (λ (x : Bool). refuse x TooManyLinks (refuse (is_short room 8) (NoSpace room.free) (given_space (found_at m node) p))) few

          pub short : is_short room 8 ≡ true → link room t from to now ≡ Err (NoSpace room.free)
          short e = spaced ∙ ap (λ (x : Bool). refuse x (NoSpace room.free) (given_space (found_at m node) p)) e

          module _ (enough : is_short room 8 ≡ false) where
            deep_next : link room t from to now ≡ given_space (found_at m node) p
            deep_next = spaced ∙ ap (λ (x : Bool). refuse x (NoSpace room.free) (given_space (found_at m node) p)) enough

            pub deep : is_deep room p ≡ true → link room t from to now ≡ Err (TooDeep p.dir)
            unfolding given_space
            deep e = deep_next ∙ ap (λ (x : Bool). refuse x (TooDeep p.dir) (Ok (Done, changed m (stamped now) (changed m rises (gained p m now t))))) e

            pub linked : is_deep room p ≡ false → link room t from to now ≡ Ok (Done, changed m (stamped now) (changed m rises (gained p m now t)))
            unfolding given_space
            linked e = deep_next ∙ ap (λ (x : Bool). refuse x (TooDeep p.dir) (Ok (Done, changed m (stamped now) (changed m rises (gained p m now t))))) e
