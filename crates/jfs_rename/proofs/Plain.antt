-- What the plain step of rename comes to, by each of its causes in their order.
use Rattle.std.proofs.Common.{◌≡◌, refl, ap, ◌∙◌, ℕ, Bool, true, false, ◌==◌, ◌||◌, if◌then◌else◌, List, length, Option, Some, None, Result, Ok, Err}
use Rattle.jfs_bits.specs.declared.descriptor.Moment.{Moment}
use Rattle.jfs_plain.specs.Tree.{Tree, Found, Place, is_dir, walk, object, found, found_at, and_then, place, at_place, passes, root}
use Rattle.jfs_plain.specs.Moves.{changed, leads, displaced, shifts}
use Rattle.jfs_plain.specs.Step.{Room, Outcome, rename, renamed, gained, departs, occupant, found_of, node_of, refuse, unless, why_barred, why_kept, links_of, is_short, is_deep}
use Rattle.jfs_plain.specs.declared.node.Node.{Node}
use Rattle.jfs_plain.specs.declared.refusal.Refusal.{Refusal}
use Rattle.jfs_plain.specs.declared.refusal.Refusal.TheVariants.{IntoItself, NoSpace, TooDeep}
use Rattle.jfs_plain.specs.declared.reply.Reply.TheVariants.{Done}

module _ (t : Tree) (room : Room) (from to : List (List ℕ)) (now : Moment) where
  -- after each question
  given_places : Found → Place → Place → Outcome
  given_places o p q = renamed room t o.inode (is_dir o.node.kind) (passes t to o.inode) p q now (occupant t q)

  given_from : Found → Place → Outcome
  given_from o p = and_then (place t to) (given_places o p)

  given_object : Found → Outcome
  given_object o = refuse (length from == 0 || length to == 0) IntoItself (and_then (place t from) (given_from o))

  begun : rename room t from to now ≡ and_then (object t from) given_object
  unfolding given_object given_from given_places
  begun = refl

  pub no_object : (why : Refusal) → walk t root from ≡ Err why → rename room t from to now ≡ Err why
  no_object why e = begun ∙ ap (λ (x : Result ℕ Refusal). and_then (and_then x (λ n. found n (t.nodes n))) given_object) e

  module _ (m : ℕ) (node : Node) (walked : walk t root from ≡ Ok m) (is : t.nodes m ≡ Some node) where
    object_is : rename room t from to now ≡ given_object (found_at m node)
    object_is = begun ∙ ap (λ (x : Result ℕ Refusal). and_then (and_then x (λ n. found n (t.nodes n))) given_object) walked ∙ ap (λ (y : Option Node). and_then (found m y) given_object) is

    pub of_root : (length from == 0 || length to == 0) ≡ true → rename room t from to now ≡ Err IntoItself
    unfolding given_object
    of_root e = object_is ∙ ap (λ (x : Bool). refuse x IntoItself (and_then (place t from) (given_from (found_at m node)))) e

    module _ (named : (length from == 0 || length to == 0) ≡ false) where
      from_next : rename room t from to now ≡ and_then (place t from) (given_from (found_at m node))
      unfolding given_object
      from_next = object_is ∙ ap (λ (x : Bool). refuse x IntoItself (and_then (place t from) (given_from (found_at m node)))) named

      pub no_from : (why : Refusal) → place t from ≡ Err why → rename room t from to now ≡ Err why
      no_from why e = from_next ∙ ap (λ (x : Result Place Refusal). and_then x (given_from (found_at m node))) e

      module _ (p : Place) (at_from : place t from ≡ Ok p) where
        to_next : rename room t from to now ≡ and_then (place t to) (given_places (found_at m node) p)
        unfolding given_from
        to_next = from_next ∙ ap (λ (x : Result Place Refusal). and_then x (given_from (found_at m node))) at_from

        pub no_to : (why : Refusal) → place t to ≡ Err why → rename room t from to now ≡ Err why
        no_to why e = to_next ∙ ap (λ (x : Result Place Refusal). and_then x (given_places (found_at m node) p)) e

        module _ (q : Place) (at_to : place t to ≡ Ok q) where
          pub both : rename room t from to now ≡ renamed room t m (is_dir node.kind) (passes t to m) p q now (occupant t q)
          unfolding given_places
          both = to_next ∙ ap (λ (x : Result Place Refusal). and_then x (given_places (found_at m node) p)) at_to

          -- where nothing stands
          module _ (none : at_place t q ≡ None) where
            free_outcome : Outcome
            free_outcome = Ok (Done, departs m (is_dir node.kind) p q.dir now (shifts (is_dir node.kind) p.dir q.dir (gained q m now t)))

            free_space : Outcome
            free_space = refuse (is_short room 8) (NoSpace room.free) (refuse (is_deep room q) (TooDeep q.dir) free_outcome)

            free_next : rename room t from to now ≡ unless (why_barred (is_dir node.kind) (passes t to m) (p.dir == q.dir) (links_of t q.dir)) free_space
            unfolding free_space free_outcome
            free_next = both ∙ ap (λ (x : Option ℕ). renamed room t m (is_dir node.kind) (passes t to m) p q now (found_of x (node_of t x))) none

            pub barred : (why : Refusal) → why_barred (is_dir node.kind) (passes t to m) (p.dir == q.dir) (links_of t q.dir) ≡ Some why → rename room t from to now ≡ Err why
            barred why e = free_next ∙ ap (λ (x : Option Refusal). unless x free_space) e

            module _ (allowed : why_barred (is_dir node.kind) (passes t to m) (p.dir == q.dir) (links_of t q.dir) ≡ None) where
              space_next : rename room t from to now ≡ free_space
              space_next = free_next ∙ ap (λ (x : Option Refusal). unless x free_space) allowed

              pub short : is_short room 8 ≡ true → rename room t from to now ≡ Err (NoSpace room.free)
              unfolding free_space
              short e = space_next ∙ ap (λ (x : Bool). refuse x (NoSpace room.free) (refuse (is_deep room q) (TooDeep q.dir) free_outcome)) e

              module _ (enough : is_short room 8 ≡ false) where
                deep_next : rename room t from to now ≡ refuse (is_deep room q) (TooDeep q.dir) free_outcome
                unfolding free_space
                deep_next = space_next ∙ ap (λ (x : Bool). refuse x (NoSpace room.free) (refuse (is_deep room q) (TooDeep q.dir) free_outcome)) enough

                pub deep : is_deep room q ≡ true → rename room t from to now ≡ Err (TooDeep q.dir)
                deep e = deep_next ∙ ap (λ (x : Bool). refuse x (TooDeep q.dir) free_outcome) e

                pub moved : is_deep room q ≡ false → rename room t from to now ≡ Ok (Done, departs m (is_dir node.kind) p q.dir now (shifts (is_dir node.kind) p.dir q.dir (gained q m now t)))
                unfolding free_outcome
                moved e = deep_next ∙ ap (λ (x : Bool). refuse x (TooDeep q.dir) free_outcome) e

          -- where an object stands
          module _ (k : ℕ) (old : Node) (at : at_place t q ≡ Some k) (there : t.nodes k ≡ Some old) where
            taken_outcome : Outcome
            taken_outcome = Ok (Done, departs m (is_dir node.kind) p q.dir now (displaced k (is_dir node.kind) old.links p.dir now (changed q.dir (leads q.name m now) t)))

            taken_space : Outcome
            taken_space = refuse (is_short room 8) (NoSpace room.free) (refuse (is_deep room q) (TooDeep q.dir) taken_outcome)

            taken_next : rename room t from to now ≡ (if k == m then Ok (Done, t) else unless (why_kept room.limit (is_dir node.kind) (passes t to m) old) taken_space)
            unfolding taken_space taken_outcome
            taken_next = both ∙ ap (λ (x : Option ℕ). renamed room t m (is_dir node.kind) (passes t to m) p q now (found_of x (node_of t x))) at
                ∙ ap (λ (y : Option Node). renamed room t m (is_dir node.kind) (passes t to m) p q now (found_of (Some k) y)) there

            -- two names of one object
            pub same : (k == m) ≡ true → rename room t from to now ≡ Ok (Done, t)
            same e = taken_next ∙ ap (λ (x : Bool). if x then Ok (Done, t) else unless (why_kept room.limit (is_dir node.kind) (passes t to m) old) taken_space) e

            module _ (other : (k == m) ≡ false) where
              kept_next : rename room t from to now ≡ unless (why_kept room.limit (is_dir node.kind) (passes t to m) old) taken_space
              kept_next = taken_next ∙ ap (λ (x : Bool). if x then Ok (Done, t) else unless (why_kept room.limit (is_dir node.kind) (passes t to m) old) taken_space) other

              pub kept : (why : Refusal) → why_kept room.limit (is_dir node.kind) (passes t to m) old ≡ Some why → rename room t from to now ≡ Err why
              kept why e = kept_next ∙ ap (λ (x : Option Refusal). unless x taken_space) e

              module _ (allowed : why_kept room.limit (is_dir node.kind) (passes t to m) old ≡ None) where
                over_next : rename room t from to now ≡ taken_space
                over_next = kept_next ∙ ap (λ (x : Option Refusal). unless x taken_space) allowed

                pub short_over : is_short room 8 ≡ true → rename room t from to now ≡ Err (NoSpace room.free)
                unfolding taken_space
                short_over e = over_next ∙ ap (λ (x : Bool). refuse x (NoSpace room.free) (refuse (is_deep room q) (TooDeep q.dir) taken_outcome)) e

                module _ (enough : is_short room 8 ≡ false) where
                  deep_over_next : rename room t from to now ≡ refuse (is_deep room q) (TooDeep q.dir) taken_outcome
                  unfolding taken_space
                  deep_over_next = over_next ∙ ap (λ (x : Bool). refuse x (NoSpace room.free) (refuse (is_deep room q) (TooDeep q.dir) taken_outcome)) enough

                  pub deep_over : is_deep room q ≡ true → rename room t from to now ≡ Err (TooDeep q.dir)
                  deep_over e = deep_over_next ∙ ap (λ (x : Bool). refuse x (TooDeep q.dir) taken_outcome) e

                  pub replaced : is_deep room q ≡ false
                      → rename room t from to now ≡ Ok (Done, departs m (is_dir node.kind) p q.dir now (displaced k (is_dir node.kind) old.links p.dir now (changed q.dir (leads q.name m now) t)))
                  unfolding taken_outcome
                  replaced e = deep_over_next ∙ ap (λ (x : Bool). refuse x (TooDeep q.dir) taken_outcome) e
