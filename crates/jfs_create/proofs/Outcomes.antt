-- The plain step of a call that makes an object, and the tree after it.
use Rattle.std.proofs.Common.{◌≡◌, ◌≢◌, refl, sym, ap, ◌∙◌, subst, ℕ, ◌+◌, Bool, true, false, List, Option, Some, None, Result, Ok, Err}
use Rattle.std.specs.Option.{option_map}
use Rattle.jfs_bits.specs.declared.descriptor.Moment.{Moment}
use Rattle.jfs_name.specs.declared.name.NameEntry.{NameEntry}
use Rattle.jfs_plain.specs.Tree.{Tree, Place, place_at, new_place, and_then}
use Rattle.jfs_plain.specs.Moves.{Same, changed, made, gains, rises}
use Rattle.jfs_plain.specs.Step.{Room, Outcome, Answers, makes, refuse, with_fresh, is_short, links_of, entry_as}
use Rattle.jfs_plain.specs.declared.call.Call.TheVariants as calls
use Rattle.jfs_plain.specs.declared.node.Node.{Node}
use Rattle.jfs_link.specs.meaning.specs.Consistent.{IsConsistentTree}
use Rattle.jfs_link.specs.meaning.specs.Laws.{IsFresh}
use Rattle.jfs_link.specs.meaning.proofs.Steps.{step_keeps}
use Rattle.jfs_plain.specs.declared.refusal.Refusal.{Refusal}
use Rattle.jfs_plain.specs.declared.refusal.Refusal.TheVariants.{NoSpace, TooDeep, TooManyLinks, NoInodes}
use Rattle.jfs_plain.specs.declared.reply.Reply.TheVariants.{Done}
use Rattle.jfs_link.specs.lead_steps.proofs.Chain.{twice}
use Rattle.jfs_link.specs.steps.specs.Gains.{linked}
use Rattle.jfs_create.specs.Look.{too_many}
use Rattle.jfs_create.specs.Makes.{plain_of, also, links_after}
use Rattle.jfs_create.specs.New.{node_for}
use Rattle.jfs_create.specs.declared.new.NewObject.{NewObject}
use Rattle.jfs_create.specs.declared.new.NewObject.TheVariants.{File, Directory, Link}
use Rattle.jfs_create.proofs.Makes.{off_made, made_then, same_change}

-- the step by its causes, in their order
abbrev pub step_at : NewObject → Room → Tree → Moment → Place → Outcome
step_at object room t now p = refuse (too_many object (links_of t p.dir)) TooManyLinks (makes room p now (node_for object p.dir now) (also object p.dir) t)

pub plain_is : (object : NewObject) (room : Room) (t : Tree) (path : List (List ℕ)) (now : Moment) → plain_of object room t path now ≡ and_then (new_place t path) (step_at object room t now)
plain_is (File mode) room t path now = refl
plain_is (Directory mode) room t path now = refl
plain_is (Link target) room t path now = refl

-- the tree after it
abbrev pub tree_after : NewObject → ℕ → NameEntry → Moment → Tree → Tree
tree_after object n entry now t = also object n (changed n (gains entry now) (made entry.inode (node_for object n now) t))

module _ (object : NewObject) (room : Room) (t : Tree) (path : List (List ℕ)) (now : Moment) (n : ℕ) (name : List ℕ) where
  abbrev goes : Place → Outcome
  goes p = step_at object room t now p

  pub refused : (why : Refusal) → new_place t path ≡ Err why → plain_of object room t path now ≡ Err why
  refused why h = plain_is object room t path now ∙ ap (λ (x : Result Place Refusal). and_then x goes) h

  module _ (place : new_place t path ≡ Ok (place_at n name)) where
    at_place : plain_of object room t path now ≡ goes (place_at n name)
    at_place = plain_is object room t path now ∙ ap (λ (x : Result Place Refusal). and_then x goes) place

    abbrev rest : ℕ → Outcome
    rest k = refuse (room.deep n name) (TooDeep n) (Ok (Done, tree_after object n (entry_as name k) now t))

    abbrev past_links : Outcome
    past_links = refuse (is_short room 12) (NoSpace room.free) (with_fresh room.inode rest)

    pub full : too_many object (links_of t n) ≡ true → plain_of object room t path now ≡ Err TooManyLinks
    full h = at_place ∙ ap (λ (x : Bool). refuse x TooManyLinks past_links) h

    module _ (links : too_many object (links_of t n) ≡ false) where
      not_full : plain_of object room t path now ≡ past_links
      not_full = at_place ∙ ap (λ (x : Bool). refuse x TooManyLinks past_links) links

      pub short : is_short room 12 ≡ true → plain_of object room t path now ≡ Err (NoSpace room.free)
      short h = not_full ∙ ap (λ (x : Bool). refuse x (NoSpace room.free) (with_fresh room.inode rest)) h

      module _ (long : is_short room 12 ≡ false) where
        not_short : plain_of object room t path now ≡ with_fresh room.inode rest
        not_short = not_full ∙ ap (λ (x : Bool). refuse x (NoSpace room.free) (with_fresh room.inode rest)) long

        pub no_inode : room.inode ≡ None → plain_of object room t path now ≡ Err NoInodes
        no_inode h = not_short ∙ ap (λ (x : Option ℕ). with_fresh x rest) h

        module _ (m : ℕ) (number : room.inode ≡ Some m) where
          with_inode : plain_of object room t path now ≡ rest m
          with_inode = not_short ∙ ap (λ (x : Option ℕ). with_fresh x rest) number

          pub deep : room.deep n name ≡ true → plain_of object room t path now ≡ Err (TooDeep n)
          deep h = with_inode ∙ ap (λ (x : Bool). refuse x (TooDeep n) (Ok (Done, tree_after object n (entry_as name m) now t))) h

          pub done : room.deep n name ≡ false → plain_of object room t path now ≡ Ok (Done, tree_after object n (entry_as name m) now t)
          done h = with_inode ∙ ap (λ (x : Bool). refuse x (TooDeep n) (Ok (Done, tree_after object n (entry_as name m) now t))) h

-- what a directory's node becomes, with its links
same_links : (links : ℕ) (entry : NameEntry) (now : Moment) (x : Node) → links ≡ x.links → linked links (gains entry now x) ≡ gains entry now x
same_links links entry now x e = ap (λ (k : ℕ). linked k (gains entry now x)) e

risen_links : (links : ℕ) (entry : NameEntry) (now : Moment) (x : Node) → links ≡ x.links + 1 → linked links (gains entry now x) ≡ rises (gains entry now x)
risen_links links entry now x e = ap (λ (k : ℕ). linked k (gains entry now x)) e

-- The directory was set first, and then the object was made: the tree is the plain step's.
module _ (t : Tree) (n : ℕ) (entry : NameEntry) (now : Moment) (x : Node) (is : t.nodes n ≡ Some x) (apart : n ≢ entry.inode) where
  here : (o : Node) → (made entry.inode o t).nodes n ≡ Some x
  here o = off_made entry.inode n o t apart ∙ is

  at_node : (f g : Node → Node) (o : Node) → f x ≡ g x → option_map f ((made entry.inode o t).nodes n) ≡ option_map g ((made entry.inode o t).nodes n)
  at_node f g o e = ap (option_map f) (here o) ∙ ap (λ (y : Node). Some y) e ∙ sym (ap (option_map g) (here o))

  pub same_trees : (object : NewObject) (links : ℕ) → links ≡ links_after object x.links
      → made entry.inode (node_for object n now) (changed n (λ y. linked links (gains entry now y)) t) ≡ tree_after object n entry now t
  same_trees (File mode) links e = made_then n entry.inode (λ y. linked links (gains entry now y)) (node_for (File mode) n now) t apart
      ∙ same_change n (λ y. linked links (gains entry now y)) (gains entry now) (made entry.inode (node_for (File mode) n now) t) (at_node (λ y. linked links (gains entry now y)) (gains entry now) (node_for (File mode) n now) (same_links links entry now x e))
  same_trees (Directory mode) links e = made_then n entry.inode (λ y. linked links (gains entry now y)) (node_for (Directory mode) n now) t apart
      ∙ same_change n (λ y. linked links (gains entry now y)) (λ y. rises (gains entry now y)) (made entry.inode (node_for (Directory mode) n now) t)
      (at_node (λ y. linked links (gains entry now y)) (λ y. rises (gains entry now y)) (node_for (Directory mode) n now) (risen_links links entry now x e))
      ∙ sym (twice n (gains entry now) rises (made entry.inode (node_for (Directory mode) n now) t))
  same_trees (Link target) links e = made_then n entry.inode (λ y. linked links (gains entry now y)) (node_for (Link target) n now) t apart
      ∙ same_change n (λ y. linked links (gains entry now y)) (gains entry now) (made entry.inode (node_for (Link target) n now) t) (at_node (λ y. linked links (gains entry now y)) (gains entry now) (node_for (Link target) n now) (same_links links entry now x e))

-- a tree that the plain step leaves is consistent
module _ (most : ℕ) (t u : Tree) (c : IsConsistentTree most t) (space : Room) (fresh : IsFresh most t space.inode) (path : List (List ℕ)) (now : Moment) (v : Tree) (same : Same v u) where
  answers : (out : Outcome) → out ≡ Ok (Done, v) → Answers t out Done u
  answers out e = subst (λ (o : Outcome). Answers t o Done u) (sym e) (refl, same)

  pub kept : (object : NewObject) → plain_of object space t path now ≡ Ok (Done, v) → IsConsistentTree most u
  kept (File mode) e = step_keeps most t u space (calls.Create path mode) now Done c fresh (answers (plain_of (File mode) space t path now) e)
  kept (Directory mode) e = step_keeps most t u space (calls.Mkdir path mode) now Done c fresh (answers (plain_of (Directory mode) space t path now) e)
  kept (Link target) e = step_keeps most t u space (calls.Symlink path target.now) now Done c fresh (answers (plain_of (Link target) space t path now) e)
