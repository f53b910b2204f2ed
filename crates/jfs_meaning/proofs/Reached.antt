-- Whatever a path leads to is the root, or has a name.
use Rattle.std.proofs.Common.{◌≡◌, ◌⊎◌, ◌≤◌, ◌<◌, refl, sym, ap, ◌∙◌, subst, ℕ, ◌==◌, ◌||◌, Bool, true, false, if◌then◌else◌, List, [], ◌∷◌, Option, Some, None, Result, Ok, Err, inl, inr, arith}
use Rattle.std.proofs.lemmas.Bool.Decides.{nat_tests}
use Rattle.jfs_name.specs.Directory.{named}
use Rattle.jfs_plain.specs.Tree.{Tree, root, is_dir, and_then, walk, enter, enter_from, wanted, Found, found, object, Place, place, place_from, at_place, named_in}
use Rattle.jfs_plain.specs.declared.node.Node.{Node}
use Rattle.jfs_plain.specs.declared.refusal.Refusal.{Refusal}
use Rattle.jfs_plain.specs.declared.refusal.Refusal.TheVariants.{NotDir}
use Rattle.jfs_meaning.specs.Consistent.{is_reserved, leading_to, names_in, names_for, MayBeNamed}
use Rattle.jfs_meaning.proofs.Found.{IsDirectoryAt, IsAmong, ok_is, is_among, among_leads, in_place}

abbrev pub IsReached : Tree → ℕ → Type 0
IsReached t n = (n ≡ root) ⊎ MayBeNamed t n

pub not_reserved : (t : Tree) (n : ℕ) → IsReached t n → is_reserved n ≡ false
not_reserved t n (inl e) = ap is_reserved e
not_reserved t n (inr m) = late n m.0
  where
    late : (n : ℕ) → 4 ≤ n → (n == 0 || n == 1 || n == 3) ≡ false
    late n l = grind (arith, nat_tests)

-- what stands at a place
pub at_among : (t : Tree) (p : Place) (d : IsDirectoryAt t p.dir) (k : ℕ) → at_place t p ≡ Some k → IsAmong p.name d.node.names k
at_among t p d k h = is_among p.name d.node.names k (sym (ap (λ (x : Option Node). named_in x p.name) d.there) ∙ h)

pub at_leads : (t : Tree) (p : Place) (d : IsDirectoryAt t p.dir) (k : ℕ) → at_place t p ≡ Some k → 0 < names_for t p.dir k
at_leads t p d k h = subst (λ (x : Option Node). 0 < leading_to k (names_in x)) (sym d.there) (among_leads p.name d.node.names k (at_among t p d k h))

module _ (t : Tree) (names : (dir n : ℕ) → 0 < names_for t dir n → MayBeNamed t n) where
  entered : (n m : ℕ) (name : List ℕ) → enter t n name ≡ Ok m → MayBeNamed t m
  entered n m name h = names n m (by (t.nodes n) h)
    where
      at : (node : Node) (x : Option ℕ) → named name node.names ≡ x → wanted x ≡ Ok m → 0 < leading_to m node.names
      at node None e h = absurd (cc (h))
      at node (Some k) e h = among_leads name node.names m (is_among name node.names m (e ∙ ap Some (cc (h))))

      in_dir : (node : Node) (x : Bool) → (if x then wanted (named name node.names) else Err NotDir) ≡ Ok m → 0 < leading_to m node.names
      in_dir node true h = at node (named name node.names) refl h
      in_dir node false h = absurd (cc (h))

      by : (x : Option Node) → enter_from x name ≡ Ok m → 0 < leading_to m (names_in x)
      by None h = absurd (cc (h))
      by (Some node) h = in_dir node (is_dir node.kind) h

  pub walked : (n k : ℕ) (path : List (List ℕ)) → walk t n path ≡ Ok k → IsReached t n → IsReached t k
  walked n k [] h r = subst (IsReached t) (cc (h)) r
  walked n k (name ∷ path) h r = by (enter t n name) (λ m. walked m k path) refl h
    where
      by : (x : Result ℕ Refusal) → ((m : ℕ) → walk t m path ≡ Ok k → IsReached t m → IsReached t k) → enter t n name ≡ x → and_then x (λ m. walk t m path) ≡ Ok k → IsReached t k
      by (Ok m) f e h = f m h (inr (entered n m name e))
      by (Err why) f e h = absurd (cc (h))

  placed : (n : ℕ) (name : List ℕ) (path : List (List ℕ)) (p : Place) → place_from t n name path ≡ Ok p → IsReached t n → IsReached t p.dir
  placed n name [] p h r = subst (IsReached t) (in_place t n name p h).1 r
  placed n name (next ∷ path) p h r = by (enter t n name) (λ m. placed m next path p) refl h
    where
      by : (x : Result ℕ Refusal) → ((m : ℕ) → place_from t m next path ≡ Ok p → IsReached t m → IsReached t p.dir) → enter t n name ≡ x → and_then x (λ m. place_from t m next path) ≡ Ok p → IsReached t p.dir
      by (Ok m) f e h = f m h (inr (entered n m name e))
      by (Err why) f e h = absurd (cc (h))

  pub place_reached : (path : List (List ℕ)) (p : Place) → place t path ≡ Ok p → IsReached t p.dir
  place_reached [] p h = absurd (cc (h))
  place_reached (name ∷ path) p h = placed root name path p h (inl refl)

  pub object_reached : (path : List (List ℕ)) (o : Found) → object t path ≡ Ok o → IsReached t o.inode
  object_reached path o h = by (walk t root path) refl h
    where
      at : (n : ℕ) (x : Option Node) → found n x ≡ Ok o → IsReached t n → IsReached t o.inode
      at n None h r = absurd (cc (h))
      at n (Some node) h r = subst (λ (f : Found). IsReached t f.inode) (ok_is h) r

      by : (x : Result ℕ Refusal) → walk t root path ≡ x → and_then x (λ n. found n (t.nodes n)) ≡ Ok o → IsReached t o.inode
      by (Ok n) e h = at n (t.nodes n) h (walked root n path e (inl refl))
      by (Err why) e h = absurd (cc (h))
