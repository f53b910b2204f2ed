-- No directory that a path leads to has a name for itself, so the objects of a rename are apart.
use Rattle.std.proofs.Common.{◌≡◌, ◌≢◌, ◌<◌, refl, sym, ap, ◌∙◌, subst, inl, inr, ℕ, Bool, true, false, true≢false, ◌==◌, eq-eqb, ne_eqb, if◌then◌else◌, List, [], ◌∷◌, length, Option, Some, None, Result, Ok, Err, arith}
use Rattle.jfs_name.specs.Directory.{named}
use Rattle.jfs_plain.specs.Tree.{Tree, Place, root, is_dir, and_then, walk, enter, enter_from, wanted, place, place_as, place_from, in_directory, at_place, passes, passes_from, passes_on}
use Rattle.jfs_plain.specs.declared.node.Node.{Node}
use Rattle.jfs_plain.specs.declared.refusal.Refusal.{Refusal}
use Rattle.jfs_plain.specs.declared.refusal.Refusal.TheVariants.{NotDir}
use Rattle.jfs_loss.specs.objects.specs.Owners.{bit}
use Rattle.jfs_loss.specs.objects.proofs.Sums.{zero_or_more, eq_or_not}
use Rattle.jfs_loss.specs.meaning.specs.Consistent.{leading_to, names_in, names_for, IsConsistentTree}
use Rattle.jfs_loss.specs.meaning.proofs.Found.{is_among, among_leads, in_place, place_there}
use Rattle.jfs_loss.specs.meaning.proofs.Reached.{at_leads}
use Rattle.jfs_loss.specs.steps.specs.Place.{front_of, last_of}
use Rattle.jfs_loss.specs.steps.proofs.LastNames.{place_is}

-- a name that leads to an object is one of its directory's
some_name : (o : Option Node) (name : List ℕ) (m : ℕ) → enter_from o name ≡ Ok m → 0 < leading_to m (names_in o)
some_name None name m h = absurd (cc (h))
some_name (Some node) name m h = by (is_dir node.kind) h
  where
    at : (x : Option ℕ) → named name node.names ≡ x → wanted x ≡ Ok m → 0 < leading_to m node.names
    at None e h = absurd (cc (h))
    at (Some k) e h = among_leads name node.names m (is_among name node.names m (e ∙ ap Some (cc (h))))

    by : (x : Bool) → (if x then wanted (named name node.names) else Err NotDir) ≡ Ok m → 0 < leading_to m node.names
    by true h = at (named name node.names) refl h
    by false h = absurd (cc (h))

module _ (most : ℕ) (t : Tree) (c : IsConsistentTree most t) where
  -- one step down
  below : (n m : ℕ) → 0 < names_for t n m → names_for t n n ≡ 0 → names_for t m m ≡ 0
  below n m l z = elim (eq_or_not m n) [
    | inl e ↦ ap (λ (k : ℕ). names_for t k k) e ∙ z
    | inr apart ↦ by (t.nodes m) refl apart
  ]
    where
      of_dir : (o : Node) → t.nodes m ≡ Some o → (x : Bool) → is_dir o.kind ≡ x → m ≢ n → leading_to m o.names ≡ 0
      of_dir o there false e apart = ap (leading_to m) (c.files m o there e)
      of_dir o there true e apart = ap (λ (x : Option Node). leading_to m (names_in x)) (sym there) ∙ own m ∙ ap bit (ne_eqb m o.parent (λ h. apart (h ∙ sym up)))
        where
          own : (dir : ℕ) → names_for t dir m ≡ bit (dir == o.parent)
          own = c.parents m o there e (c.names n m l).0

          up : n ≡ o.parent
          up = elim (eq_or_not n o.parent) [
            | inl e ↦ e
            | inr far ↦ absurd (let h = own n in let z = ap bit (ne_eqb n o.parent far) in omega (arith, h, z, l))
          ]

      by : (x : Option Node) → t.nodes m ≡ x → m ≢ n → leading_to m (names_in x) ≡ 0
      by None e apart = refl
      by (Some o) e apart = of_dir o e (is_dir o.kind) refl apart

  lone_root : names_for t root root ≡ 0
  lone_root = elim (zero_or_more (names_for t root root)) [
    | inl e ↦ e
    | inr l ↦ absurd (let h = (c.names root root l).0 in omega (arith, h))
  ]

  lone_from : (n k : ℕ) (path : List (List ℕ)) → walk t n path ≡ Ok k → names_for t n n ≡ 0 → names_for t k k ≡ 0
  lone_from n k [] h z = subst (λ (j : ℕ). names_for t j j ≡ 0) (cc (h)) z
  lone_from n k (name ∷ path) h z = by (enter t n name) (λ m. lone_from m k path) refl h
    where
      by : (x : Result ℕ Refusal) → ((m : ℕ) → walk t m path ≡ Ok k → names_for t m m ≡ 0 → names_for t k k ≡ 0) → enter t n name ≡ x → and_then x (λ m. walk t m path) ≡ Ok k → names_for t k k ≡ 0
      by (Ok m) f e h = f m h (below n m (some_name (t.nodes n) name m e) z)
      by (Err why) f e h = absurd (cc (h))

  -- the directory of a path's place
  lone : (path : List (List ℕ)) (p : Place) → 0 < length path → place t path ≡ Ok p → names_for t p.dir p.dir ≡ 0
  lone path p some h = by (walk t root (front_of path)) refl (sym (place_is t path some) ∙ h)
    where
      by : (x : Result ℕ Refusal) → walk t root (front_of path) ≡ x → and_then x (λ m. in_directory (t.nodes m) (place_as m (last_of path))) ≡ Ok p → names_for t p.dir p.dir ≡ 0
      by (Ok n) e h = subst (λ (j : ℕ). names_for t j j ≡ 0) (in_place t n (last_of path) p h).1 (lone_from root n (front_of path) e lone_root)
      by (Err why) e h = absurd (cc (h))

  -- what stands there is another object
  pub stands_apart : (path : List (List ℕ)) (p : Place) → 0 < length path → place t path ≡ Ok p → (m : ℕ) → at_place t p ≡ Some m → m ≢ p.dir
  stands_apart path p some h m at e = absurd (let l = at_leads t p (place_there t path p h) m at in let z = lone path p some h in let same = ap (names_for t p.dir) e in omega (arith, l, z, same))

-- a path that doesn't lead through an object has its place in another one
passed : (t : Tree) (n : ℕ) (name : List ℕ) (names : List (List ℕ)) (m : ℕ) (p : Place) → passes_from t n name names m ≡ false → place_from t n name names ≡ Ok p → m ≢ p.dir
passed t n name [] m p past h e = true≢false (sym (eq-eqb n m ((in_place t n name p h).1 ∙ sym e)) ∙ past)
passed t n name (next ∷ names) m p past h e = by (n == m) (enter t n name) (λ k. passed t k next names m p) past h
  where
    on : (x : Result ℕ Refusal) → ((k : ℕ) → passes_from t k next names m ≡ false → place_from t k next names ≡ Ok p → m ≢ p.dir) → passes_on x (λ k. passes_from t k next names m) ≡ false → and_then x (λ k. place_from t k next names) ≡ Ok p → ⊥
    on (Ok k) f past h = f k past h e
    on (Err why) f past h = absurd (cc (h))

    by : (b : Bool) (x : Result ℕ Refusal) → ((k : ℕ) → passes_from t k next names m ≡ false → place_from t k next names ≡ Ok p → m ≢ p.dir) → (if b then true else passes_on x (λ k. passes_from t k next names m)) ≡ false
        → and_then x (λ k. place_from t k next names) ≡ Ok p → ⊥
    by true x f past h = true≢false past
    by false x f past h = on x f past h

pub outside : (t : Tree) (path : List (List ℕ)) (m : ℕ) (p : Place) → passes t path m ≡ false → place t path ≡ Ok p → m ≢ p.dir
outside t [] m p past h = absurd (cc (h))
outside t (name ∷ names) m p past h = passed t root name names m p past h
