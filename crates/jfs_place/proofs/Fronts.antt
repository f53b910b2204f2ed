-- A path's names before the last one are walked, and then the last one has its place.
use Rattle.std.proofs.Common.{◌≡◌, ◌≤◌, ◌<◌, length, arith, refl, sym, ap, ◌∙◌, subst, inl, inr, ℕ, Bool, true, false, if◌then◌else◌, List, [], ◌∷◌, ◌++◌, Option, Some, None, Result, Ok, Err}
use Rattle.std.specs.Prelude.{get_or}
use Rattle.jfs_imap.specs.Inodes.{Inodes}
use Rattle.jfs_name.specs.Directory.{named}
use Rattle.jfs_way.specs.objects.specs.Objects.{has_names}
use Rattle.jfs_way.specs.page_tree.specs.Spells.{no_page}
use Rattle.jfs_plain.specs.Tree as plain
use Rattle.jfs_plain.specs.Tree.{Tree, Place, root, is_dir, and_then, enter, enter_from, wanted, walk, place, place_at, place_as, in_directory, at_place, named_in}
use Rattle.jfs_plain.specs.declared.node.Node.{Node}
use Rattle.jfs_plain.specs.declared.refusal.Refusal.{Refusal}
use Rattle.jfs_plain.specs.declared.refusal.Refusal.TheVariants.{NotFound, NotDir}
use Rattle.jfs_way.specs.Answer.{Answers, Follows}
use Rattle.jfs_way.specs.Way.{inode_at, name_from, path_from, path_of}
use Rattle.jfs_way.specs.Walk.{IsThere, IsOf}
use Rattle.jfs_way.specs.declared.object.Held.{Held}
use Rattle.jfs_place.specs.Place.{OrOpen, Spot, if_directory, place_from, place_on, StandsAt}

-- ---- in the tree

module _ (t : Tree) where
  along : ℕ → List (List ℕ) → Result Place Refusal
  along n [] = Err NotFound
  along n (name ∷ names) = plain.place_from t n name names

  last_in : ℕ → List ℕ → Result Place Refusal
  last_in n name = in_directory (t.nodes n) (place_as n name)

  past_name : (n : ℕ) (name next : List ℕ) (names : List (List ℕ)) → along n (name ∷ next ∷ names) ≡ and_then (enter t n name) (λ m. along m (next ∷ names))
  unfolding along
  past_name n name next names = refl

  walked : (front : List (List ℕ)) (last : List ℕ) (n : ℕ) → along n (front ++ last ∷ []) ≡ and_then (walk t n front) (λ m. last_in m last)
  unfolding along last_in
  walked [] last n = refl
  walked (name ∷ []) last n = by (enter t n name)
    where
      by : (x : Result ℕ Refusal) → and_then x (λ m. plain.place_from t m last []) ≡ and_then (and_then x (λ m. Ok m)) (λ m. in_directory (t.nodes m) (place_as m last))
      by (Ok m) = refl
      by (Err why) = refl
  walked (name ∷ next ∷ front) last n = by (enter t n name) (walked (next ∷ front) last)
    where
      by : (x : Result ℕ Refusal) → ((m : ℕ) → plain.place_from t m next (front ++ last ∷ []) ≡ and_then (walk t m (next ∷ front)) (λ k. in_directory (t.nodes k) (place_as k last)))
          → and_then x (λ m. plain.place_from t m next (front ++ last ∷ [])) ≡ and_then (and_then x (λ m. walk t m (next ∷ front))) (λ k. in_directory (t.nodes k) (place_as k last))
      by (Ok m) h = h m
      by (Err why) h = refl

  from_root : (path : List (List ℕ)) (front : List (List ℕ)) (last : List ℕ) → path ≡ front ++ last ∷ [] → place t path ≡ along root path
  unfolding along
  from_root [] front last e = absurd (empty front e)
    where
      empty : (front : List (List ℕ)) → [] ≡ front ++ last ∷ [] → ⊥
      empty [] h = cc (h)
      empty (f ∷ fs) h = cc (h)
  from_root (name ∷ names) front last e = refl

  pub place_is : (path front : List (List ℕ)) (last : List ℕ) → path ≡ front ++ last ∷ [] → place t path ≡ and_then (walk t root front) (λ n. in_directory (t.nodes n) (place_as n last))
  unfolding last_in
  place_is path front last e = from_root path front last e ∙ ap (along root) e ∙ walked front last root

-- ---- on pages

module _ (blocks : ℕ) (pages : ℕ → List ℕ) (inodes : Inodes) where
  along_pages : Held → List (List ℕ) → Result Spot Refusal
  along_pages at [] = Err NotFound
  along_pages at (name ∷ names) = place_from blocks pages inodes at name names

  walked_pages : (front : List (List ℕ)) (last : List ℕ) (at : Held) → along_pages at (front ++ last ∷ []) ≡ and_then (path_from blocks pages inodes at front) (λ m. if_directory m last)
  unfolding along_pages
  walked_pages [] last at = refl
  walked_pages (name ∷ []) last at = by (name_from blocks pages inodes at name)
    where
      by : (x : Result Held Refusal) → and_then x (λ m. if_directory m last) ≡ and_then (and_then x (λ m. Ok m)) (λ m. if_directory m last)
      by (Ok m) = refl
      by (Err why) = refl
  walked_pages (name ∷ next ∷ front) last at = by (name_from blocks pages inodes at name) (walked_pages (next ∷ front) last)
    where
      by : (x : Result Held Refusal) → ((m : Held) → place_from blocks pages inodes m next (front ++ last ∷ []) ≡ and_then (path_from blocks pages inodes m (next ∷ front)) (λ k. if_directory k last))
          → and_then x (λ m. place_from blocks pages inodes m next (front ++ last ∷ [])) ≡ and_then (and_then x (λ m. path_from blocks pages inodes m (next ∷ front))) (λ k. if_directory k last)
      by (Ok m) h = h m
      by (Err why) h = refl

  begun : (front : List (List ℕ)) (last : List ℕ) → place_on blocks pages inodes (front ++ last ∷ []) ≡ and_then (inode_at blocks pages inodes no_page root) (λ at. along_pages at (front ++ last ∷ []))
  unfolding along_pages
  begun [] last = refl
  begun (f ∷ fs) last = refl

  pub spot_is : (path front : List (List ℕ)) (last : List ℕ) → path ≡ front ++ last ∷ [] → place_on blocks pages inodes path ≡ and_then (path_of blocks pages inodes front) (λ m. if_directory m last)
  spot_is path front last e = ap (place_on blocks pages inodes) e ∙ begun front last ∙ by (inode_at blocks pages inodes no_page root)
    where
      by : (x : Result Held Refusal) → and_then x (λ at. along_pages at (front ++ last ∷ [])) ≡ and_then (and_then x (λ at. path_from blocks pages inodes at front)) (λ m. if_directory m last)
      by (Ok at) = walked_pages front last at
      by (Err why) = refl

-- ---- what stands there

pub entered : (o : Option Node) (name : List ℕ) (m : ℕ) → enter_from o name ≡ Ok m → named_in o name ≡ Some m
entered None name m h = absurd (cc (h))
entered (Some node) name m h = by (is_dir node.kind) (named name node.names) h
  where
    by : (x : Bool) (y : Option ℕ) → (if x then wanted y else Err NotDir) ≡ Ok m → y ≡ Some m
    by true None h = absurd (cc (h))
    by true (Some k) h = ap Some (number h)
      where
        number : wanted (Some k) ≡ Ok m → k ≡ m
        number h = cc (h)
    by false y h = absurd (cc (h))

missed : (o : Option Node) (name : List ℕ) → enter_from o name ≡ Err NotFound → named_in o name ≡ None
missed None name h = refl
missed (Some node) name h = by (is_dir node.kind) (named name node.names) h
  where
    by : (x : Bool) (y : Option ℕ) → (if x then wanted y else Err NotDir) ≡ Err NotFound → y ≡ None
    by true None h = refl
    by true (Some k) h = absurd (cc (h))
    by false y h = absurd (cc (h))

pub stands : (t : Tree) (dir : ℕ) (name : List ℕ) (o : Held) → Follows {X = ℕ} {Y = Held} (IsOf t) (enter t dir name) (Ok o) → StandsAt t dir name (Ok (Some o))
stands t dir name o f = (entered (t.nodes dir) name f.0 f.1 ∙ ap (λ (n : ℕ). Some n) f.2.0, subst_there t f.0 o.number f.2.0 f.2.1)
  where
    subst_there : (t : Tree) (n m : ℕ) → n ≡ m → IsThere t n → IsThere t m
    subst_there t n m e h = subst (IsThere t) e h

pub stands_none : (t : Tree) (dir : ℕ) (name : List ℕ) → Follows {X = ℕ} {Y = Held} (IsOf t) (enter t dir name) (Err NotFound) → StandsAt t dir name (Ok None)
stands_none t dir name (inl e) = missed (t.nodes dir) name e
stands_none t dir name (inr e) = absurd (cc (e))

-- In a directory of the tree a name is found or not, and nothing else is refused.
pub stands_not : (t : Tree) (dir : ℕ) (name : List ℕ) (why : Refusal) (node : Node) → t.nodes dir ≡ Some node → is_dir node.kind ≡ true → (why ≡ NotFound → ⊥)
    → Follows {X = ℕ} {Y = Held} (IsOf t) (enter t dir name) (Err why) → StandsAt t dir name (Err why)
stands_not t dir name why node is d other (inl e) = absurd (by (named name node.names) (sym (ap (λ (o : Option Node). enter_from o name) is ∙ ap (λ (x : Bool). if x then wanted (named name node.names) else Err NotDir) d) ∙ e))
  where
    by : (y : Option ℕ) → wanted y ≡ Err why → ⊥
    by None h = other (same h)
      where
        same : wanted None ≡ Err why → why ≡ NotFound
        same h = cc (h)
    by (Some k) h = cc (h)
stands_not t dir name why node is d other (inr e) = e

at_end : (front : List (List ℕ)) (last : List ℕ) → get_or (front ++ last ∷ []) (length front) [] ≡ last
at_end [] last = refl
at_end (f ∷ fs) last = at_end fs last

before_end : (front : List (List ℕ)) (last : List ℕ) → length front < length (front ++ last ∷ [])
before_end [] last = omega arith
before_end (f ∷ fs) last = let h = before_end fs last in omega (arith, h)

-- the last name is as short as all
pub last_short : (path front : List (List ℕ)) (last : List ℕ) → path ≡ front ++ last ∷ [] → ((i : ℕ) → i < length path → length (get_or path i []) ≤ 255) → length last ≤ 255
last_short path front last e short = by (λ i l. subst (λ (p : List (List ℕ)). i < length p → length (get_or p i []) ≤ 255) e (short i) l)
  where
    by : ((i : ℕ) → i < length (front ++ last ∷ []) → length (get_or (front ++ last ∷ []) i []) ≤ 255) → length last ≤ 255
    by f = subst (λ (x : List ℕ). length x ≤ 255) (at_end front last) (f (length front) (before_end front last))

-- ---- what the clauses of a place say

pub place_refused : (t : Tree) (path front : List (List ℕ)) (last : List ℕ) (why : Refusal) → path ≡ front ++ last ∷ [] → Follows {X = ℕ} {Y = Held} (IsOf t) (walk t root front) (Err why) → OrOpen (place t path) why
place_refused t path front last why e (inl h) = inl (place_is t path front last e ∙ ap (λ (x : Result ℕ Refusal). and_then x (λ n. in_directory (t.nodes n) (place_as n last))) h)
place_refused t path front last why e (inr h) = inr h

pub place_found : (t : Tree) (path front : List (List ℕ)) (last : List ℕ) (dir : Held) (node : Node) (x : Bool) → path ≡ front ++ last ∷ [] → Follows {X = ℕ} {Y = Held} (IsOf t) (walk t root front) (Ok dir) → t.nodes dir.number ≡ Some node → is_dir node.kind ≡ x
    → place t path ≡ (if x then place_as dir.number last else Err NotDir)
place_found t path front last dir node x e f is d = place_is t path front last e ∙ ap (λ (y : Result ℕ Refusal). and_then y (λ n. in_directory (t.nodes n) (place_as n last))) (f.1 ∙ ap (λ (n : ℕ). Ok n) f.2.0)
    ∙ ap (λ (y : Option Node). in_directory y (place_as dir.number last)) is ∙ ap (λ (y : Bool). if y then place_as dir.number last else Err NotDir) d

pub spot_refused : (blocks : ℕ) (pages : ℕ → List ℕ) (inodes : Inodes) (path front : List (List ℕ)) (last : List ℕ) (why : Refusal) → path ≡ front ++ last ∷ [] → Answers (path_of blocks pages inodes front) (Err why) → OrOpen (place_on blocks pages inodes path) why
spot_refused blocks pages inodes path front last why e (inl h) = inl (spot_is blocks pages inodes path front last e ∙ ap (λ (x : Result Held Refusal). and_then x (λ m. if_directory m last)) h)
spot_refused blocks pages inodes path front last why e (inr h) = inr h

pub spot_found : (blocks : ℕ) (pages : ℕ → List ℕ) (inodes : Inodes) (path front : List (List ℕ)) (last : List ℕ) (dir : Held) (x : Bool) → path ≡ front ++ last ∷ [] → Answers (path_of blocks pages inodes front) (Ok dir) → has_names dir.inode ≡ x
    → place_on blocks pages inodes path ≡ (if x then Ok (dir, last) else Err NotDir)
spot_found blocks pages inodes path front last dir x e h d = spot_is blocks pages inodes path front last e ∙ ap (λ (y : Result Held Refusal). and_then y (λ m. if_directory m last)) h ∙ ap (λ (y : Bool). if y then Ok (dir, last) else Err NotDir) d
