-- What paths and names lead to.
use Rattle.std.proofs.Common.{◌≡◌, ◌<◌, refl, sym, ap, ap₂, ◌∙◌, ℕ, suc, ◌+◌, ◌==◌, Bool, true, false, not, cond, eq-eqb, if◌then◌else◌, List, [], ◌∷◌, length, get_or, Option, Some, None, Result, Ok, Err, arith}
use Rattle.std.specs.Prelude.{slice_get}
use Rattle.std.proofs.lemmas.List.Sums.{get_or-le-sum_by}
use Rattle.jfs_name.specs.declared.name.NameEntry.{NameEntry}
use Rattle.jfs_name.specs.Directory.{named, is_same, place_of}
use Rattle.jfs_plain.specs.Tree.{Tree, root, is_dir, and_then, walk, enter, enter_from, wanted, Found, found, object, Place, place, place_from, place_as, in_directory, named_in, at_place, unless_there, new_place}
use Rattle.jfs_plain.specs.declared.node.Node.{Node}
use Rattle.jfs_plain.specs.declared.refusal.Refusal.{Refusal}
use Rattle.jfs_plain.specs.declared.refusal.Refusal.TheVariants.{NotDir}
use Rattle.jfs_meaning.specs.Consistent.{leading_to}
use Rattle.jfs_meaning.proofs.Books.{number_of}

abbrev pub fine : {X : Type 0} → X → Result X Refusal
fine x = Ok x

pub ok_is : {X : Type 0} {x y : X} → fine x ≡ fine y → x ≡ y
ok_is h = cc (h)

-- ---- a name among names

pub record IsAmong (name : List ℕ) (es : List NameEntry) (k : ℕ) : Type 0 where
  pub entry : NameEntry
  pub within : place_of name es < length es
  pub at : get_or es (place_of name es) entry ≡ entry
  pub got : slice_get es (place_of name es) ≡ Some entry
  pub leads : entry.inode ≡ k

pub is_among : (name : List ℕ) (es : List NameEntry) (k : ℕ) → named name es ≡ Some k → IsAmong name es k
is_among name [] k h = absurd (cc (h))
is_among name (e ∷ es) k h = by (is_same e.name name) refl h (is_among name es k)
  where
    place_is : (x : Bool) → is_same e.name name ≡ x → place_of name (e ∷ es) ≡ cond (not x) (1 + place_of name es) 0
    place_is x i = ap (λ (y : Bool). cond (not y) (1 + place_of name es) 0) i

    by : (x : Bool) → is_same e.name name ≡ x → (if x then Some e.inode else named name es) ≡ Some k → (named name es ≡ Some k → IsAmong name es k) → IsAmong name (e ∷ es) k
    by true i h f = (let p = place_is true i in record {
      entry = e;
      within = rw p (omega arith);
      at = ap (λ (j : ℕ). get_or (e ∷ es) j e) p;
      got = ap (λ (j : ℕ). slice_get (e ∷ es) j) p;
      leads = cc (h);
    })
    by false i h f = (let r = f h in let p = place_is false i ∙ one_more (place_of name es) in record {
      entry = r.entry;
      within = rw p (let w = r.within in omega (arith, w));
      at = ap (λ (j : ℕ). get_or (e ∷ es) j r.entry) p ∙ r.at;
      got = ap (λ (j : ℕ). slice_get (e ∷ es) j) p ∙ r.got;
      leads = r.leads;
    })
      where
        one_more : (n : ℕ) → 1 + n ≡ suc n
        one_more n = omega arith

pub among_leads : (name : List ℕ) (es : List NameEntry) (k : ℕ) → IsAmong name es k → 0 < leading_to k es
among_leads name es k a =
    let s = get_or-le-sum_by (λ (x : NameEntry). cond (x.inode == k) 1 0) es (place_of name es) a.entry a.within in
    let e = ap (λ (x : NameEntry). cond (x.inode == k) 1 0) a.at ∙ ap number_of (eq-eqb a.entry.inode k a.leads) in
    omega (arith, s, e)

-- ---- a directory, and what one of its names leads to

pub record IsDirectoryAt (t : Tree) (n : ℕ) : Type 0 where
  pub node : Node
  pub there : t.nodes n ≡ Some node
  pub dir : is_dir node.kind ≡ true

pub object_there : (t : Tree) (path : List (List ℕ)) (o : Found) → object t path ≡ Ok o → t.nodes o.inode ≡ Some o.node
object_there t path o h = by (walk t root path) h
  where
    at : (n : ℕ) (x : Option Node) → t.nodes n ≡ x → found n x ≡ Ok o → t.nodes o.inode ≡ Some o.node
    at n None e h = absurd (cc (h))
    at n (Some node) e h = let s = ok_is h in ap (λ (f : Found). t.nodes f.inode) (sym s) ∙ e ∙ ap (λ (f : Found). Some f.node) s

    by : (r : Result ℕ Refusal) → and_then r (λ n. found n (t.nodes n)) ≡ Ok o → t.nodes o.inode ≡ Some o.node
    by (Ok n) h = at n (t.nodes n) refl h
    by (Err why) h = absurd (cc (h))

-- the place of a last name in a directory
pub in_place : (t : Tree) (n : ℕ) (name : List ℕ) (p : Place) → in_directory (t.nodes n) (place_as n name) ≡ Ok p → IsDirectoryAt t p.dir × (n ≡ p.dir) × (name ≡ p.name)
in_place t n name p h = by (t.nodes n) refl h
  where
    by_kind : (node : Node) → t.nodes n ≡ Some node → (x : Bool) → is_dir node.kind ≡ x → (if x then place_as n name else Err NotDir) ≡ Ok p → IsDirectoryAt t p.dir × (n ≡ p.dir) × (name ≡ p.name)
    by_kind node e true d h = let s = ok_is h in (record { node = node; there = ap (λ (q : Place). t.nodes q.dir) (sym s) ∙ e; dir = d }, ap (λ (q : Place). q.dir) s, ap (λ (q : Place). q.name) s)
    by_kind node e false d h = absurd (cc (h))

    by : (x : Option Node) → t.nodes n ≡ x → in_directory x (place_as n name) ≡ Ok p → IsDirectoryAt t p.dir × (n ≡ p.dir) × (name ≡ p.name)
    by None e h = absurd (cc (h))
    by (Some node) e h = by_kind node e (is_dir node.kind) refl h

-- a way down, and the place at its end
pub from_place : (t : Tree) (n : ℕ) (name : List ℕ) (names : List (List ℕ)) (p : Place) → place_from t n name names ≡ Ok p
    → IsDirectoryAt t p.dir × ((k : ℕ) → walk t n (name ∷ names) ≡ Ok k → at_place t p ≡ Some k)
from_place t n name [] p h =
    let here = in_place t n name p h in
    (here.0, λ k w. at_end here.0 here.1 here.2 k w)
  where
    at_end : IsDirectoryAt t p.dir → n ≡ p.dir → name ≡ p.name → (k : ℕ) → and_then (enter t n name) (λ m. walk t m []) ≡ Ok k → at_place t p ≡ Some k
    at_end d e f k w = ap (λ (x : Option Node). named_in x p.name) d.there ∙ by (named p.name d.node.names) refl (sym (ap (λ (r : Result ℕ Refusal). and_then r (λ m. walk t m [])) entered) ∙ w)
      where
        entered : enter t n name ≡ wanted (named p.name d.node.names)
        entered = ap₂ (λ (j : ℕ) (s : List ℕ). enter t j s) e f ∙ ap (λ (x : Option Node). enter_from x p.name) d.there ∙ ap (λ (x : Bool). if x then wanted (named p.name d.node.names) else Err NotDir) d.dir

        by : (x : Option ℕ) → named p.name d.node.names ≡ x → and_then (wanted x) (λ m. walk t m []) ≡ Ok k → named p.name d.node.names ≡ Some k
        by None e w = absurd (cc (w))
        by (Some m) e w = e ∙ ap Some (cc (w))
from_place t n name (next ∷ names) p h = by (enter t n name) (λ m. from_place t m next names p) h
  where
    by : (r : Result ℕ Refusal) → ((m : ℕ) → place_from t m next names ≡ Ok p → IsDirectoryAt t p.dir × ((k : ℕ) → walk t m (next ∷ names) ≡ Ok k → at_place t p ≡ Some k)) → and_then r (λ m. place_from t m next names) ≡ Ok p → IsDirectoryAt t p.dir × ((k : ℕ) → and_then r (λ m. walk t m (next ∷ names)) ≡ Ok k → at_place t p ≡ Some k)
    by (Ok m) f h = f m h
    by (Err why) f h = absurd (cc (h))

pub place_there : (t : Tree) (path : List (List ℕ)) (p : Place) → place t path ≡ Ok p → IsDirectoryAt t p.dir
place_there t [] p h = absurd (cc (h))
place_there t (name ∷ names) p h = (from_place t root name names p h).0

-- what a path leads to stands at its place
pub object_at : (t : Tree) (path : List (List ℕ)) (p : Place) (o : Found) → place t path ≡ Ok p → object t path ≡ Ok o → at_place t p ≡ Some o.inode
object_at t [] p o h w = absurd (cc (h))
object_at t (name ∷ names) p o h w = (from_place t root name names p h).1 o.inode (walked (walk t root (name ∷ names)) w)
  where
    at : (n : ℕ) (x : Option Node) → found n x ≡ Ok o → fine n ≡ fine o.inode
    at n None h = absurd (cc (h))
    at n (Some node) h = ap (λ (r : Result Found Refusal). and_then r (λ f. Ok f.inode)) h

    walked : (r : Result ℕ Refusal) → and_then r (λ n. found n (t.nodes n)) ≡ Ok o → r ≡ Ok o.inode
    walked (Ok n) w = at n (t.nodes n) w
    walked (Err why) w = absurd (cc (w))

-- the place of a new name
pub record IsNewPlace (t : Tree) (p : Place) : Type 0 where
  pub dir : IsDirectoryAt t p.dir
  pub free : at_place t p ≡ None

pub new_there : (t : Tree) (path : List (List ℕ)) (p : Place) → new_place t path ≡ Ok p → IsNewPlace t p
new_there t path p h = by (place t path) refl h
  where
    at : (q : Place) (x : Option ℕ) → at_place t q ≡ x → unless_there x q ≡ Ok p → (q ≡ p) × (at_place t q ≡ None)
    at q None e h = (ok_is h, e)
    at q (Some n) e h = absurd (cc (h))

    by : (r : Result Place Refusal) → place t path ≡ r → and_then r (λ p. unless_there (at_place t p) p) ≡ Ok p → IsNewPlace t p
    by (Ok q) e h = (let a = at q (at_place t q) refl h in record { dir = place_there t path p (e ∙ ap Ok a.0); free = ap (at_place t) (sym a.0) ∙ a.1 })
    by (Err why) e h = absurd (cc (h))
