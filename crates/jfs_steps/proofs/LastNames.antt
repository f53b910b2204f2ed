-- The place of a path's last name: what the calls below it give, and the tree.
use Rattle.std.proofs.Common.{◌≡◌, ◌<◌, ◌⊎◌, refl, sym, ap, ◌∙◌, subst, inl, inr, ℕ, suc, ◌-◌, Bool, true, false, ◌==◌, if◌then◌else◌, List, [], ◌∷◌, length, take, get_or, map, Option, Some, None, is_some, Result, Ok, Err, arith, ne_eqb, eq-eqb}
use Rattle.jfs_inode.specs.Rules.{type_of}
use Rattle.jfs_inode.specs.declared.fields.Dinode.{Dinode}
use Rattle.jfs_name.specs.declared.name.NameEntry.{NameEntry}
use Rattle.jfs_name.specs.Directory.{named}
use Rattle.jfs_way.specs.imap.specs.Inodes.{Inodes}
use Rattle.jfs_way.specs.bmap.specs.States.{Blocks}
use Rattle.jfs_disk.specs.Image.{Image, page_of}
use Rattle.jfs_ranges.specs.declared.view.ViewError.{ViewError}
use Rattle.jfs_ranges.specs.declared.view.ViewError.TheVariants.{Read, Memory}
use Rattle.jfs_way.specs.dtree.specs.Spells.{root_node, page_nodes, spells_names, FailsWhereBad, broken_for, found_for, TellsWay}
use Rattle.jfs_way.specs.dtree.specs.declared.error.DtError.{DtError}
use Rattle.jfs_way.specs.dtree.specs.declared.error.DtError.TheVariants as dt
use Rattle.jfs_way.specs.objects.specs.Volume.{Volume, home}
use Rattle.jfs_way.specs.objects.specs.Image.{extent_place}
use Rattle.jfs_way.specs.objects.specs.Objects.{Object, IsWhole, objects, spelled, has_names, listed}
use Rattle.jfs_way.specs.meaning.specs.Readers.{readers, root_of}
use Rattle.jfs_way.specs.meaning.specs.Node.{kind_of, node_in, node_from, node_with, target_in}
use Rattle.jfs_way.specs.meaning.specs.Consistent.{IsConsistent}
use Rattle.jfs_way.specs.plain.specs.Tree.{Tree, Place, walk, enter, root, and_then, is_dir, in_directory, place_as, place_at, place_from, place, new_place, named_in, unless_there, at_place}
use Rattle.jfs_way.specs.plain.specs.declared.node.Node.{Node}
use Rattle.jfs_way.specs.plain.specs.declared.refusal.Refusal.{Refusal}
use Rattle.jfs_way.specs.plain.specs.declared.refusal.Refusal.TheVariants.{NotDir, Exists}
use Rattle.jfs_way.specs.plain.specs.declared.reply.NodeKind.TheVariants.{Dir, File, Link, Other}
use Rattle.jfs_way.specs.Answer.{is_open, Answers, Follows, view_refusal, names_refusal}
use Rattle.jfs_way.specs.Volume.{volume_of}
use Rattle.jfs_way.specs.Way.{path_of, if_unbroken}
use Rattle.jfs_way.specs.Walk.{IsThere, IsOf, IsHeld, IsShown, tree_in}
use Rattle.jfs_way.specs.declared.object.Held.{Held}
use Rattle.jfs_way.proofs.Places.{home_is}
use Rattle.jfs_way.proofs.Nodes.{there}
use Rattle.jfs_steps.specs.Place.{last_of, front_of, if_directory, place_of, unless_named, new_place_of, IsPlace}
use Rattle.jfs_steps.proofs.Grows.{names_listed}

-- ---- the plain tree

place_from_is : (t : Tree) (n : ℕ) (name : List ℕ) (names : List (List ℕ)) → place_from t n name names
    ≡ and_then (walk t n (take (length names) (name ∷ names))) (λ m. in_directory (t.nodes m) (place_as m (get_or (name ∷ names) (length names) [])))
place_from_is t n name [] = refl
place_from_is t n name (next ∷ rest) = by (enter t n name) (λ m. place_from_is t m next rest)
  where
    last : ℕ → Result Place Refusal
    last m = in_directory (t.nodes m) (place_as m (get_or (next ∷ rest) (length rest) []))

    by : (x : Result ℕ Refusal) → ((m : ℕ) → place_from t m next rest ≡ and_then (walk t m (take (length rest) (next ∷ rest))) last)
        → and_then x (λ m. place_from t m next rest) ≡ and_then (and_then x (λ m. walk t m (take (length rest) (next ∷ rest)))) last
    by (Ok m) h = h m
    by (Err why) h = refl

-- a path's place is that of its last name in what the names before it lead to
pub place_is : (t : Tree) (path : List (List ℕ)) → 0 < length path → place t path ≡ and_then (walk t root (front_of path)) (λ m. in_directory (t.nodes m) (place_as m (last_of path)))
place_is t [] h = absurd (omega (arith, h))
place_is t (name ∷ names) h = place_from_is t root name names
    ∙ ap (λ (k : ℕ). and_then (walk t root (take k (name ∷ names))) (λ m. in_directory (t.nodes m) (place_as m (get_or (name ∷ names) k [])))) (one_less (length names))
  where
    one_less : (k : ℕ) → k ≡ suc k - 1
    one_less k = omega arith

-- ---- a directory on a consistent volume

is_dir_is : (d : Dinode) → is_dir (kind_of (type_of d)) ≡ has_names d
is_dir_is d = by (type_of d == 0x4000) (type_of d == 0x8000) (type_of d == 0xa000)
  where
    by : (a b c : Bool) → is_dir (if a then Dir else (if b then File else (if c then Link else Other))) ≡ a
    by true b c = refl
    by false true c = refl
    by false false true = refl
    by false false false = refl

-- its node has the names that its tree spells
pub record IsDirectory (blocks : ℕ) (pages : ℕ → List ℕ) (t : Tree) (at : Held) : Type 0 where
  pub names : List NameEntry
  pub spelled : spells_names blocks pages (root_of at.inode) ≡ Ok names
  pub node : Node
  pub there : t.nodes at.number ≡ Some node
  pub directory : is_dir node.kind ≡ true
  pub names_are : node.names ≡ names
  pub links_are : node.links ≡ at.inode.nlink

module _ (blocks : ℕ) (pages : ℕ → List ℕ) (area : ℕ → ℕ) (bm : Blocks) (inodes : Inodes) (con : IsConsistent (readers blocks) (volume_of pages area bm inodes))
    (at : Held) (held : IsHeld blocks inodes at) (shown : IsShown pages at) (some : IsThere (tree_in blocks pages area bm inodes) at.number) where
  abbrev v : Volume
  v = volume_of pages area bm inodes

  abbrev t : Tree
  t = tree_in blocks pages area bm inodes

  abbrev d : Dinode
  d = at.inode

  pub stood : home (map extent_place inodes.extents) at.number ≡ Some at.page
  stood = home_is inodes at.number ∙ held.home

  pub object_is : objects (readers blocks) v at.number ≡ Some (spelled (readers blocks) pages d)
  object_is = there blocks v con at.number at.page stood some ∙ ap (λ (e : Dinode). Some (spelled (readers blocks) pages e)) (sym shown)

  abbrev o : Object
  o = spelled (readers blocks) pages d

  whole : IsWhole (readers blocks) o
  whole = con.sound.whole at.number o object_is

  node_at : t.nodes at.number ≡ Some (node_with o.inode (target_in (readers blocks) pages o) whole.names)
  node_at = ap (node_in (readers blocks) pages) object_is
      ∙ ap (λ a. node_from o.inode (target_in (readers blocks) pages o) a (listed (readers blocks).extents_order o.extents)) whole.names_are
      ∙ ap (λ b. node_from o.inode (target_in (readers blocks) pages o) (Ok whole.names) b) whole.extents_are

  inode_is : (d : Dinode) → (spelled (readers blocks) pages d).inode ≡ d
  unfolding spelled
  inode_is d = refl

  pub directory_is : has_names d ≡ true → IsDirectory blocks pages t at
  directory_is dir = record {
    names = whole.names;
    spelled = sym (names_listed blocks pages d dir) ∙ whole.names_are;
    node = node_with o.inode (target_in (readers blocks) pages o) whole.names;
    there = node_at;
    directory = ap (λ (e : Dinode). is_dir (kind_of (type_of e))) (inode_is d) ∙ is_dir_is d ∙ dir;
    names_are = refl;
    links_are = ap (λ (e : Dinode). e.nlink) (inode_is d);
  }

  -- what isn't one has no places
  pub other_is : has_names d ≡ false → (p : Result Place Refusal) → in_directory (t.nodes at.number) p ≡ Err NotDir
  other_is other p = ap (λ (x : Option Node). in_directory x p) node_at
      ∙ ap (λ (x : Bool). if x then p else Err NotDir) (ap (λ (e : Dinode). is_dir (kind_of (type_of e))) (inode_is d) ∙ is_dir_is d ∙ other)

-- ---- the place

pub walked_there : (t : Tree) (plain : Result ℕ Refusal) (at : Held) → Follows {X = ℕ} {Y = Held} (IsOf t) plain (Ok at) → IsThere t at.number
walked_there t plain at f = subst (IsThere t) f.2.0 f.2.1

module _ (t : Tree) (path : List (List ℕ)) (some : 0 < length path) where
  -- what the walk refuses is refused
  pub place_fails : (why : Refusal) → (walk t root (front_of path) ≡ Err why) ⊎ (is_open why ≡ true) → (place t path ≡ Err why) ⊎ (is_open why ≡ true)
  place_fails why (inl h) = inl (place_is t path some ∙ ap (λ x. and_then x (λ m. in_directory (t.nodes m) (place_as m (last_of path)))) h)
  place_fails why (inr h) = inr h

  walked : (n m : ℕ) → walk t root (front_of path) ≡ Ok m → m ≡ n → place t path ≡ in_directory (t.nodes n) (place_as n (last_of path))
  walked n m h e = place_is t path some ∙ ap (λ x. and_then x (λ m. in_directory (t.nodes m) (place_as m (last_of path)))) h ∙ ap (λ (k : ℕ). in_directory (t.nodes k) (place_as k (last_of path))) e

  pub place_other : (at : Held) → Follows {X = ℕ} {Y = Held} (IsOf t) (walk t root (front_of path)) (Ok at) → in_directory (t.nodes at.number) (place_as at.number (last_of path)) ≡ Err NotDir → place t path ≡ Err NotDir
  place_other at f h = walked at.number f.0 f.1 f.2.0 ∙ h

  pub place_found : (blocks : ℕ) (pages : ℕ → List ℕ) (at : Held) → Follows {X = ℕ} {Y = Held} (IsOf t) (walk t root (front_of path)) (Ok at) → IsDirectory blocks pages t at → Follows (IsPlace t path) (place t path) (Ok at)
  place_found blocks pages at f dir = (
    place_at at.number (last_of path),
    walked at.number f.0 f.1 f.2.0 ∙ ap (λ x. in_directory x (place_as at.number (last_of path))) dir.there ∙ ap (λ (x : Bool). if x then place_as at.number (last_of path) else Err NotDir) dir.directory,
    (refl, subst (IsThere t) f.2.0 f.2.1),
  )

-- ---- a new place

module _ (t : Tree) (path : List (List ℕ)) where
  -- what is refused as a place is refused
  pub new_fails : (why : Refusal) → (place t path ≡ Err why) ⊎ (is_open why ≡ true) → (new_place t path ≡ Err why) ⊎ (is_open why ≡ true)
  new_fails why (inl h) = inl (ap (λ x. and_then x (λ p. unless_there (at_place t p) p)) h)
  new_fails why (inr h) = inr h

  -- what the tree of the place's directory has under the name
  module _ (blocks : ℕ) (pages : ℕ → List ℕ) (at : Held) (f : Follows (IsPlace t path) (place t path) (Ok at)) (dir : IsDirectory blocks pages t at) (name root : List ℕ) (last : name ≡ last_of path) (is : root ≡ root_of at.inode)
      (found : Option ℕ) (has : (es : List NameEntry) → spells_names blocks pages root ≡ Ok es → found ≡ named name es) where
    named_is : named_in (t.nodes at.number) (last_of path) ≡ found
    named_is = ap (λ x. named_in x (last_of path)) dir.there ∙ ap (named (last_of path)) dir.names_are ∙ ap (λ (x : List ℕ). named x dir.names) (sym last)
        ∙ sym (has dir.names (ap (spells_names blocks pages) is ∙ dir.spelled))

    pub new_is : new_place t path ≡ unless_there found (place_at at.number (last_of path))
    new_is = ap (λ x. and_then x (λ p. unless_there (at_place t p) p)) f.1 ∙ ap (λ (p : Place). unless_there (at_place t p) p) f.2.0 ∙ ap (λ x. unless_there x (place_at at.number (last_of path))) named_is

pub new_found : (t : Tree) (path : List (List ℕ)) (at : Held) → IsThere t at.number → new_place t path ≡ unless_there None (place_at at.number (last_of path)) → Follows (IsPlace t path) (new_place t path) (Ok at)
new_found t path at there h = (place_at at.number (last_of path), h, (refl, there))

-- a call on a tree that spells a list names no page
view_open : (e : ViewError) → is_open (view_refusal e) ≡ true
view_open (Read fault) = refl
view_open Memory = refl

pub find_open : (blocks : ℕ) (pages : ℕ → List ℕ) (t : Tree) (at : Held) → IsDirectory blocks pages t at → (root : List ℕ) → root ≡ root_of at.inode → (number page : ℕ) (e : DtError) → FailsWhereBad (page_nodes blocks pages) (root_node blocks root) e → is_open (names_refusal number page e) ≡ true
find_open blocks pages t at dir bytes is number page (dt.View e) h = view_open e
find_open blocks pages t at dir bytes is number page (dt.Bad bad rule) h = absurd (h.1 dir.names (ap (spells_names blocks pages) is ∙ dir.spelled))
find_open blocks pages t at dir bytes is number page dt.Exists h = absurd h
find_open blocks pages t at dir bytes is number page dt.Missing h = absurd h
find_open blocks pages t at dir bytes is number page dt.TooDeep h = absurd h

-- ---- on any volume

-- what a look-up said of the view after it, said of the one before
pub way_back : (b now : ℕ) (image shown : Image) (root name : List ℕ) (e : DtError) → now ≡ b → shown ≡ image → TellsWay {T = Option ℕ} (broken_for now (page_of shown) root name) (Err e) → TellsWay {T = Option ℕ} (broken_for b (page_of image) root name) (Err e)
way_back b now image shown root name e same_count same_image h =
    subst (λ (i : Image). TellsWay {T = Option ℕ} (broken_for b (page_of i) root name) (Err e)) same_image
    (subst (λ (k : ℕ). TellsWay {T = Option ℕ} (broken_for k (page_of shown) root name) (Err e)) same_count h)

module _ (blocks : ℕ) (pages : ℕ → List ℕ) (inodes : Inodes) (path : List (List ℕ)) where
  pub meets_root : length path ≡ 0 → place_of blocks pages inodes path ≡ Err Exists
  meets_root h = ap (λ (x : Bool). if x then Err Exists else and_then (path_of blocks pages inodes (front_of path)) if_directory) (eq-eqb (length path) 0 h)

  on_way : 0 < length path → place_of blocks pages inodes path ≡ and_then (path_of blocks pages inodes (front_of path)) if_directory
  on_way some = ap (λ (x : Bool). if x then Err Exists else and_then (path_of blocks pages inodes (front_of path)) if_directory) (ne_eqb (length path) 0 (λ e. absurd (omega (arith, some, e))))

  pub meets_failed : 0 < length path → (why : Refusal) → Answers (path_of blocks pages inodes (front_of path)) (Err why) → Answers (place_of blocks pages inodes path) (Err why)
  meets_failed some why (inl h) = inl (on_way some ∙ ap (λ x. and_then x if_directory) h)
  meets_failed some why (inr h) = inr h

  pub meets_at : 0 < length path → (at : Held) → Answers (path_of blocks pages inodes (front_of path)) (Ok at) → (x : Bool) → has_names at.inode ≡ x → place_of blocks pages inodes path ≡ (if x then Ok at else Err NotDir)
  meets_at some at h x e = on_way some ∙ ap (λ x. and_then x if_directory) h ∙ ap (λ (y : Bool). if y then Ok at else Err NotDir) e

  pub meets_no_place : (why : Refusal) → Answers (place_of blocks pages inodes path) (Err why) → Answers (new_place_of blocks pages inodes path) (Err why)
  meets_no_place why (inl h) = inl (ap (λ x. and_then x (unless_named blocks pages (last_of path))) h)
  meets_no_place why (inr h) = inr h

  module _ (at : Held) (here : Answers (place_of blocks pages inodes path) (Ok at)) (name root : List ℕ) (last : name ≡ last_of path) (is : root ≡ root_of at.inode) where
    abbrev rest : Result Held Refusal
    rest = if is_some (found_for blocks pages root name) then Err Exists else Ok at

    new_at : new_place_of blocks pages inodes path ≡ if_unbroken at.page (broken_for blocks pages root name) rest
    new_at = ap (λ x. and_then x (unless_named blocks pages (last_of path))) here
        ∙ ap (λ (n : List ℕ). if_unbroken at.page (broken_for blocks pages (root_of at.inode) n) (if is_some (found_for blocks pages (root_of at.inode) n) then Err Exists else Ok at)) (sym last)
        ∙ ap (λ (bytes : List ℕ). if_unbroken at.page (broken_for blocks pages bytes name) (if is_some (found_for blocks pages bytes name) then Err Exists else Ok at)) (sym is)

    pub meets_found : (found : Option ℕ) → broken_for blocks pages root name ≡ None → found ≡ found_for blocks pages root name → new_place_of blocks pages inodes path ≡ (if is_some found then Err Exists else Ok at)
    meets_found found h e = new_at ∙ ap (λ first. if_unbroken at.page first rest) h ∙ ap (λ (x : Option ℕ). if is_some x then Err Exists else Ok at) (sym e)

    pub meets_bad : (e : DtError) → TellsWay {T = Option ℕ} (broken_for blocks pages root name) (Err e) → FailsWhereBad (page_nodes blocks pages) (root_node blocks root) e
        → Answers (new_place_of blocks pages inodes path) (Err (names_refusal at.number at.page e))
    meets_bad (dt.View e) way bad = inr (view_open e)
    meets_bad (dt.Bad page rule) way bad = inl (new_at ∙ ap (λ first. if_unbroken at.page first rest) way)
    meets_bad dt.Exists way bad = absurd bad
    meets_bad dt.Missing way bad = absurd bad
    meets_bad dt.TooDeep way bad = absurd bad
