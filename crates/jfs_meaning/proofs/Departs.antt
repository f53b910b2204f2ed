-- An object that has its new name loses the old one.
use Rattle.std.proofs.Common.{◌≡◌, refl, sym, ap, ◌∙◌, subst, ℕ, zero, suc, ◌+◌, ◌==◌, Bool, true, false, true≢false, eq-eqb, if◌then◌else◌, List, [], ◌∷◌, ◌++◌, take, drop, Option, Some, None, is_some, arith}
use Rattle.std.specs.Prelude.{slice_get, slice_set}
use Rattle.jfs_bits.specs.declared.descriptor.Moment.{Moment}
use Rattle.jfs_name.specs.declared.name.NameEntry.{NameEntry}
use Rattle.jfs_name.specs.Directory.{named, is_same}
use Rattle.jfs_plain.specs.Tree.{Tree, root, Place, named_in}
use Rattle.jfs_plain.specs.Moves.{loses, moves, stamped, changed}
use Rattle.jfs_plain.specs.Step.{lost, departs}
use Rattle.jfs_plain.specs.declared.node.Node.{Node}
use Rattle.jfs_objects.specs.Owners.{bit}
use Rattle.jfs_meaning.specs.Consistent.{leading_to, names_in, names_for, is_directory, HasItsName}
use Rattle.jfs_meaning.proofs.Books.{number_of, Books, Changes, changed_books, counted, charge, is_it}
use Rattle.jfs_meaning.proofs.Moves.{changed_here, kept, gives}
use Rattle.jfs_meaning.proofs.Found.{IsDirectoryAt, IsAmong, is_among}
use Rattle.jfs_meaning.proofs.Makes.{one_there, parent_at, number_is}
use Rattle.jfs_meaning.proofs.Unlinks.{touched}

-- what a name leads to, where one more name leads to the same
pub still_named : (name : List ℕ) (e : NameEntry) (es : List NameEntry) (i : ℕ) → named name es ≡ Some e.inode → named name (take i es ++ e ∷ drop i es) ≡ Some e.inode
still_named name e es zero h = by (is_same e.name name)
  where
    by : (x : Bool) → (if x then Some e.inode else named name es) ≡ Some e.inode
    by true = refl
    by false = h
still_named name e [] (suc i) h = absurd (cc (h))
still_named name e (x ∷ es) (suc i) h = by (is_same x.name name) (still_named name e es i) h
  where
    by : (y : Bool) → (named name es ≡ Some e.inode → named name (take i es ++ e ∷ drop i es) ≡ Some e.inode) → (if y then Some x.inode else named name es) ≡ Some e.inode → (if y then Some x.inode else named name (take i es ++ e ∷ drop i es)) ≡ Some e.inode
    by true f h = h
    by false f h = f h

pub by_names : (x : Option Node) (name : List ℕ) → named_in x name ≡ named name (names_in x)
by_names None name = refl
by_names (Some o) name = refl

pub directory_at : (t : Tree) (n : ℕ) → is_directory (t.nodes n) ≡ true → IsDirectoryAt t n
directory_at t n h = by (t.nodes n) refl h
  where
    by : (x : Option Node) → t.nodes n ≡ x → is_directory x ≡ true → IsDirectoryAt t n
    by None e h = absurd (cc (h))
    by (Some o) e h = record { node = o; there = e; dir = h }

pub some_at : (t : Tree) (n : ℕ) → is_some (t.nodes n) ≡ true → (x : Node) × (t.nodes n ≡ Some x)
some_at t n h = by (t.nodes n) refl h
  where
    by : (x : Option Node) → t.nodes n ≡ x → is_some x ≡ true → (y : Node) × (t.nodes n ≡ Some y)
    by None e h = absurd (cc (h))
    by (Some o) e h = (o, e)

-- a name that names another inode
pub still_set : (name : List ℕ) (n : ℕ) (es : List NameEntry) (i : ℕ) (x : NameEntry) → slice_get es i ≡ Some x → named name es ≡ Some n → named name (slice_set es i (record x { inode = n })) ≡ Some n
still_set name n [] i x g h = absurd (cc (h))
still_set name n (e ∷ es) zero x g h = subst (λ (y : NameEntry). (if is_same y.name name then Some n else named name es) ≡ Some n) (entry_is g) (by (is_same e.name name) h)
  where
    entry_is : {x y : NameEntry} → Some x ≡ Some y → x ≡ y
    entry_is h = cc (h)

    by : (y : Bool) → (if y then Some e.inode else named name es) ≡ Some n → (if y then Some n else named name es) ≡ Some n
    by true h = refl
    by false h = h
still_set name n (e ∷ es) (suc i) x g h = by (is_same e.name name) (still_set name n es i x g) h
  where
    by : (y : Bool) → (named name es ≡ Some n → named name (slice_set es i (record x { inode = n })) ≡ Some n) → (if y then Some e.inode else named name es) ≡ Some n → (if y then Some e.inode else named name (slice_set es i (record x { inode = n }))) ≡ Some n
    by true f h = h
    by false f h = f h

-- ---- the last moves: an object that has its new name loses the old one

module _ (most : ℕ) (loose : ℕ → Bool) (u : Tree) (up down : List ℕ) (b : Books most loose u up down) (root_stays : loose root ≡ false) (n : ℕ) (by_dir : Bool) (there : is_some (u.nodes n) ≡ true) (kind : is_directory (u.nodes n) ≡ by_dir) (free : by_dir ≡ true → loose n ≡ true)
    (p : Place) (to : ℕ) (now : Moment) (dir_at : is_directory (u.nodes p.dir) ≡ true) (at : named p.name (names_in (u.nodes p.dir)) ≡ Some n) where
  abbrev pub found : (x : Node) × (u.nodes n ≡ Some x)
  found = some_at u n there

  abbrev pub moved : Tree
  moved = if by_dir then changed n (moves to) u else u

  abbrev pub arrived : Tree
  arrived = changed n (stamped now) moved

  abbrev pub moved_node : Node
  moved_node = if by_dir then moves to found.0 else found.0

  moved_there : moved.nodes n ≡ Some moved_node
  moved_there = by by_dir
    where
      by : (x : Bool) → (if x then changed n (moves to) u else u).nodes n ≡ Some (if x then moves to found.0 else found.0)
      by true = changed_here u n (moves to) found.0 found.1
      by false = found.1

  moved_books : Books most loose moved up down
  moved_books = by by_dir refl
    where
      by : (x : Bool) → by_dir ≡ x → Books most loose (if x then changed n (moves to) u else u) up down
      by true e = touched most loose u up down b root_stays n found.0 found.1 (moves to) refl refl (λ a. absurd (true≢false (sym (free e) ∙ a))) refl
      by false e = b

  arrived_books : Books most loose arrived up down
  arrived_books = touched most loose moved up down moved_books root_stays n moved_node moved_there (stamped now) refl refl (λ a. refl) refl

  -- what the moves keep
  stays : {X : Type 0} (g : Option Node → X) → ((x : Node) → g (Some (moves to x)) ≡ g (Some x)) → ((x : Node) → g (Some (stamped now x)) ≡ g (Some x)) → (k : ℕ) → g (arrived.nodes k) ≡ g (u.nodes k)
  stays g h s k = kept moved n (stamped now) g s k ∙ by by_dir
    where
      by : (x : Bool) → g ((if x then changed n (moves to) u else u).nodes k) ≡ g (u.nodes k)
      by true = kept u n (moves to) g h k
      by false = refl

  place_now : IsDirectoryAt arrived p.dir
  place_now = directory_at arrived p.dir (stays is_directory (λ x. refl) (λ x. refl) p.dir ∙ dir_at)

  among_now : IsAmong p.name place_now.node.names n
  among_now = is_among p.name place_now.node.names n (ap (λ (x : Option Node). named p.name (names_in x)) (sym place_now.there) ∙ ap (named p.name) (stays names_in (λ x. refl) (λ x. refl) p.dir) ∙ at)

  abbrev pub departed : Tree
  departed = lost p now arrived

  leaves : Changes arrived departed loose p.dir place_now.node (loses p.name now place_now.node) (Some n) None [] []
  leaves = gives arrived loose p.dir place_now.node place_now.there place_now.dir p.name n now among_now (λ e. free (sym (stays is_directory (λ x. refl) (λ x. refl) n ∙ kind) ∙ e))

  pub departs_books : Books most loose (departs n by_dir p to now u) up (charge u p.dir n ∷ down)
  departs_books = subst (λ (k : ℕ). Books most loose departed up (k ∷ down)) (ap (λ (x : Bool). if x then p.dir else n) (stays is_directory (λ x. refl) (λ x. refl) n))
      (changed_books most loose loose arrived departed up down arrived_books p.dir place_now.node (loses p.name now place_now.node) (Some n) None [] [] leaves root_stays (λ k e. e))

  pub departs_count : (wh k : ℕ) → names_for (departs n by_dir p to now u) wh k + (if wh == p.dir then is_it k n else 0) ≡ names_for u wh k
  departs_count wh k =
      let h = counted arrived departed loose p.dir place_now.node (loses p.name now place_now.node) (Some n) None [] [] leaves wh k in
      let s = stays (λ x. leading_to k (names_in x)) (λ x. refl) (λ x. refl) wh in
      let z = nothing (wh == p.dir) in
      omega (arith, h, s, z)
    where
      nothing : (x : Bool) → ◌≡◌ {A = ℕ} (if x then 0 else 0) 0
      nothing true = refl
      nothing false = refl

  pub departs_there : (k : ℕ) → is_some ((departs n by_dir p to now u).nodes k) ≡ is_some (u.nodes k)
  departs_there k = kept arrived p.dir (loses p.name now) is_some (λ x. refl) k ∙ stays is_some (λ x. refl) (λ x. refl) k

  pub departs_parent : by_dir ≡ true → parent_at ((departs n by_dir p to now u).nodes n) ≡ Some to
  departs_parent dir = kept arrived p.dir (loses p.name now) parent_at (λ x. refl) n ∙ kept moved n (stamped now) parent_at (λ x. refl) n ∙ ap parent_at moved_there ∙ ap (λ (x : Bool). Some (if x then moves to found.0 else found.0).parent) dir

  -- a directory that comes from its parent has its name
  pub settled : by_dir ≡ true → ((wh : ℕ) → names_for u wh n ≡ bit (wh == p.dir) + bit (wh == to)) → (x : Node) → (departs n by_dir p to now u).nodes n ≡ Some x → HasItsName (departs n by_dir p to now u) n x
  settled dir names x there = one_there (departs n by_dir p to now u) n to x names_are (number_is (sym (ap parent_at there) ∙ departs_parent dir))
    where
      one : is_it n n ≡ 1
      one = ap number_of (eq-eqb n n refl)

      names_are : (wh : ℕ) → names_for (departs n by_dir p to now u) wh n ≡ bit (wh == to)
      names_are wh = let h = departs_count wh n in let m = names wh in let i = one in by (wh == p.dir) h m i
        where
          by : (y : Bool) → names_for (departs n by_dir p to now u) wh n + (if y then is_it n n else 0) ≡ names_for u wh n → names_for u wh n ≡ bit y + bit (wh == to) → is_it n n ≡ 1 → names_for (departs n by_dir p to now u) wh n ≡ bit (wh == to)
          by true h m i = omega (arith, h, m, i)
          by false h m i = omega (arith, h, m)
