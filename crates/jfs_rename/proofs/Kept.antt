-- Whether an object may take the place of another, told of inodes and told of nodes.
use Rattle.std.proofs.Common.{◌≡◌, refl, sym, ap, ◌∙◌, subst, ℕ, Bool, true, false, true≢false, not, ◌==◌, ◌&&◌, nat_le, nat_lt, if◌then◌else◌, List, [], ◌∷◌, length, Option, Some, None, Result, Ok, Err}
use Rattle.jfs_name.specs.declared.name.NameEntry.{NameEntry}
use Rattle.jfs_tree.specs.Walk.{Leaf, Inner, Broken}
use Rattle.jfs_tree.specs.Walk as tree
use Rattle.jfs_dtree.specs.Spells.{root_node, spells_names}
use Rattle.jfs_link.specs.meaning.specs.Readers.{root_of}
use Rattle.jfs_link.specs.objects.specs.Objects.{has_names}
use Rattle.jfs_plain.specs.Tree.{Tree, is_dir, is_file, and_then}
use Rattle.jfs_plain.specs.Step.{why_barred, why_kept, is_full, is_last_of_big, has_names as has_entries}
use Rattle.jfs_plain.specs.declared.node.Node.{Node}
use Rattle.jfs_plain.specs.declared.reply.NodeKind.{NodeKind}
use Rattle.jfs_plain.specs.declared.reply.NodeKind.TheVariants.{Dir, File, Link, Other}
use Rattle.jfs_plain.specs.declared.refusal.Refusal.{Refusal}
use Rattle.jfs_plain.specs.declared.refusal.Refusal.TheVariants.{IntoItself, IsDir, NotDir, NotEmpty, FileTooBig}
use Rattle.jfs_link.specs.way.specs.declared.object.Held.{Held}
use Rattle.jfs_unlink.specs.Call.{bare_at}
use Rattle.jfs_unlink.specs.Call as call
use Rattle.jfs_unlink.proofs.Ended.{IsNodeOf}
use Rattle.jfs_unlink.proofs.NoNames.{bare_spelled, is_full as is_not_empty, has_some}
use Rattle.jfs_rename.specs.Permits.{unless_barred, bare_check, over_check}

-- ---- where nothing stands

-- only a directory can come below itself
pub barred_inside : (by_dir x y stays : Bool) (links : ℕ) → (by_dir ≡ true → x ≡ y) → why_barred by_dir x stays links ≡ why_barred by_dir y stays links
barred_inside true x y stays links h = ap (λ (z : Bool). why_barred true z stays links) (h refl)
barred_inside false x y stays links h = refl

pub some_barred : (x : Option Refusal) (why : Refusal) → unless_barred x ≡ Err why → x ≡ Some why
some_barred None why h = absurd (cc (h))
some_barred (Some w) why h = ap (λ (r : Refusal). Some r) (cc (h))

pub none_barred : (x : Option Refusal) → unless_barred x ≡ Ok tt → x ≡ None
none_barred None h = refl
none_barred (Some w) h = absurd (cc (h))

-- ---- where another object stands

err_is : {X : Type 0} {w why : Refusal} (r : Result X Refusal) → r ≡ Err w → r ≡ Err why → w ≡ why
err_is r h k = cc (h, k)

same_err : (w why : Refusal) (r : Result (Unit {0}) Refusal) → r ≡ Err w → r ≡ Err why → Some w ≡ Some why
same_err w why r h k = ap (λ (x : Refusal). Some x) (err_is r h k)

-- what is asked of inodes, and what of nodes
abbrev checks : Bool → Bool → Bool → Result (Unit {0}) Refusal → Bool → Result (Unit {0}) Refusal
checks x y z bare big = if x then (if y then Err IntoItself else (if z then bare else Err NotDir)) else (if z then Err IsDir else (if big then Err FileTooBig else Ok tt))

kept_refused : (limit : ℕ) (x y z : Bool) (old : Node) (bare : Result (Unit {0}) Refusal) (big : Bool) (why : Refusal) → is_dir old.kind ≡ z
    → (z ≡ true → (w : Refusal) → bare ≡ Err w → (w ≡ NotEmpty) × (has_entries old ≡ true)) → (z ≡ false → is_last_of_big limit old ≡ big) → checks x y z bare big ≡ Err why → why_kept limit x y old ≡ Some why
kept_refused limit true true z old bare big why d n b h = same_err IntoItself why (Err IntoItself) refl h
kept_refused limit true false true old bare big why d n b h = let k = n refl why h in
    ap (λ (w : Bool). if not w then Some NotDir else (if has_entries old then Some NotEmpty else (if is_last_of_big limit old then Some FileTooBig else None))) d
    ∙ ap (λ (w : Bool). if w then Some NotEmpty else (if is_last_of_big limit old then Some FileTooBig else None)) k.1 ∙ ap (λ (w : Refusal). Some w) (sym k.0)
kept_refused limit true false false old bare big why d n b h =
    ap (λ (w : Bool). if not w then Some NotDir else (if has_entries old then Some NotEmpty else (if is_last_of_big limit old then Some FileTooBig else None))) d ∙ same_err NotDir why (Err NotDir) refl h
kept_refused limit false y true old bare big why d n b h = ap (λ (w : Bool). if w then Some IsDir else (if is_last_of_big limit old then Some FileTooBig else None)) d ∙ same_err IsDir why (Err IsDir) refl h
kept_refused limit false y false old bare true why d n b h = ap (λ (w : Bool). if w then Some IsDir else (if is_last_of_big limit old then Some FileTooBig else None)) d
    ∙ ap (λ (w : Bool). if w then Some FileTooBig else None) (b refl) ∙ same_err FileTooBig why (Err FileTooBig) refl h
kept_refused limit false y false old bare false why d n b h = absurd (cc (h))

kept_allowed : (limit : ℕ) (x y z : Bool) (old : Node) (bare : Result (Unit {0}) Refusal) (big : Bool) → is_dir old.kind ≡ z
    → (z ≡ true → bare ≡ Ok tt → (has_entries old ≡ false) × (is_last_of_big limit old ≡ false)) → (z ≡ false → is_last_of_big limit old ≡ big) → checks x y z bare big ≡ Ok tt → why_kept limit x y old ≡ None
kept_allowed limit true true z old bare big d n b h = absurd (cc (h))
kept_allowed limit true false true old bare big d n b h = let k = n refl h in
    ap (λ (w : Bool). if not w then Some NotDir else (if has_entries old then Some NotEmpty else (if is_last_of_big limit old then Some FileTooBig else None))) d
    ∙ ap (λ (w : Bool). if w then Some NotEmpty else (if is_last_of_big limit old then Some FileTooBig else None)) k.0 ∙ ap (λ (w : Bool). if w then Some FileTooBig else None) k.1
kept_allowed limit true false false old bare big d n b h = absurd (cc (h))
kept_allowed limit false y true old bare big d n b h = absurd (cc (h))
kept_allowed limit false y false old bare true d n b h = absurd (cc (h))
kept_allowed limit false y false old bare false d n b h = ap (λ (w : Bool). if w then Some IsDir else (if is_last_of_big limit old then Some FileTooBig else None)) d
    ∙ ap (λ (w : Bool). if w then Some FileTooBig else None) (b refl)

not_file : (kind : NodeKind) → is_dir kind ≡ true → is_file kind ≡ false
not_file Dir h = refl
not_file File h = absurd (cc (h))
not_file Link h = absurd (cc (h))
not_file Other h = absurd (cc (h))

-- ---- an empty directory

abbrev told : Result Held Refusal → Result (Unit {0}) Refusal
told r = and_then r (λ it. Ok tt)

abbrev fine : Result (Unit {0}) Refusal
fine = Ok tt

bare_ok : (at : Held) (node : tree.Node (List ℕ) NameEntry) → told (bare_at at node) ≡ fine → bare_at at node ≡ Ok at
bare_ok at (Leaf []) h = refl
bare_ok at (Leaf (e ∷ es)) h = absurd (cc (h))
bare_ok at (Inner cs) h = absurd (cc (h))
bare_ok at (Broken rule) h = absurd (cc (h))

bare_err : (r : Result Held Refusal) (why : Refusal) → told r ≡ Err why → r ≡ Err why
bare_err (Ok it) why h = absurd (cc (h))
bare_err (Err w) why h = cc (h)

-- what is told of a root
pub bare_told : (blocks : ℕ) (there : Held) → bare_at there (root_node blocks (root_of there.inode)) ≡ Ok there → fine ≡ bare_check blocks there
bare_told blocks there h = sym (ap told h)

pub full_told : (blocks : ℕ) (there : Held) (why : Refusal) → bare_at there (root_node blocks (root_of there.inode)) ≡ Err why → Err why ≡ bare_check blocks there
full_told blocks there why h = sym (ap told h)

full_is : (x : Bool) → x ≡ false → not x ≡ true
full_is false h = refl
full_is true h = absurd (true≢false h)

one_list : {E : Type 0} {F : Type 0} {xs ys : List E} (r : Result (List E) F) → r ≡ Ok xs → r ≡ Ok ys → ys ≡ xs
one_list r h k = cc (h, k)

module _ (blocks : ℕ) (pages : ℕ → List ℕ) (t : Tree) (limit : ℕ) (object there : Held) (inside : Bool) (old : IsNodeOf blocks pages t there) where
  big_is : has_names there.inode ≡ false → is_last_of_big limit old.node ≡ call.is_last_of_big limit there.inode
  big_is e = old.big e limit

  entries : has_names there.inode ≡ true → (w : Refusal) → bare_check blocks there ≡ Err w → (w ≡ NotEmpty) × (has_entries old.node ≡ true)
  entries dir w h = let k = bare_err (bare_at there (root_node blocks (root_of there.inode))) w h in (
    is_not_empty blocks pages there (root_of there.inode) old.node.names (old.names dir) w k,
    full_is (length old.node.names == 0) (has_some blocks pages there (root_of there.inode) old.node.names (old.names dir) w k),
  )

  no_entries : has_names there.inode ≡ true → bare_check blocks there ≡ Ok tt → (has_entries old.node ≡ false) × (is_last_of_big limit old.node ≡ false)
  no_entries dir h = (
    ap (λ (es : List NameEntry). not (length es == 0)) (one_list (spells_names blocks pages (root_of there.inode)) (bare_spelled blocks pages there (root_of there.inode) (bare_ok there (root_node blocks (root_of there.inode)) h)) (old.names dir)),
    ap (λ (x : Bool). x && nat_le old.node.links 1 && nat_lt limit old.node.size) (not_file old.node.kind (old.dir ∙ dir)),
  )

  pub over_refused : (why : Refusal) → over_check blocks limit object there inside ≡ Err why → why_kept limit (has_names object.inode) inside old.node ≡ Some why
  over_refused why h = kept_refused limit (has_names object.inode) inside (has_names there.inode) old.node (bare_check blocks there) (call.is_last_of_big limit there.inode) why old.dir entries big_is h

  pub over_allowed : over_check blocks limit object there inside ≡ Ok tt → why_kept limit (has_names object.inode) inside old.node ≡ None
  over_allowed h = kept_allowed limit (has_names object.inode) inside (has_names there.inode) old.node (bare_check blocks there) (call.is_last_of_big limit there.inode) old.dir no_entries big_is h

-- only a directory can come below itself
pub kept_inside : (limit : ℕ) (by_dir x y : Bool) (old : Node) → (by_dir ≡ true → x ≡ y) → why_kept limit by_dir x old ≡ why_kept limit by_dir y old
kept_inside limit true x y old h = ap (λ (z : Bool). why_kept limit true z old) (h refl)
kept_inside limit false x y old h = refl
