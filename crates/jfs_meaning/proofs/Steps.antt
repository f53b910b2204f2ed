-- Calls keep a tree consistent.
use Rattle.std.proofs.Common.{◌≡◌, ◌≤◌, ◌<◌, refl, sym, ap, ◌∙◌, ℕ, suc, ◌+◌, ◌==◌, ◌&&◌, ◌||◌, not, Bool, true, false, true≢false, eq-eqb, if◌then◌else◌, List, [], ◌∷◌, length, Option, Some, None, Result, Ok, Err, inl, inr, arith}
use Rattle.std.specs.Prelude.{replicate, nat_lt, max}
use Rattle.std.proofs.lemmas.Bool.Decides.{nat_tests}
use Rattle.jfs_bits.specs.declared.descriptor.Moment.{Moment}
use Rattle.jfs_name.specs.declared.name.NameEntry.{NameEntry}
use Rattle.jfs_plain.specs.Tree.{Tree, is_dir, is_file, is_link, and_then, Found, object, Place, place, at_place, new_place, passes}
use Rattle.jfs_plain.specs.Moves.{stamped, permits, sized, leads, rises, falls, changed, made, dropped, unnamed, displaced, shifts, filled, cut, new_directory, new_file, new_link}
use Rattle.jfs_plain.specs.Step.{Room, gained, lost, blocks_in, Outcome, refuse, with_fresh, unless, within_limit, size_after, makes, has_names, if_file, file, is_last_of_big, is_full, is_short, is_deep, links_of, found_of, node_of, occupant, why_barred, why_kept, departs, renamed, mkdir, link, unlink, rmdir, rename, chmod, write, truncate, outcome, Answers}
use Rattle.jfs_plain.specs.declared.call.Call.{Call}
use Rattle.jfs_plain.specs.declared.call.Call.TheVariants as calls
use Rattle.jfs_plain.specs.declared.node.Node.{Node}
use Rattle.jfs_plain.specs.declared.refusal.Refusal.{Refusal}
use Rattle.jfs_plain.specs.declared.refusal.Refusal.TheVariants.{IsDir, NotDir, NotFile, NotEmpty, TooManyLinks, FileTooBig, IntoItself, NoSpace, TooDeep}
use Rattle.jfs_plain.specs.declared.reply.Reply.{Reply}
use Rattle.jfs_plain.specs.declared.reply.Reply.TheVariants.{Done, Names, Target}
use Rattle.jfs_meaning.specs.Consistent.{is_directory, MayBeNamed, IsConsistentTree}
use Rattle.jfs_meaning.specs.Laws.{IsFresh, StepLaw}
use Rattle.jfs_meaning.proofs.Books.{open_books, close_books}
use Rattle.jfs_meaning.proofs.Same.{same_consistent}
use Rattle.jfs_meaning.proofs.Found.{fine, object_there, place_there, object_at, new_there}
use Rattle.jfs_meaning.proofs.Reached.{IsReached, place_reached, object_reached}
use Rattle.jfs_meaning.proofs.Moves.{changed_here}
use Rattle.jfs_meaning.proofs.Makes.{none, no_loose, file_comes, directory_comes}
use Rattle.jfs_meaning.proofs.Unlinks.{touched, linked, unlinked, removed}
use Rattle.jfs_meaning.proofs.Renames.{moves_free, moves_over}

-- what is done leaves a consistent tree
abbrev Leaves : ℕ → Outcome → Type 0
Leaves most (Ok done) = IsConsistentTree most done.1
Leaves most (Err why) = Unit {0}

record Keeps (most : ℕ) (out : Outcome) : Type 0 where
  pub left : Leaves most out

bare : (es : List NameEntry) → not (length es == 0) ≡ false → es ≡ []
bare [] h = refl
bare (e ∷ es) h = absurd (true≢false (sym (ap not (some (length es))) ∙ h))
  where
    some : (n : ℕ) → (suc n == 0) ≡ false
    some n = grind (arith, nat_tests)

module _ (most : ℕ) where
  done : {reply : Reply} {u : Tree} → IsConsistentTree most u → Keeps most (Ok (reply, u))
  done c = record { left = c }

  refused : {why : Refusal} → Keeps most (Err why)
  refused = record { left = tt }

  after : {X : Type 0} (r : Result X Refusal) (f : X → Outcome) → ((x : X) → r ≡ Ok x → Keeps most (f x)) → Keeps most (and_then r f)
  after {X = X} r f h = by r h
    where
      by : (r : Result X Refusal) → ((x : X) → r ≡ Ok x → Keeps most (f x)) → Keeps most (and_then r f)
      by (Ok x) h = h x refl
      by (Err why) h = refused

  past : (cause : Bool) (why : Refusal) (rest : Outcome) → (cause ≡ false → Keeps most rest) → Keeps most (refuse cause why rest)
  past true why rest h = refused
  past false why rest h = h refl

  without : (o : Option Refusal) (rest : Outcome) → (o ≡ None → Keeps most rest) → Keeps most (unless o rest)
  without None rest h = h refl
  without (Some why) rest h = refused

  fitting : (o : Option ℕ) (f : ℕ → Outcome) → ((size : ℕ) → Keeps most (f size)) → Keeps most (within_limit o f)
  fitting None f h = refused
  fitting (Some size) f h = h size

  -- what is done where there is room for a name
  abbrev spaced : Room → Place → Tree → Outcome
  spaced room p u = refuse (is_short room 8) (NoSpace room.free) (refuse (is_deep room p) (TooDeep p.dir) (Ok (Done, u)))

  has_space : (room : Room) (p : Place) (u : Tree) → IsConsistentTree most u → Keeps most (spaced room p u)
  has_space room p u c = past (is_short room 8) (NoSpace room.free) (refuse (is_deep room p) (TooDeep p.dir) (Ok (Done, u))) (λ _. past (is_deep room p) (TooDeep p.dir) (Ok (Done, u)) (λ _. done c))

  module _ (t : Tree) (c : IsConsistentTree most t) where
    -- changes of one node that leave what counts
    restyled : (n : ℕ) (o : Node) (f : Node → Node) → t.nodes n ≡ Some o → (f o).names ≡ o.names → is_dir (f o).kind ≡ is_dir o.kind → (f o).parent ≡ o.parent → (f o).links ≡ o.links → IsConsistentTree most (changed n f t)
    restyled n o f there names kind parent links = close_books (touched most none t [] [] (open_books none c) refl n o there f names kind (λ a. parent) links) (λ k. refl) (λ k x there dir l. no_loose)

    found_file : (path : List (List ℕ)) (o : Found) → file t path ≡ Ok o → object t path ≡ Ok o
    found_file path o h = by (object t path) h
      where
        at : (x : Found) (d f : Bool) → (if d then Err IsDir else if not f then Err NotFile else Ok x) ≡ Ok o → fine x ≡ fine o
        at x true f h = absurd (cc (h))
        at x false true h = h
        at x false false h = absurd (cc (h))

        by : (r : Result Found Refusal) → and_then r if_file ≡ Ok o → r ≡ Ok o
        by (Ok x) h = at x (is_dir x.node.kind) (is_file x.node.kind) h
        by (Err why) h = absurd (cc (h))

    -- a file that isn't the root may have a name
    named_file : (path : List (List ℕ)) (o : Found) → object t path ≡ Ok o → is_dir o.node.kind ≡ false → MayBeNamed t o.inode
    named_file path o h file = by (object_reached t c.names path o h)
      where
        by : IsReached t o.inode → MayBeNamed t o.inode
        by (inr m) = m
        by (inl e) = absurd (true≢false (sym (ap is_directory (sym (object_there t path o h) ∙ ap t.nodes e ∙ c.top.1.there) ∙ c.top.1.directory) ∙ file))

    module _ (room : Room) (fresh : IsFresh most t room.inode) where
      with_new : (f : ℕ → Outcome) → ((n : ℕ) → 4 ≤ n → n < most → t.nodes n ≡ None → Keeps most (f n)) → Keeps most (with_fresh room.inode f)
      with_new f h = by room.inode fresh
        where
          by : (o : Option ℕ) → IsFresh most t o → Keeps most (with_fresh o f)
          by None h = refused
          by (Some n) fit = h n fit.0 fit.1 fit.2

      -- a new object
      abbrev made_of : Place → Moment → Node → (Tree → Tree) → ℕ → Outcome
      made_of p now o more n = refuse (is_deep room p) (TooDeep p.dir) (Ok (Done, more (gained p n now (made n o t))))

      making : (p : Place) (now : Moment) (o : Node) (more : Tree → Tree) → ((n : ℕ) → 4 ≤ n → n < most → t.nodes n ≡ None → IsConsistentTree most (more (gained p n now (made n o t)))) → Keeps most (makes room p now o more t)
      making p now o more h = past (is_short room 12) (NoSpace room.free) (with_fresh room.inode (made_of p now o more)) (λ _. with_new (made_of p now o more) (λ n late low absent. past (is_deep room p) (TooDeep p.dir) (Ok (Done, more (gained p n now (made n o t)))) (λ _. done (h n late low absent))))

      -- a file or a link at a new place
      puts_file : (path : List (List ℕ)) (o : Node) (now : Moment) → o.names ≡ [] → is_dir o.kind ≡ false → o.links ≡ 1 → Keeps most (and_then (new_place t path) (λ p. makes room p now o (λ u. u) t))
      puts_file path o now bare file one = after (new_place t path) _ (λ p at. making p now o (λ u. u) (λ n late low absent. file_comes most t c n late low absent o bare file one p (new_there t path p at).dir now))

      puts_directory : (path : List (List ℕ)) (mode : ℕ) (now : Moment) → Keeps most (mkdir room t path mode now)
      puts_directory path mode now = after (new_place t path) _ (λ p at. past (is_full (links_of t p.dir)) TooManyLinks (makes room p now (new_directory mode p.dir now) (λ u. changed p.dir rises u) t) (λ _.
          making p now (new_directory mode p.dir now) (λ u. changed p.dir rises u) (λ n late low absent. directory_comes most t c n late low absent mode p (new_there t path p at).dir now)))

      abbrev one_more : Found → Moment → Place → Tree
      one_more o now p = changed o.inode (stamped now) (changed o.inode rises (gained p o.inode now t))

      abbrev linked_at : Found → Moment → Place → Outcome
      linked_at o now p = refuse (is_full o.node.links) TooManyLinks (spaced room p (one_more o now p))

      links : (from to : List (List ℕ)) (now : Moment) → Keeps most (link room t from to now)
      links from to now = after (object t from) _ (λ o is. past (is_dir o.node.kind) IsDir (and_then (new_place t to) (linked_at o now)) (λ file. after (new_place t to) (linked_at o now) (λ p at. past (is_full o.node.links) TooManyLinks (spaced room p (one_more o now p)) (λ _.
          has_space room p (one_more o now p) (linked most t c o.inode o.node (object_there t from o is) file (named_file from o is file) p (new_there t to p at).dir now)))))

      unlinks : (path : List (List ℕ)) (now : Moment) → Keeps most (unlink room t path now)
      unlinks path now = after (object t path) _ (λ o is. past (is_dir o.node.kind) IsDir (refuse (is_last_of_big room.limit o.node) FileTooBig (and_then (place t path) (λ p. Ok (Done, unnamed o.inode o.node.links now (lost p now t))))) (λ file.
          past (is_last_of_big room.limit o.node) FileTooBig (and_then (place t path) (λ p. Ok (Done, unnamed o.inode o.node.links now (lost p now t)))) (λ _. after (place t path) _ (λ p at.
          done (unlinked most t c o.inode o.node (object_there t path o is) p (place_there t path p at) (object_at t path p o at is) now file)))))

      abbrev longer : ℕ → List ℕ → Moment → Found → ℕ → Tree
      longer offset new now o size = changed o.inode (sized size now) (filled o.inode offset new t)

      abbrev written_to : ℕ → List ℕ → Moment → Found → ℕ → Outcome
      written_to offset new now o size = refuse (is_short room (blocks_in offset (length new) + 8)) (NoSpace room.free) (Ok (Done, longer offset new now o size))

      restyled_file : (offset : ℕ) (new : List ℕ) (now : Moment) (o : Found) (size : ℕ) → t.nodes o.inode ≡ Some o.node → IsConsistentTree most (longer offset new now o size)
      restyled_file offset new now o size there = same_consistent most (changed o.inode (sized size now) t) (longer offset new now o size) (λ n. refl)
          (restyled o.inode o.node (sized size now) there refl refl refl refl)

      writes : (path : List (List ℕ)) (offset : ℕ) (new : List ℕ) (now : Moment) → Keeps most (write room t path offset new now)
      writes path offset new now = after (file t path) _ (λ o is. fitting (size_after room.limit o.node.size (offset + length new)) (written_to offset new now o) (λ size. past (is_short room (blocks_in offset (length new) + 8)) (NoSpace room.free) (Ok (Done, longer offset new now o size)) (λ _.
          done (restyled_file offset new now o size (object_there t path o (found_file path o is))))))

      truncates : (path : List (List ℕ)) (size : ℕ) (now : Moment) → Keeps most (truncate room t path size now)
      truncates path size now = after (file t path) _ (λ o is. past (nat_lt room.limit (max o.node.size size)) FileTooBig (Ok (Done, changed o.inode (sized size now) (cut o.inode size t))) (λ _.
          done (same_consistent most (changed o.inode (sized size now) t) (changed o.inode (sized size now) (cut o.inode size t)) (λ n. refl)
          (restyled o.inode o.node (sized size now) (object_there t path o (found_file path o is)) refl refl refl refl))))

    abbrev gone : Moment → Found → Place → Outcome
    gone now o p = Ok (Done, dropped o.inode (changed p.dir falls (lost p now t)))

    abbrev gone_from : List (List ℕ) → Moment → Found → Outcome
    gone_from path now o = refuse (not (is_dir o.node.kind)) NotDir (refuse (has_names o.node) NotEmpty (and_then (place t path) (gone now o)))

    removes : (path : List (List ℕ)) (now : Moment) → Keeps most (rmdir t path now)
    removes path now = past (length path == 0) IntoItself (and_then (object t path) (gone_from path now)) (λ _. after (object t path) (gone_from path now) (λ o is. past (not (is_dir o.node.kind)) NotDir (refuse (has_names o.node) NotEmpty (and_then (place t path) (gone now o))) (λ dir.
        past (has_names o.node) NotEmpty (and_then (place t path) (gone now o)) (λ empty. after (place t path) (gone now o) (λ p at.
        done (removed most t c o.inode o.node (object_there t path o is) p (place_there t path p at) (object_at t path p o at is) now (is_true (is_dir o.node.kind) dir) (bare o.node.names empty) (place_reached t c.names path p at)))))))
      where
        is_true : (x : Bool) → not x ≡ false → x ≡ true
        is_true true h = refl
        is_true false h = absurd (cc (h))

    permits_mode : (path : List (List ℕ)) (mode : ℕ) (now : Moment) → Keeps most (chmod t path mode now)
    permits_mode path mode now = after (object t path) _ (λ o is.
        done (twice o mode now (restyled o.inode o.node (permits mode) (object_there t path o is) refl refl refl refl) (object_there t path o is)))
      where
        twice : (o : Found) (mode : ℕ) (now : Moment) → IsConsistentTree most (changed o.inode (permits mode) t) → t.nodes o.inode ≡ Some o.node → IsConsistentTree most (changed o.inode (stamped now) (changed o.inode (permits mode) t))
        twice o mode now d there = close_books (touched most none (changed o.inode (permits mode) t) [] [] (open_books none d) refl o.inode (permits mode o.node) (changed_here t o.inode (permits mode) o.node there) (stamped now) refl refl (λ a. refl) refl) (λ k. refl) (λ k x there dir l. no_loose)

    -- what stands at the place of a new name
    record Stands (q : Place) (old : Found) : Type 0 where
      pub at : at_place t q ≡ Some old.inode
      pub there : t.nodes old.inode ≡ Some old.node

    stands : (q : Place) (old : Found) → occupant t q ≡ Some old → Stands q old
    stands q old h = by (at_place t q) refl h
      where
        found_is : {x y : Found} → Some x ≡ Some y → x ≡ y
        found_is h = cc (h)

        with_node : (n : ℕ) (x : Option Node) → at_place t q ≡ Some n → t.nodes n ≡ x → found_of (Some n) x ≡ Some old → Stands q old
        with_node n None e f h = absurd (cc (h))
        with_node n (Some node) e f h = (let s = found_is h in record { at = e ∙ ap (λ (g : Found). Some g.inode) s; there = ap (λ (g : Found). t.nodes g.inode) (sym s) ∙ f ∙ ap (λ (g : Found). Some g.node) s })

        by : (x : Option ℕ) → at_place t q ≡ x → found_of x (node_of t x) ≡ Some old → Stands q old
        by None e h = absurd (cc (h))
        by (Some n) e h = with_node n (t.nodes n) e refl h

    -- one takes the name of another of its kind, which has no names
    same_kind : (b i d h : Bool) (r : Option Refusal) → (if b && i then Some IntoItself else if not b && d then Some IsDir else if b && not d then Some NotDir else if b && h then Some NotEmpty else r) ≡ None → (d ≡ b) × (b ≡ true → h ≡ false)
    same_kind true true d h r e = absurd (cc (e))
    same_kind true false true true r e = absurd (cc (e))
    same_kind true false true false r e = (refl, λ s. refl)
    same_kind true false false h r e = absurd (cc (e))
    same_kind false i true h r e = absurd (cc (e))
    same_kind false i false h r e = (refl, λ s. absurd (cc (s)))

    -- from one place to another
    module _ (room : Room) (from to : List (List ℕ)) (now : Moment) where
      abbrev freed : Found → Place → Place → Tree
      freed o p q = departs o.inode (is_dir o.node.kind) p q.dir now (shifts (is_dir o.node.kind) p.dir q.dir (gained q o.inode now t))

      abbrev taken : Found → Place → Place → Found → Tree
      taken o p q old = departs o.inode (is_dir o.node.kind) p q.dir now (displaced old.inode (is_dir o.node.kind) old.node.links p.dir now (changed q.dir (leads q.name o.inode now) t))

      over : (o : Found) → object t from ≡ Ok o → (p : Place) → place t from ≡ Ok p → (q : Place) → place t to ≡ Ok q → (old : Found) → Stands q old → (same : Bool) → (old.inode == o.inode) ≡ same
          → Keeps most (if same then Ok (Done, t) else (unless (why_kept room.limit (is_dir o.node.kind) (passes t to o.inode) old.node) (spaced room q (taken o p q old))))
      over o is p at q bt old s true e = done c
      over o is p at q bt old s false e = without (why_kept room.limit (is_dir o.node.kind) (passes t to o.inode) old.node) (spaced room q (taken o p q old)) (λ none. has_space room q (taken o p q old)
          (let k = same_kind (is_dir o.node.kind) (passes t to o.inode) (is_dir old.node.kind) (has_names old.node) (if is_last_of_big room.limit old.node then Some FileTooBig else None) none in
          moves_over most t c o.inode o.node (object_there t from o is) p (place_there t from p at) (object_at t from p o at is) (place_reached t c.names from p at) q (place_there t to q bt) now
          old.inode old.node s.there s.at (λ same. true≢false (sym (eq-eqb old.inode o.inode same) ∙ e)) k.0 (λ dir. bare old.node.names (k.1 dir))))

      by_occupant : (o : Found) → object t from ≡ Ok o → (p : Place) → place t from ≡ Ok p → (q : Place) → place t to ≡ Ok q → (x : Option Found) → occupant t q ≡ x
          → Keeps most (renamed room t o.inode (is_dir o.node.kind) (passes t to o.inode) p q now x)
      by_occupant o is p at q bt None e = without (why_barred (is_dir o.node.kind) (passes t to o.inode) (p.dir == q.dir) (links_of t q.dir)) (spaced room q (freed o p q)) (λ _. has_space room q (freed o p q)
          (moves_free most t c o.inode o.node (object_there t from o is) p (place_there t from p at) (object_at t from p o at is) (place_reached t c.names from p at) q (place_there t to q bt) now))
      by_occupant o is p at q bt (Some old) e = over o is p at q bt old (stands q old e) (old.inode == o.inode) refl

      abbrev to_place : Found → Place → Place → Outcome
      to_place o p q = renamed room t o.inode (is_dir o.node.kind) (passes t to o.inode) p q now (occupant t q)

      renames : Keeps most (rename room t from to now)
      renames = after (object t from) _ (λ o is. past (length from == 0 || length to == 0) IntoItself (and_then (place t from) (λ p. and_then (place t to) (to_place o p))) (λ _.
          after (place t from) (λ p. and_then (place t to) (to_place o p)) (λ p at. after (place t to) (to_place o p) (λ q bt. by_occupant o is p at q bt (occupant t q) refl))))

    kept_by : (room : Room) → IsFresh most t room.inode → (call : Call) (now : Moment) → Keeps most (outcome room t call now)
    kept_by room fresh (calls.Mkdir path mode) now = puts_directory room fresh path mode now
    kept_by room fresh (calls.Create path mode) now = puts_file room fresh path (new_file mode now) now refl refl refl
    kept_by room fresh (calls.Symlink path target) now = puts_file room fresh path (new_link target now) now refl refl refl
    kept_by room fresh (calls.Link from to) now = links room fresh from to now
    kept_by room fresh (calls.Unlink path) now = unlinks room fresh path now
    kept_by room fresh (calls.Rmdir path) now = removes path now
    kept_by room fresh (calls.Rename from to) now = renames room from to now
    kept_by room fresh (calls.Chmod path mode) now = permits_mode path mode now
    kept_by room fresh (calls.Write path offset bytes) now = writes room fresh path offset bytes now
    kept_by room fresh (calls.Fill path offset count byte) now = writes room fresh path offset (replicate count byte) now
    kept_by room fresh (calls.Truncate path size) now = truncates room fresh path size now
    kept_by room fresh (calls.Read path offset count) now = after (file t path) _ (λ o is. done c)
    kept_by room fresh (calls.Stat path) now = after (object t path) _ (λ o is. done c)
    kept_by room fresh (calls.List path) now = after (object t path) _ (λ o is. past (not (is_dir o.node.kind)) NotDir (Ok (Names o.node.names, t)) (λ _. done c))
    kept_by room fresh (calls.Readlink path) now = after (object t path) _ (λ o is. past (not (is_link o.node.kind)) NotFile (Ok (Target o.node.target, t)) (λ _. done c))
    kept_by room fresh calls.Sync now = done c

pub step_keeps : StepLaw
step_keeps most t u room call now reply c fresh step = by (outcome room t call now) (kept_by most t c room fresh call now) step
  where
    by : (out : Outcome) → Keeps most out → Answers t out reply u → IsConsistentTree most u
    by (Ok result) k s = same_consistent most result.1 u s.1.nodes k.left
    by (Err why) k s = same_consistent most t u s.1.nodes c
