-- Renames keep a tree consistent.
use Rattle.std.proofs.Common.{◌≡◌, ◌≢◌, ◌≤◌, ◌<◌, refl, sym, ap, ◌∙◌, subst, ℕ, ◌+◌, ◌==◌, ◌||◌, not, nat_le, Bool, true, false, true≢false, eq-eqb, ne_eqb, eqb-true, if◌then◌else◌, List, [], ◌∷◌, length, Option, Some, None, is_some, inl, inr, arith}
use Rattle.std.specs.Prelude.{option_map}
use Rattle.std.proofs.lemmas.Bool.{cases_lt}
use Rattle.jfs_bits.specs.declared.descriptor.Moment.{Moment}
use Rattle.jfs_name.specs.declared.name.NameEntry.{NameEntry}
use Rattle.jfs_name.specs.Directory.{named, place_of, place_for, set_inode}
use Rattle.jfs_plain.specs.Tree.{Tree, root, is_dir, Place, at_place}
use Rattle.jfs_plain.specs.Moves.{gains, leads, rises, falls, stamped, changed, dropped, unnamed, shifts, displaced}
use Rattle.jfs_plain.specs.Step.{entry_as, gained, departs}
use Rattle.jfs_plain.specs.declared.node.Node.{Node}
use Rattle.jfs_xtree.specs.page_tree.specs.Edit.{count_in}
use Rattle.jfs_objects.specs.Owners.{bit}
use Rattle.jfs_objects.proofs.Sums.{eq_or_not}
use Rattle.jfs_meaning.specs.Consistent.{leading_to, names_in, names_for, names_to, is_directory, subdirectories, MayBeNamed, HasItsName, IsConsistentTree}
use Rattle.jfs_meaning.proofs.Books.{number_of, Books, Changes, open_books, close_books, changed_books, counted, charge, is_it}
use Rattle.jfs_meaning.proofs.Appear.{goes}
use Rattle.jfs_meaning.proofs.Moves.{changed_here, changed_other, kept, takes, swaps}
use Rattle.jfs_meaning.proofs.Found.{IsDirectoryAt, IsAmong}
use Rattle.jfs_meaning.proofs.Reached.{IsReached, not_reserved, at_among, at_leads}
use Rattle.jfs_meaning.proofs.Makes.{none, only, no_loose, number_is}
use Rattle.jfs_meaning.proofs.Unlinks.{risen, fallen, unnamed_books}
use Rattle.jfs_meaning.proofs.Departs.{still_named, still_set, by_names, some_at, departs_books, departs_there, settled}

module _ (most : ℕ) (t : Tree) (c : IsConsistentTree most t) (n : ℕ) (o : Node) (was : t.nodes n ≡ Some o) (p : Place) (dp : IsDirectoryAt t p.dir) (at : at_place t p ≡ Some n) (reached : IsReached t p.dir) (q : Place) (dq : IsDirectoryAt t q.dir) (now : Moment) where
  may : MayBeNamed t n
  may = c.names p.dir n (at_leads t p dp n at)

  only_root : only n root ≡ false
  only_root = ne_eqb root n (λ e. (let l = may.0 in absurd (omega (arith, l, e))))

  named_there : named p.name (names_in (t.nodes p.dir)) ≡ Some n
  named_there = sym (by_names (t.nodes p.dir) p.name) ∙ at

  some_links : 0 < dp.node.links
  some_links = let h = c.links p.dir dp.node dp.there (not_reserved t p.dir reached) in let e = ap (λ (x : Bool). if x then 2 + subdirectories t dp.node.names else names_to most t p.dir) dp.dir in omega (arith, h, e)

  one : is_it n n ≡ 1
  one = ap number_of (eq-eqb n n refl)

  -- the one name that a directory has
  only_name : (k : ℕ) (x : Node) → t.nodes k ≡ Some x → is_dir x.kind ≡ true → (r : Place) (d : IsDirectoryAt t r.dir) → at_place t r ≡ Some k → (wh : ℕ) → names_for t wh k ≡ bit (wh == r.dir)
  only_name k x there dir r d at wh = c.parents k x there dir late wh ∙ ap (λ (j : ℕ). bit (wh == j)) (sym parent)
    where
      late : 4 ≤ k
      late = (c.names r.dir k (at_leads t r d k at)).0

      parent : r.dir ≡ x.parent
      parent = elim (eq_or_not r.dir x.parent) [
        | inl e ↦ e
        | inr e ↦ absurd (let h = c.parents k x there dir late r.dir in let l = at_leads t r d k at in let z = ap bit (ne_eqb r.dir x.parent e) in omega (arith, h, l, z))
      ]

  charge_file : (d : ℕ) → is_dir o.kind ≡ false → charge t d n ≡ n
  charge_file d file = ap (λ (x : Bool). if x then d else n) (ap is_directory was ∙ file)

  charge_dir : (d : ℕ) → is_dir o.kind ≡ true → charge t d n ≡ d
  charge_dir d dir = ap (λ (x : Bool). if x then d else n) (ap is_directory was ∙ dir)

  -- ---- a new name

  module _ (loose : ℕ → Bool) (root_stays : loose root ≡ false) (free : is_dir o.kind ≡ true → loose n ≡ true) where
    gets : Changes t (gained q n now t) loose q.dir dq.node (gains (entry_as q.name n) now dq.node) None (Some n) [] []
    gets = takes t loose q.dir dq.node dq.there dq.dir q.name n now may (λ e. free (sym (ap is_directory was) ∙ e))

    got : Books most loose (gained q n now t) (charge t q.dir n ∷ []) []
    got = changed_books most loose loose t (gained q n now t) [] [] (open_books loose c) q.dir dq.node (gains (entry_as q.name n) now dq.node) None (Some n) [] [] gets root_stays (λ k e. e)

    got_count : (wh : ℕ) → names_for (gained q n now t) wh n ≡ names_for t wh n + bit (wh == q.dir)
    got_count wh = (let h = counted t (gained q n now t) loose q.dir dq.node (gains (entry_as q.name n) now dq.node) None (Some n) [] [] gets wh n in let i = one in by (wh == q.dir) h i)
      where
        by : (x : Bool) → names_for (gained q n now t) wh n + (if x then 0 else 0) ≡ names_for t wh n + (if x then is_it n n else 0) → is_it n n ≡ 1 → names_for (gained q n now t) wh n ≡ names_for t wh n + bit x
        by true h i = omega (arith, h, i)
        by false h i = omega (arith, h)

  -- whatever is kept of each node
  gain_keeps : {X : Type 0} (g : Option Node → X) → ((x : Node) → g (Some (gains (entry_as q.name n) now x)) ≡ g (Some x)) → (k : ℕ) → g ((gained q n now t).nodes k) ≡ g (t.nodes k)
  gain_keeps g h k = kept t q.dir (gains (entry_as q.name n) now) g h k

  got_named : named p.name (names_in ((gained q n now t).nodes p.dir)) ≡ Some n
  got_named = elim (eq_or_not p.dir q.dir) [
    | inl e ↦ ap (λ (k : ℕ). named p.name (names_in ((gained q n now t).nodes k))) e ∙ ap (λ (x : Option Node). named p.name (names_in x)) (changed_here t q.dir (gains (entry_as q.name n) now) dq.node dq.there)
        ∙ still_named p.name (entry_as q.name n) dq.node.names (place_for q.name dq.node.names) (ap (λ (x : Option Node). named p.name (names_in x)) (sym dq.there ∙ ap t.nodes (sym e)) ∙ named_there)
    | inr e ↦ ap (λ (x : Option Node). named p.name (names_in x)) (changed_other t q.dir (gains (entry_as q.name n) now) p.dir e) ∙ named_there
  ]

  file_moves : is_dir o.kind ≡ false → IsConsistentTree most (departs n false p q.dir now (gained q n now t))
  file_moves file = close_books
      (departs_books most none (gained q n now t) (charge t q.dir n ∷ []) [] (got none refl (λ dir. absurd (true≢false (sym dir ∙ file)))) refl n false (gain_keeps is_some (λ x. refl) n ∙ ap is_some was)
      (gain_keeps is_directory (λ x. refl) n ∙ ap is_directory was ∙ file) no_loose p q.dir now (gain_keeps is_directory (λ x. refl) p.dir ∙ ap is_directory dp.there ∙ dp.dir) got_named)
      (λ k. ap (λ (j : ℕ). count_in k (j ∷ [])) (charge_file q.dir file ∙ sym (ap (λ (x : Bool). if x then p.dir else n) (gain_keeps is_directory (λ x. refl) n ∙ ap is_directory was ∙ file)))) (λ k x there dir l. no_loose)

  module _ (dir : is_dir o.kind ≡ true) where
    free_n : only n n ≡ true
    free_n = eq-eqb n n refl

    gotten : Books most (only n) (gained q n now t) (charge t q.dir n ∷ []) []
    gotten = got (only n) only_root (λ e. free_n)

    -- from a tree in which the two link counts are right, or will be
    module _ (u : Tree) (up down : List ℕ) (b : Books most (only n) u up down) (some_same : (k : ℕ) → is_some (u.nodes k) ≡ is_some ((gained q n now t).nodes k))
        (dir_same : (k : ℕ) → is_directory (u.nodes k) ≡ is_directory ((gained q n now t).nodes k)) (names_same : (k : ℕ) → names_in (u.nodes k) ≡ names_in ((gained q n now t).nodes k)) where
      there_n : is_some (u.nodes n) ≡ true
      there_n = some_same n ∙ gain_keeps is_some (λ x. refl) n ∙ ap is_some was

      kind_n : is_directory (u.nodes n) ≡ true
      kind_n = dir_same n ∙ gain_keeps is_directory (λ x. refl) n ∙ ap is_directory was ∙ dir

      dir_p : is_directory (u.nodes p.dir) ≡ true
      dir_p = dir_same p.dir ∙ gain_keeps is_directory (λ x. refl) p.dir ∙ ap is_directory dp.there ∙ dp.dir

      named_p : named p.name (names_in (u.nodes p.dir)) ≡ Some n
      named_p = ap (named p.name) (names_same p.dir) ∙ got_named

      two_names : (wh : ℕ) → names_for u wh n ≡ bit (wh == p.dir) + bit (wh == q.dir)
      two_names wh = ap (leading_to n) (names_same wh) ∙ got_count (only n) only_root (λ e. free_n) wh ∙ ap (λ (k : ℕ). k + bit (wh == q.dir)) (only_name n o was dir p dp at wh)

      directory_arrives : ((k : ℕ) → count_in k up ≡ count_in k (p.dir ∷ down)) → IsConsistentTree most (departs n true p q.dir now u)
      directory_arrives paid = close_books (departs_books most (only n) u up down b only_root n true there_n kind_n (λ e. free_n) p q.dir now dir_p named_p)
          (λ k. paid k ∙ sym (ap (λ (x : Bool). count_in k ((if x then p.dir else n) ∷ down)) kind_n))
          (λ k x there is l e. subst (λ (j : ℕ). HasItsName (departs n true p q.dir now u) j x) (sym (eqb-true k n e))
          (settled most (only n) u up down b only_root n true there_n kind_n (λ e. free_n) p q.dir now dir_p named_p refl two_names x (sym (ap (departs n true p q.dir now u).nodes (eqb-true k n e)) ∙ there)))

    directory_moves : IsConsistentTree most (departs n true p q.dir now (shifts true p.dir q.dir (gained q n now t)))
    directory_moves = by (p.dir == q.dir) refl
      where
        still : {X : Type 0} (g : Option Node → X) → ((x : Node) → g (Some (rises x)) ≡ g (Some x)) → ((x : Node) → g (Some (falls x)) ≡ g (Some x)) → (k : ℕ) → g ((changed p.dir falls (changed q.dir rises (gained q n now t))).nodes k) ≡ g ((gained q n now t).nodes k)
        still g r f k = kept (changed q.dir rises (gained q n now t)) p.dir falls g f k ∙ kept (gained q n now t) q.dir rises g r k

        by : (x : Bool) → (p.dir == q.dir) ≡ x → IsConsistentTree most (departs n true p q.dir now (if not x then changed p.dir falls (changed q.dir rises (gained q n now t)) else gained q n now t))
        by true e = directory_arrives (gained q n now t) (charge t q.dir n ∷ []) [] gotten (λ k. refl) (λ k. refl) (λ k. refl) (λ k. ap (λ (j : ℕ). count_in k (j ∷ [])) (charge_dir q.dir dir ∙ sym (eqb-true p.dir q.dir e)))
        by false e =
            let up = changed q.dir rises (gained q n now t) in
            let apart = λ (s : p.dir ≡ q.dir). absurd (true≢false (sym (eq-eqb p.dir q.dir s) ∙ e)) in
            let rose = risen most (only n) (gained q n now t) (charge t q.dir n ∷ []) [] gotten only_root q.dir (gains (entry_as q.name n) now dq.node) (changed_here t q.dir (gains (entry_as q.name n) now) dq.node dq.there) in
            let fell = fallen most (only n) up (charge t q.dir n ∷ []) (q.dir ∷ []) rose only_root p.dir dp.node (changed_other (gained q n now t) q.dir rises p.dir apart ∙ changed_other t q.dir (gains (entry_as q.name n) now) p.dir apart ∙ dp.there) some_links in
            directory_arrives (changed p.dir falls up) (p.dir ∷ charge t q.dir n ∷ []) (q.dir ∷ []) fell (still is_some (λ x. refl) (λ x. refl)) (still is_directory (λ x. refl) (λ x. refl)) (still names_in (λ x. refl) (λ x. refl))
            (λ k. ap (λ (j : ℕ). count_in k (p.dir ∷ j ∷ [])) (charge_dir q.dir dir))

  pub moves_free : IsConsistentTree most (departs n (is_dir o.kind) p q.dir now (shifts (is_dir o.kind) p.dir q.dir (gained q n now t)))
  moves_free = by (is_dir o.kind) refl
    where
      by : (x : Bool) → is_dir o.kind ≡ x → IsConsistentTree most (departs n x p q.dir now (shifts x p.dir q.dir (gained q n now t)))
      by true e = directory_moves e
      by false e = file_moves e

  -- ---- the name of another object

  module _ (old : ℕ) (x : Node) (there : t.nodes old ≡ Some x) (at_q : at_place t q ≡ Some old) (apart : old ≢ n) where
    abbrev pub led : Tree
    led = changed q.dir (leads q.name n now) t

    among_old : IsAmong q.name dq.node.names old
    among_old = at_among t q dq old at_q

    may_old : MayBeNamed t old
    may_old = c.names q.dir old (at_leads t q dq old at_q)

    lead_keeps : {X : Type 0} (g : Option Node → X) → ((y : Node) → g (Some (leads q.name n now y)) ≡ g (Some y)) → (k : ℕ) → g (led.nodes k) ≡ g (t.nodes k)
    lead_keeps g h k = kept t q.dir (leads q.name n now) g h k

    led_named : named p.name (names_in (led.nodes p.dir)) ≡ Some n
    led_named = elim (eq_or_not p.dir q.dir) [
      | inl e ↦ ap (λ (k : ℕ). named p.name (names_in (led.nodes k))) e ∙ ap (λ (y : Option Node). named p.name (names_in y)) (changed_here t q.dir (leads q.name n now) dq.node dq.there)
          ∙ ap (λ (y : Option NameEntry). named p.name (set_inode n dq.node.names (place_of q.name dq.node.names) y)) among_old.got
          ∙ still_set p.name n dq.node.names (place_of q.name dq.node.names) among_old.entry among_old.got (ap (λ (y : Option Node). named p.name (names_in y)) (sym dq.there ∙ ap t.nodes (sym e)) ∙ named_there)
      | inr e ↦ ap (λ (y : Option Node). named p.name (names_in y)) (changed_other t q.dir (leads q.name n now) p.dir e) ∙ named_there
    ]

    module _ (loose : ℕ → Bool) (root_stays : loose root ≡ false) (free : is_dir o.kind ≡ true → loose n ≡ true) (free_old : is_dir x.kind ≡ true → loose old ≡ true) where
      turned : Changes t led loose q.dir dq.node (leads q.name n now dq.node) (Some old) (Some n) [] []
      turned = swaps t loose q.dir dq.node dq.there dq.dir q.name old n now among_old may (λ e. free_old (sym (ap is_directory there) ∙ e)) (λ e. free (sym (ap is_directory was) ∙ e))

      led_books : Books most loose led (charge t q.dir n ∷ []) (charge t q.dir old ∷ [])
      led_books = changed_books most loose loose t led [] [] (open_books loose c) q.dir dq.node (leads q.name n now dq.node) (Some old) (Some n) [] [] turned root_stays (λ k e. e)

      led_count : (wh k : ℕ) → names_for led wh k + (if wh == q.dir then is_it k old else 0) ≡ names_for t wh k + (if wh == q.dir then is_it k n else 0)
      led_count wh k = counted t led loose q.dir dq.node (leads q.name n now dq.node) (Some old) (Some n) [] [] turned wh k

    module _ (file : is_dir o.kind ≡ false) (old_file : is_dir x.kind ≡ false) where
      not_q : old ≢ q.dir
      not_q e = absurd (true≢false (sym dq.dir ∙ ap is_directory (sym dq.there ∙ ap t.nodes (sym e) ∙ there) ∙ old_file))

      not_p : p.dir ≢ old
      not_p e = absurd (true≢false (sym dp.dir ∙ ap is_directory (sym dp.there ∙ ap t.nodes e ∙ there) ∙ old_file))

      led_file : Books most none led (n ∷ []) (old ∷ [])
      led_file = subst (λ (k : ℕ). Books most none led (k ∷ []) (old ∷ [])) (charge_file q.dir file)
          (subst (λ (k : ℕ). Books most none led (charge t q.dir n ∷ []) (k ∷ [])) (ap (λ (y : Bool). if y then q.dir else old) (ap is_directory there ∙ old_file))
          (led_books none refl (λ e. absurd (true≢false (sym e ∙ file))) (λ e. absurd (true≢false (sym e ∙ old_file)))))

      abbrev pub left : Tree
      left = unnamed old x.links now led

      left_books : Books most none left (old ∷ n ∷ []) (old ∷ [])
      left_books = unnamed_books most none led (n ∷ []) [] old led_file refl x (changed_other t q.dir (leads q.name n now) old not_q ∙ there) old_file may_old.0
          (ap (λ (y : Bool). (if y then 1 else 0) + 0) (ne_eqb n old (λ e. apart (sym e)))) refl now

      left_other : (k : ℕ) → k ≢ old → left.nodes k ≡ led.nodes k
      left_other k e = by (nat_le x.links 1)
        where
          by : (y : Bool) → (if y then dropped old led else changed old (stamped now) (changed old falls led)).nodes k ≡ led.nodes k
          by true = ap (λ (y : Bool). if y then None else led.nodes k) (ne_eqb old k (λ s. e (sym s)))
          by false = changed_other (changed old falls led) old (stamped now) k e ∙ changed_other led old falls k e

      kind_left : is_directory (left.nodes n) ≡ false
      kind_left = ap is_directory (left_other n (λ e. apart (sym e))) ∙ lead_keeps is_directory (λ y. refl) n ∙ ap is_directory was ∙ file

      replaces_file : IsConsistentTree most (departs n false p q.dir now left)
      replaces_file = close_books
          (departs_books most none left (old ∷ n ∷ []) (old ∷ []) left_books refl n false (ap is_some (left_other n (λ e. apart (sym e))) ∙ lead_keeps is_some (λ y. refl) n ∙ ap is_some was) kind_left no_loose p q.dir now
          (ap is_directory (left_other p.dir not_p) ∙ lead_keeps is_directory (λ y. refl) p.dir ∙ ap is_directory dp.there ∙ dp.dir) (ap (λ (y : Option Node). named p.name (names_in y)) (left_other p.dir not_p) ∙ led_named))
          (λ k. (let e = ap (λ (y : Bool). count_in k ((if y then p.dir else n) ∷ old ∷ [])) kind_left in omega (arith, e))) (λ k y there dir l. no_loose)

    module _ (dir : is_dir o.kind ≡ true) (old_dir : is_dir x.kind ≡ true) (empty : x.names ≡ []) where
      abbrev pub both : ℕ → Bool
      both k = k == n || k == old

      both_n : both n ≡ true
      both_n = ap (λ (y : Bool). y || n == old) (eq-eqb n n refl)

      both_old : both old ≡ true
      both_old = rw (eq-eqb old old refl) (or_true (old == n))
        where
          or_true : (y : Bool) → (y || true) ≡ true
          or_true true = refl
          or_true false = refl

      both_root : both root ≡ false
      both_root = rw (ne_eqb root n (λ e. (let l = may.0 in absurd (omega (arith, l, e)))), ne_eqb root old (λ e. (let l = may_old.0 in absurd (omega (arith, l, e))))) refl

      -- it has no names, so it is neither directory
      is_not : (d : ℕ) (y : Node) → t.nodes d ≡ Some y → 0 < length y.names → d ≢ old
      is_not d y at some e = absurd (let s = ap length (ap names_in (sym at ∙ ap t.nodes e ∙ there) ∙ empty) in omega (arith, s, some))

      old_not_p : p.dir ≢ old
      old_not_p = is_not p.dir dp.node dp.there (let w = (at_among t p dp n at).within in omega (arith, w))

      old_not_q : q.dir ≢ old
      old_not_q = is_not q.dir dq.node dq.there (let w = among_old.within in omega (arith, w))

      led_dir : Books most both led (charge t q.dir n ∷ []) (charge t q.dir old ∷ [])
      led_dir = led_books both both_root (λ e. both_n) (λ e. both_old)

      counts : (wh k : ℕ) → names_for led wh k + (if wh == q.dir then is_it k old else 0) ≡ names_for t wh k + (if wh == q.dir then is_it k n else 0)
      counts = led_count both both_root (λ e. both_n) (λ e. both_old)

      no_name : (wh : ℕ) → names_for led wh old ≡ 0
      no_name wh = by (wh == q.dir) (counts wh old) (only_name old x there old_dir q dq at_q wh)
        where
          is_old : is_it old old ≡ 1
          is_old = ap number_of (eq-eqb old old refl)

          is_not_old : is_it old n ≡ 0
          is_not_old = ap number_of (ne_eqb n old (λ e. apart (sym e)))

          by : (y : Bool) → names_for led wh old + (if y then is_it old old else 0) ≡ names_for t wh old + (if y then is_it old n else 0) → names_for t wh old ≡ bit y → names_for led wh old ≡ 0
          by true h s = let a = is_old in let z = is_not_old in omega (arith, h, s, a, z)
          by false h s = omega (arith, h, s)

      low : old < most
      low = elim (cases_lt old most) [ inl l ↦ l | inr l ↦ absurd (cc (c.within old l, there)) ]

      abbrev pub gone : Tree
      gone = dropped old led

      gone_here : gone.nodes old ≡ None
      gone_here = ap (λ (y : Bool). if y then None else led.nodes old) (eq-eqb old old refl)

      gone_other : (k : ℕ) → k ≢ old → gone.nodes k ≡ led.nodes k
      gone_other k e = ap (λ (y : Bool). if y then None else led.nodes k) (ne_eqb old k (λ s. e (sym s)))

      gone_books : Books most both gone (charge t q.dir n ∷ []) (charge t q.dir old ∷ [])
      gone_books = goes most both both led gone (charge t q.dir n ∷ []) (charge t q.dir old ∷ []) led_dir old may_old.0 low gone_other
          (ap names_in (changed_other t q.dir (leads q.name n now) old (λ e. old_not_q (sym e)) ∙ there) ∙ empty) (ap names_in gone_here) no_name (λ k e. e)
          (charge t q.dir n ∷ []) (charge t q.dir old ∷ []) (λ k e. (refl, refl)) gone_here

      gone_keeps : {X : Type 0} (g : Option Node → X) → ((y : Node) → g (Some (leads q.name n now y)) ≡ g (Some y)) → (k : ℕ) → k ≢ old → g (gone.nodes k) ≡ g (t.nodes k)
      gone_keeps g h k e = ap g (gone_other k e) ∙ lead_keeps g h k

      at_p : (y : Node) × (gone.nodes p.dir ≡ Some y)
      at_p = some_at gone p.dir (gone_keeps is_some (λ y. refl) p.dir old_not_p ∙ ap is_some dp.there)

      links_p : at_p.0.links ≡ dp.node.links
      links_p = number_is (sym (ap (option_map (λ (y : Node). y.links)) at_p.1) ∙ gone_keeps (option_map (λ (y : Node). y.links)) (λ y. refl) p.dir old_not_p ∙ ap (option_map (λ (y : Node). y.links)) dp.there)

      abbrev pub fewer : Tree
      fewer = changed p.dir falls gone

      fewer_books : Books most both fewer (p.dir ∷ charge t q.dir n ∷ []) (charge t q.dir old ∷ [])
      fewer_books = fallen most both gone (charge t q.dir n ∷ []) (charge t q.dir old ∷ []) gone_books both_root p.dir at_p.0 at_p.1 (let l = links_p in let s = some_links in omega (arith, l, s))

      fewer_keeps : {X : Type 0} (g : Option Node → X) → ((y : Node) → g (Some (falls y)) ≡ g (Some y)) → (k : ℕ) → g (fewer.nodes k) ≡ g (gone.nodes k)
      fewer_keeps g h k = kept gone p.dir falls g h k

      not_n : n ≢ old
      not_n e = apart (sym e)

      there_still : is_some (fewer.nodes n) ≡ true
      there_still = fewer_keeps is_some (λ y. refl) n ∙ gone_keeps is_some (λ y. refl) n not_n ∙ ap is_some was

      kind_still : is_directory (fewer.nodes n) ≡ true
      kind_still = fewer_keeps is_directory (λ y. refl) n ∙ gone_keeps is_directory (λ y. refl) n not_n ∙ ap is_directory was ∙ dir

      dir_still : is_directory (fewer.nodes p.dir) ≡ true
      dir_still = fewer_keeps is_directory (λ y. refl) p.dir ∙ gone_keeps is_directory (λ y. refl) p.dir old_not_p ∙ ap is_directory dp.there ∙ dp.dir

      named_still : named p.name (names_in (fewer.nodes p.dir)) ≡ Some n
      named_still = fewer_keeps (λ y. named p.name (names_in y)) (λ y. refl) p.dir ∙ ap (λ (y : Option Node). named p.name (names_in y)) (gone_other p.dir old_not_p) ∙ led_named

      two_left : (wh : ℕ) → names_for fewer wh n ≡ bit (wh == p.dir) + bit (wh == q.dir)
      two_left wh = fewer_keeps (λ y. leading_to n (names_in y)) (λ y. refl) wh ∙ in_gone ∙ by (wh == q.dir) (counts wh n) (only_name n o was dir p dp at wh)
        where
          is_not_n : is_it n old ≡ 0
          is_not_n = ap number_of (ne_eqb old n apart)

          in_gone : names_for gone wh n ≡ names_for led wh n
          in_gone = elim (eq_or_not wh old) [
            | inl e ↦ ap (λ (k : ℕ). names_for gone k n) e ∙ ap (λ (y : Option Node). leading_to n (names_in y)) gone_here
                ∙ sym (ap (λ (k : ℕ). names_for led k n) e ∙ ap (leading_to n) (ap names_in (changed_other t q.dir (leads q.name n now) old (λ s. old_not_q (sym s)) ∙ there) ∙ empty))
            | inr e ↦ ap (λ (y : Option Node). leading_to n (names_in y)) (gone_other wh e)
          ]

          by : (y : Bool) → names_for led wh n + (if y then is_it n old else 0) ≡ names_for t wh n + (if y then is_it n n else 0) → names_for t wh n ≡ bit (wh == p.dir) → names_for led wh n ≡ bit (wh == p.dir) + bit y
          by true h s = let a = one in let z = is_not_n in omega (arith, h, s, a, z)
          by false h s = omega (arith, h, s)

      abbrev pub after : Tree
      after = departs n true p q.dir now fewer

      after_there : (k : ℕ) → is_some (after.nodes k) ≡ is_some (fewer.nodes k)
      after_there = departs_there most both fewer (p.dir ∷ charge t q.dir n ∷ []) (charge t q.dir old ∷ []) fewer_books both_root n true there_still kind_still (λ e. both_n) p q.dir now dir_still named_still

      name_right : (k : ℕ) (y : Node) → after.nodes k ≡ Some y → is_dir y.kind ≡ true → 4 ≤ k → both k ≡ true → HasItsName after k y
      name_right k y at is l e = elim (eq_or_not k n) [
        | inl s ↦ subst (λ (j : ℕ). HasItsName after j y) (sym s) (settled most both fewer (p.dir ∷ charge t q.dir n ∷ []) (charge t q.dir old ∷ []) fewer_books both_root n true there_still kind_still (λ e. both_n) p q.dir now dir_still named_still
            refl two_left y (sym (ap after.nodes s) ∙ at))
        | inr s ↦ absurd (true≢false (sym (ap is_some at) ∙ ap (λ (j : ℕ). is_some (after.nodes j)) (eqb-true k old (sym (ap (λ (z : Bool). z || k == old) (ne_eqb k n s)) ∙ e)) ∙ after_there old ∙ fewer_keeps is_some (λ y. refl) old ∙ ap is_some gone_here))
      ]

      replaces_directory : IsConsistentTree most after
      replaces_directory = close_books
          (departs_books most both fewer (p.dir ∷ charge t q.dir n ∷ []) (charge t q.dir old ∷ []) fewer_books both_root n true there_still kind_still (λ e. both_n) p q.dir now dir_still named_still)
          (λ k. (let a = ap (λ (y : Bool). count_in k ((if y then p.dir else n) ∷ charge t q.dir old ∷ [])) kind_still in let b = charge_dir q.dir dir in let d = ap (λ (y : Bool). if y then q.dir else old) (ap is_directory there ∙ old_dir) in
          let e = ap (λ (j : ℕ). count_in k (p.dir ∷ j ∷ [])) b in let f = ap (λ (j : ℕ). count_in k (p.dir ∷ j ∷ [])) d in e ∙ sym (a ∙ f)))
          name_right

    pub moves_over : is_dir x.kind ≡ is_dir o.kind → (is_dir o.kind ≡ true → x.names ≡ []) → IsConsistentTree most (departs n (is_dir o.kind) p q.dir now (displaced old (is_dir o.kind) x.links p.dir now led))
    moves_over same empty = by (is_dir o.kind) refl
      where
        by : (y : Bool) → is_dir o.kind ≡ y → IsConsistentTree most (departs n y p q.dir now (if y then changed p.dir falls (dropped old led) else unnamed old x.links now led))
        by true e = replaces_directory e (same ∙ e) (empty e)
        by false e = replaces_file e (same ∙ e)
