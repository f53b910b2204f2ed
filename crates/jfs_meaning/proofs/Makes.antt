-- New objects keep a tree consistent.
use Rattle.std.proofs.Common.{◌≡◌, ◌≢◌, ◌≤◌, ◌<◌, refl, sym, ap, ◌∙◌, subst, ℕ, ◌+◌, ◌==◌, Bool, true, false, true≢false, eq-eqb, ne_eqb, eqb-true, if◌then◌else◌, List, [], ◌∷◌, Option, Some, None, is_some, inl, inr, arith}
use Rattle.std.specs.Prelude.{option_map}
use Rattle.jfs_bits.specs.declared.descriptor.Moment.{Moment}
use Rattle.jfs_plain.specs.Tree.{Tree, root, is_dir, Place}
use Rattle.jfs_plain.specs.Moves.{gains, rises, changed, made, new_directory}
use Rattle.jfs_plain.specs.Step.{entry_as, gained}
use Rattle.jfs_plain.specs.declared.node.Node.{Node}
use Rattle.jfs_xtree.specs.page_tree.specs.Edit.{count_in}
use Rattle.jfs_objects.specs.Owners.{bit}
use Rattle.jfs_objects.proofs.Sums.{zero_or_more, sum_zero}
use Rattle.jfs_meaning.specs.Consistent.{leading_to, names_in, names_for, names_to, is_directory, subdirectories, links_due, HasItsName, IsConsistentTree}
use Rattle.jfs_meaning.proofs.Books.{number_of, Books, Changes, open_books, close_books, changed_books, counted, charge, is_it, only_none, only_one}
use Rattle.jfs_meaning.proofs.Appear.{comes, same_names}
use Rattle.jfs_meaning.proofs.Moves.{changed_here, kept, takes, turns}
use Rattle.jfs_meaning.proofs.Found.{IsDirectoryAt}

-- no object is loose, or one
abbrev pub none : ℕ → Bool
none n = false

abbrev pub only : ℕ → ℕ → Bool
only n k = k == n

pub no_loose : {X : Type 0} → false ≡ true → X
no_loose h = absurd (cc (h))

-- a directory's name goes to its parent: it has one there, and none elsewhere
pub one_there : (t : Tree) (n dir : ℕ) (o : Node) → ((wh : ℕ) → names_for t wh n ≡ bit (wh == dir)) → o.parent ≡ dir → HasItsName t n o
one_there t n dir o h e wh = h wh ∙ ap (λ (k : ℕ). bit (wh == k)) (sym e)

abbrev pub parent_at : Option Node → Option ℕ
parent_at x = option_map (λ (o : Node). o.parent) x

pub number_is : {x y : ℕ} → Some x ≡ Some y → x ≡ y
number_is h = cc (h)

module _ (most : ℕ) (t : Tree) (c : IsConsistentTree most t) (n : ℕ) (late : 4 ≤ n) (low : n < most) (absent : t.nodes n ≡ None) where
  unnamed : (dir : ℕ) → names_for t dir n ≡ 0
  unnamed dir = elim (zero_or_more (names_for t dir n)) [ inl z ↦ z | inr l ↦ absurd (true≢false (sym (c.names dir n l).1 ∙ ap is_some absent)) ]

  root_not_only : only n root ≡ false
  root_not_only = ne_eqb root n (λ e. absurd (omega (arith, late, e)))

  module _ (o : Node) (bare : o.names ≡ []) where
    made_here : (made n o t).nodes n ≡ Some o
    made_here = ap (λ (x : Bool). if x then Some o else t.nodes n) (eq-eqb n n refl)

    made_other : (k : ℕ) → k ≢ n → (made n o t).nodes k ≡ t.nodes k
    made_other k e = ap (λ (x : Bool). if x then Some o else t.nodes k) (ne_eqb n k (λ s. e (sym s)))

    module _ (loose : ℕ → Bool) where
      open_it : Books most loose t [] []
      open_it = open_books loose c

      still_unnamed : (dir : ℕ) → names_for (made n o t) dir n ≡ 0
      still_unnamed dir = same_names most loose loose t (made n o t) [] [] open_it n late low made_other (ap names_in absent) (ap names_in made_here ∙ bare) unnamed (λ k e. e) dir n ∙ unnamed dir

      come : (owed : List ℕ) → o.links + 0 ≡ links_due most (made n o t) n o + count_in n owed → ((k : ℕ) → k ≢ n → count_in k owed ≡ 0) → (is_dir o.kind ≡ true → loose n ≡ true) → Books most loose (made n o t) [] owed
      come owed links rest free = comes most loose loose t (made n o t) [] [] open_it n late low made_other (ap names_in absent) (ap names_in made_here ∙ bare) unnamed (λ k e. e) o owed
          (record { is = made_here; bare = bare; links = links; rest = rest; free = free })

      -- it gets its name
      module _ (p : Place) (d : IsDirectoryAt t p.dir) (now : Moment) (owed : List ℕ) (b : Books most loose (made n o t) [] owed) (root_stays : loose root ≡ false) (free : is_dir o.kind ≡ true → loose n ≡ true) where
        apart : p.dir ≢ n
        apart e = absurd (cc (sym d.there, ap t.nodes e ∙ absent))

        dir_there : (made n o t).nodes p.dir ≡ Some d.node
        dir_there = made_other p.dir apart ∙ d.there

        named_now : Changes (made n o t) (gained p n now (made n o t)) loose p.dir d.node (gains (entry_as p.name n) now d.node) None (Some n) [] []
        named_now = takes (made n o t) loose p.dir d.node dir_there d.dir p.name n now (late, ap is_some made_here) (λ dir. free (sym (ap is_directory made_here) ∙ dir))

        pub with_name : Books most loose (gained p n now (made n o t)) (charge (made n o t) p.dir n ∷ []) owed
        with_name = changed_books most loose loose (made n o t) (gained p n now (made n o t)) [] owed b p.dir d.node (gains (entry_as p.name n) now d.node) None (Some n) [] [] named_now root_stays (λ k e. e)

        pub named_at : (wh : ℕ) → names_for (gained p n now (made n o t)) wh n ≡ bit (wh == p.dir)
        named_at wh = (let h = counted (made n o t) (gained p n now (made n o t)) loose p.dir d.node (gains (entry_as p.name n) now d.node) None (Some n) [] [] named_now wh n in let z = still_unnamed wh in by (wh == p.dir) h z)
          where
            one : is_it n n ≡ 1
            one = ap number_of (eq-eqb n n refl)

            by : (x : Bool) → names_for (gained p n now (made n o t)) wh n + (if x then 0 else 0) ≡ names_for (made n o t) wh n + (if x then is_it n n else 0) → names_for (made n o t) wh n ≡ 0 → names_for (gained p n now (made n o t)) wh n ≡ bit x
            by true h z = let i = one in omega (arith, h, z, i)
            by false h z = omega (arith, h, z)

  -- a file or a link
  pub file_comes : (o : Node) → o.names ≡ [] → is_dir o.kind ≡ false → o.links ≡ 1 → (p : Place) → IsDirectoryAt t p.dir → (now : Moment) → IsConsistentTree most (gained p n now (made n o t))
  file_comes o bare file one p d now = close_books (with_name o bare none p d now (n ∷ []) begun refl (λ dir. absurd (true≢false (sym dir ∙ file)))) (λ k. ap (λ (j : ℕ). count_in k (j ∷ [])) charged) (λ k x there dir l. no_loose)
    where
      due : links_due most (made n o t) n o ≡ 0
      due = ap (λ (x : Bool). if x then 2 + subdirectories (made n o t) o.names else names_to most (made n o t) n) file ∙ sum_zero most (λ dir. names_for (made n o t) dir n) (still_unnamed o bare none)

      begun : Books most none (made n o t) [] (n ∷ [])
      begun = come o bare none (n ∷ []) (let z = due in let e = ap number_of (eq-eqb n n refl) in omega (arith, z, e, one)) (only_one n) (λ dir. absurd (true≢false (sym dir ∙ file)))

      charged : charge (made n o t) p.dir n ≡ n
      charged = ap (λ (x : Bool). if x then p.dir else n) (ap is_directory (made_here o bare) ∙ file)

  -- a directory, which its parent has one link more for
  module _ (mode : ℕ) (p : Place) (d : IsDirectoryAt t p.dir) (now : Moment) where
    abbrev pub new : Node
    new = new_directory mode p.dir now

    begun : Books most (only n) (made n new t) [] []
    begun = come new refl (only n) [] refl (λ k e. refl) (λ dir. eq-eqb n n refl)

    abbrev pub mid : Tree
    mid = gained p n now (made n new t)

    abbrev pub with_it : Node
    with_it = gains (entry_as p.name n) now d.node

    there : mid.nodes p.dir ≡ Some with_it
    there = changed_here (made n new t) p.dir (gains (entry_as p.name n) now) d.node (dir_there new refl (only n) p d now [] begun root_not_only (λ dir. eq-eqb n n refl))

    risen : Books most (only n) (changed p.dir rises mid) (charge (made n new t) p.dir n ∷ []) (p.dir ∷ [])
    risen = changed_books most (only n) (only n) mid (changed p.dir rises mid) (charge (made n new t) p.dir n ∷ []) [] (with_name new refl (only n) p d now [] begun root_not_only (λ dir. eq-eqb n n refl))
        p.dir with_it (rises with_it) None None [] (p.dir ∷ [])
        (turns mid (only n) p.dir with_it there rises [] (p.dir ∷ []) refl refl (λ a. refl) (only_none p.dir) (only_one p.dir) (let e = ap number_of (eq-eqb p.dir p.dir refl) in omega (arith, e))) root_not_only (λ k e. e)

    pub directory_comes : IsConsistentTree most (changed p.dir rises mid)
    directory_comes = close_books risen (λ k. ap (λ (j : ℕ). count_in k (j ∷ [])) charged) settled
      where
        charged : charge (made n new t) p.dir n ≡ p.dir
        charged = ap (λ (x : Bool). if x then p.dir else n) (ap is_directory (made_here new refl))

        names_are : (wh : ℕ) → names_for (changed p.dir rises mid) wh n ≡ bit (wh == p.dir)
        names_are wh = kept mid p.dir rises (λ x. leading_to n (names_in x)) (λ o. refl) wh ∙ named_at new refl (only n) p d now [] begun root_not_only (λ dir. eq-eqb n n refl) wh

        parent_is : parent_at ((changed p.dir rises mid).nodes n) ≡ Some p.dir
        parent_is = kept mid p.dir rises parent_at (λ o. refl) n ∙ kept (made n new t) p.dir (gains (entry_as p.name n) now) parent_at (λ o. refl) n ∙ ap parent_at (made_here new refl)

        settled : (k : ℕ) (o : Node) → (changed p.dir rises mid).nodes k ≡ Some o → is_dir o.kind ≡ true → 4 ≤ k → (k == n) ≡ true → HasItsName (changed p.dir rises mid) k o
        settled k o at dir l e = subst (λ (j : ℕ). HasItsName (changed p.dir rises mid) j o) (sym (eqb-true k n e)) (one_there (changed p.dir rises mid) n p.dir o names_are
            (number_is (sym (ap parent_at (sym (ap (changed p.dir rises mid).nodes (eqb-true k n e)) ∙ at)) ∙ parent_is)))
