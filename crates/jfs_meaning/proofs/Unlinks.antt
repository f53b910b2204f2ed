-- Names that come and go keep a tree consistent.
use Rattle.std.proofs.Common.{◌≡◌, ◌≢◌, ◌≤◌, ◌<◌, refl, sym, ap, ◌∙◌, subst, ℕ, ◌+◌, ◌==◌, Bool, true, false, true≢false, eq-eqb, ne_eqb, eqb-true, ◌⊎◌, nat_le, is_some, if◌then◌else◌, List, [], ◌∷◌, length, Option, Some, None, inl, inr, arith}
use Rattle.std.proofs.lemmas.Bool.{cases_lt, leb-true}
use Rattle.jfs_bits.specs.declared.descriptor.Moment.{Moment}
use Rattle.jfs_plain.specs.Tree.{Tree, root, is_dir, Place, at_place}
use Rattle.jfs_plain.specs.Moves.{gains, loses, rises, falls, stamped, changed, dropped, unnamed}
use Rattle.jfs_plain.specs.Step.{entry_as, gained, lost}
use Rattle.jfs_plain.specs.declared.node.Node.{Node}
use Rattle.jfs_xtree.specs.page_tree.specs.Edit.{count_in}
use Rattle.jfs_objects.specs.Owners.{bit}
use Rattle.jfs_objects.proofs.Sums.{eq_or_not, sum_one}
use Rattle.jfs_meaning.specs.Consistent.{leading_to, names_in, names_for, names_to, is_directory, subdirectories, MayBeNamed, IsConsistentTree}
use Rattle.jfs_meaning.proofs.Books.{number_of, Books, Changes, open_books, close_books, changed_books, counted, charge, is_it, only_none, only_one}
use Rattle.jfs_meaning.proofs.Appear.{goes}
use Rattle.jfs_meaning.proofs.Moves.{changed_here, changed_other, kept, takes, gives, turns}
use Rattle.jfs_meaning.proofs.Found.{IsDirectoryAt, IsAmong}
use Rattle.jfs_meaning.proofs.Reached.{IsReached, not_reserved, at_among, at_leads}
use Rattle.jfs_meaning.proofs.Makes.{none, only, no_loose}

one_here : (d : ℕ) → count_in d (d ∷ []) ≡ 1
one_here d = ap (λ (x : Bool). (if x then 1 else 0) + 0) (eq-eqb d d refl)

-- ---- changes of one node that leave its names

module _ (most : ℕ) (loose : ℕ → Bool) (t : Tree) (up down : List ℕ) (b : Books most loose t up down) (root_stays : loose root ≡ false) (d : ℕ) (o : Node) (was : t.nodes d ≡ Some o) where
  -- nothing that counts
  pub touched : (f : Node → Node) → (f o).names ≡ o.names → is_dir (f o).kind ≡ is_dir o.kind → (loose d ≡ false → (f o).parent ≡ o.parent) → (f o).links ≡ o.links → Books most loose (changed d f t) up down
  touched f names kind parent links = changed_books most loose loose t (changed d f t) up down b d o (f o) None None [] [] (turns t loose d o was f [] [] names kind parent (only_none d) (only_none d) (ap (λ (k : ℕ). k + 0) links)) root_stays (λ n e. e)

  pub risen : Books most loose (changed d rises t) up (d ∷ down)
  risen = changed_books most loose loose t (changed d rises t) up down b d o (rises o) None None [] (d ∷ []) (turns t loose d o was rises [] (d ∷ []) refl refl (λ a. refl) (only_none d) (only_one d) (let e = one_here d in omega (arith, e))) root_stays (λ n e. e)

  pub fallen : 0 < o.links → Books most loose (changed d falls t) (d ∷ up) down
  fallen some = changed_books most loose loose t (changed d falls t) up down b d o (falls o) None None (d ∷ []) [] (turns t loose d o was falls (d ∷ []) [] refl refl (λ a. refl) (only_one d) (only_none d) (let e = one_here d in omega (arith, e, some))) root_stays (λ n e. e)

-- ---- a file loses a name, and goes with its last one

module _ (most : ℕ) (loose : ℕ → Bool) (t : Tree) (up down : List ℕ) (k : ℕ) (b : Books most loose t up (k ∷ down)) (root_stays : loose root ≡ false) (o : Node) (was : t.nodes k ≡ Some o) (file : is_dir o.kind ≡ false) (late : 4 ≤ k)
    (no_up : count_in k up ≡ 0) (no_down : count_in k down ≡ 0) where
  low : k < most
  low = elim (cases_lt k most) [ inl l ↦ l | inr l ↦ absurd (cc (b.within k l, was)) ]

  account : o.links ≡ names_to most t k + 1
  account =
      let h = b.links k o was (not_reserved t k (inr (late, ap is_some was))) in
      let due = ap (λ (x : Bool). if x then 2 + subdirectories t o.names else names_to most t k) file in
      let e = ap number_of (eq-eqb k k refl) in
      omega (arith, h, due, e, no_up, no_down)

  nameless : o.links ≤ 1 → (dir : ℕ) → names_for t dir k ≡ 0
  nameless few dir = elim (cases_lt dir most) [
    | inl l ↦ (let a = account in let s = sum_one most (λ dir. names_for t dir k) dir l in omega (arith, a, s, few))
    | inr l ↦ ap (λ (x : Option Node). leading_to k (names_in x)) (b.within dir l)
  ]

  dropped_here : (dropped k t).nodes k ≡ None
  dropped_here = ap (λ (x : Bool). if x then None else t.nodes k) (eq-eqb k k refl)

  dropped_other : (j : ℕ) → j ≢ k → (dropped k t).nodes j ≡ t.nodes j
  dropped_other j e = ap (λ (x : Bool). if x then None else t.nodes j) (ne_eqb k j (λ s. e (sym s)))

  pub unnamed_books : (now : Moment) → Books most loose (unnamed k o.links now t) (k ∷ up) (k ∷ down)
  unnamed_books now = by (nat_le o.links 1) refl
    where
      fall : Books most loose (changed k falls t) (k ∷ up) (k ∷ down)
      fall = fallen most loose t up (k ∷ down) b root_stays k o was (let a = account in omega (arith, a))

      by : (x : Bool) → nat_le o.links 1 ≡ x → Books most loose (if x then dropped k t else changed k (stamped now) (changed k falls t)) (k ∷ up) (k ∷ down)
      by true e = goes most loose loose t (dropped k t) up (k ∷ down) b k late low dropped_other (ap names_in was ∙ b.files k o was file) (ap names_in dropped_here) (nameless (leb-true o.links 1 e)) (λ j h. h)
          (k ∷ up) (k ∷ down) (λ j h. (let z = only_one k j h in omega (arith, z), refl)) dropped_here
      by false e = touched most loose (changed k falls t) (k ∷ up) (k ∷ down) fall root_stays k (falls o) (changed_here t k falls o was) (stamped now) refl refl (λ a. refl) refl

-- ---- calls

module _ (most : ℕ) (t : Tree) (c : IsConsistentTree most t) where
  -- one name more for a file
  module _ (k : ℕ) (o : Node) (was : t.nodes k ≡ Some o) (file : is_dir o.kind ≡ false) (may : MayBeNamed t k) (p : Place) (d : IsDirectoryAt t p.dir) (now : Moment) where
    apart : k ≢ p.dir
    apart e = absurd (true≢false (sym d.dir ∙ ap is_directory (sym d.there ∙ ap t.nodes (sym e) ∙ was) ∙ file))

    named : Books most none (gained p k now t) (charge t p.dir k ∷ []) []
    named = changed_books most none none t (gained p k now t) [] [] (open_books none c) p.dir d.node (gains (entry_as p.name k) now d.node) None (Some k) [] []
        (takes t none p.dir d.node d.there d.dir p.name k now may (λ dir. absurd (true≢false (sym dir ∙ ap is_directory was ∙ file)))) refl (λ n e. e)

    still : (gained p k now t).nodes k ≡ Some o
    still = changed_other t p.dir (gains (entry_as p.name k) now) k apart ∙ was

    pub linked : IsConsistentTree most (changed k (stamped now) (changed k rises (gained p k now t)))
    linked = close_books (touched most none (changed k rises (gained p k now t)) (charge t p.dir k ∷ []) (k ∷ [])
        (risen most none (gained p k now t) (charge t p.dir k ∷ []) [] named refl k o still) refl k (rises o) (changed_here (gained p k now t) k rises o still) (stamped now) refl refl (λ a. refl) refl)
        (λ n. ap (λ (j : ℕ). count_in n (j ∷ [])) (ap (λ (x : Bool). if x then p.dir else k) (ap is_directory was ∙ file))) (λ n x there dir l. no_loose)

  -- one name less for what stands at a place
  module _ (k : ℕ) (o : Node) (was : t.nodes k ≡ Some o) (p : Place) (d : IsDirectoryAt t p.dir) (at : at_place t p ≡ Some k) (now : Moment) where
    among : IsAmong p.name d.node.names k
    among = at_among t p d k at

    may : MayBeNamed t k
    may = c.names p.dir k (at_leads t p d k at)

    module _ (file : is_dir o.kind ≡ false) where
      apart_file : k ≢ p.dir
      apart_file e = absurd (true≢false (sym d.dir ∙ ap is_directory (sym d.there ∙ ap t.nodes (sym e) ∙ was) ∙ file))

      less : Books most none (lost p now t) [] (k ∷ [])
      less = subst (λ (j : ℕ). Books most none (lost p now t) [] (j ∷ [])) (ap (λ (x : Bool). if x then p.dir else k) (ap is_directory was ∙ file))
          (changed_books most none none t (lost p now t) [] [] (open_books none c) p.dir d.node (loses p.name now d.node) (Some k) None [] []
          (gives t none p.dir d.node d.there d.dir p.name k now among (λ dir. absurd (true≢false (sym dir ∙ ap is_directory was ∙ file)))) refl (λ n e. e))

      pub unlinked : IsConsistentTree most (unnamed k o.links now (lost p now t))
      unlinked = close_books (unnamed_books most none (lost p now t) [] [] k less refl o (changed_other t p.dir (loses p.name now) k apart_file ∙ was) file may.0 refl refl now) (λ n. refl) (λ n x there dir l. no_loose)

    module _ (dir : is_dir o.kind ≡ true) (empty : o.names ≡ []) (reached : IsReached t p.dir) where
      apart_dir : k ≢ p.dir
      apart_dir e = absurd (let s = ap length (ap names_in (sym d.there ∙ ap t.nodes (sym e) ∙ was) ∙ empty) in let w = among.within in omega (arith, s, w))

      root_stays : only k root ≡ false
      root_stays = ne_eqb root k (λ e. let l = may.0 in absurd (omega (arith, l, e)))

      gone : Changes t (lost p now t) (only k) p.dir d.node (loses p.name now d.node) (Some k) None [] []
      gone = gives t (only k) p.dir d.node d.there d.dir p.name k now among (λ e. eq-eqb k k refl)

      less_dir : Books most (only k) (lost p now t) [] (p.dir ∷ [])
      less_dir = subst (λ (j : ℕ). Books most (only k) (lost p now t) [] (j ∷ [])) (ap (λ (x : Bool). if x then p.dir else k) (ap is_directory was ∙ dir))
          (changed_books most (only k) (only k) t (lost p now t) [] [] (open_books (only k) c) p.dir d.node (loses p.name now d.node) (Some k) None [] [] gone root_stays (λ n e. e))

      some_links : 0 < d.node.links
      some_links = let h = c.links p.dir d.node d.there (not_reserved t p.dir reached) in let e = ap (λ (x : Bool). if x then 2 + subdirectories t d.node.names else names_to most t p.dir) d.dir in omega (arith, h, e)

      fall : Books most (only k) (changed p.dir falls (lost p now t)) (p.dir ∷ []) (p.dir ∷ [])
      fall = fallen most (only k) (lost p now t) [] (p.dir ∷ []) less_dir root_stays p.dir (loses p.name now d.node) (changed_here t p.dir (loses p.name now) d.node d.there) some_links

      abbrev pub mid : Tree
      mid = changed p.dir falls (lost p now t)

      -- its parent had its one name
      only_name : (wh : ℕ) → names_for (lost p now t) wh k ≡ 0
      only_name wh = by (eq_or_not wh p.dir)
        where
          one : is_it k k ≡ 1
          one = ap number_of (eq-eqb k k refl)

          bit_of : (x : Bool) → bit x ≤ 1
          bit_of true = omega arith
          bit_of false = omega arith

          parent : p.dir ≡ o.parent
          parent = elim (eq_or_not p.dir o.parent) [
            | inl e ↦ e
            | inr e ↦ absurd (let h = c.parents k o was dir may.0 p.dir in let l = at_leads t p d k at in let z = ap bit (ne_eqb p.dir o.parent e) in omega (arith, h, l, z))
          ]

          count : (wh : ℕ) → names_for (lost p now t) wh k + (if wh == p.dir then is_it k k else 0) ≡ names_for t wh k + (if wh == p.dir then 0 else 0)
          count wh = counted t (lost p now t) (only k) p.dir d.node (loses p.name now d.node) (Some k) None [] [] gone wh k

          by : (wh ≡ p.dir) ⊎ (wh ≢ p.dir) → names_for (lost p now t) wh k ≡ 0
          by (inl e) = let h = count wh in let x = eq-eqb wh p.dir e in let hh = subst (λ (y : Bool). names_for (lost p now t) wh k + (if y then is_it k k else 0) ≡ names_for t wh k + (if y then 0 else 0)) x h in
              let i = one in let q = c.parents k o was dir may.0 wh in let l = bit_of (wh == o.parent) in omega (arith, hh, i, q, l)
          by (inr e) = let h = count wh in let x = ne_eqb wh p.dir e in let hh = subst (λ (y : Bool). names_for (lost p now t) wh k + (if y then is_it k k else 0) ≡ names_for t wh k + (if y then 0 else 0)) x h in
              let q = c.parents k o was dir may.0 wh ∙ ap bit (ne_eqb wh o.parent (λ s. e (s ∙ sym parent))) in omega (arith, hh, q)

      gone_here : (dropped k mid).nodes k ≡ None
      gone_here = ap (λ (x : Bool). if x then None else mid.nodes k) (eq-eqb k k refl)

      low_k : k < most
      low_k = elim (cases_lt k most) [ inl l ↦ l | inr l ↦ absurd (cc (c.within k l, was)) ]

      pub removed : IsConsistentTree most (dropped k mid)
      removed = close_books (goes most (only k) (only k) mid (dropped k mid) (p.dir ∷ []) (p.dir ∷ []) fall k may.0 low_k
          (λ j e. ap (λ (x : Bool). if x then None else mid.nodes j) (ne_eqb k j (λ s. e (sym s))))
          (ap names_in (changed_other (lost p now t) p.dir falls k apart_dir ∙ changed_other t p.dir (loses p.name now) k apart_dir ∙ was) ∙ empty) (ap names_in gone_here)
          (λ wh. kept (lost p now t) p.dir falls (λ x. leading_to k (names_in x)) (λ o. refl) wh ∙ only_name wh) (λ j e. e) (p.dir ∷ []) (p.dir ∷ []) (λ j e. (refl, refl)) gone_here)
          (λ n. refl) (λ n x there is l e. absurd (cc (sym there ∙ ap (dropped k mid).nodes (eqb-true n k e), gone_here)))
