-- The moves of calls as changes of one node.
use Rattle.std.proofs.Common.{◌≡◌, ◌≢◌, ◌<◌, refl, sym, ap, ◌∙◌, subst, ℕ, ◌+◌, Bool, true, false, true≢false, eq-eqb, ne_eqb, if◌then◌else◌, List, [], Option, Some, None, inl, inr, arith}
use Rattle.std.specs.Prelude.{option_map, sum_by}
use Rattle.std.proofs.lemmas.List.Sums.{sum_by-insert, sum_by-remove, sum_by-set}
use Rattle.jfs_bits.specs.declared.descriptor.Moment.{Moment}
use Rattle.jfs_name.specs.declared.name.NameEntry.{NameEntry}
use Rattle.jfs_name.specs.Directory.{place_for, place_of, set_inode}
use Rattle.jfs_plain.specs.Tree.{Tree, is_dir}
use Rattle.jfs_plain.specs.Moves.{gains, loses, leads, changed}
use Rattle.jfs_plain.specs.Step.{entry_as}
use Rattle.jfs_plain.specs.declared.node.Node.{Node}
use Rattle.jfs_xtree.specs.page_tree.specs.Edit.{count_in}
use Rattle.jfs_objects.proofs.Sums.{eq_or_not}
use Rattle.jfs_meaning.specs.Consistent.{is_directory, MayBeNamed}
use Rattle.jfs_meaning.proofs.Books.{number_of, Changes, Only, only_none, is_it}
use Rattle.jfs_meaning.proofs.Found.{IsAmong}

-- ---- a tree with one node changed

module _ (t : Tree) (d : ℕ) (f : Node → Node) where
  pub changed_here : (o : Node) → t.nodes d ≡ Some o → (changed d f t).nodes d ≡ Some (f o)
  changed_here o h = ap (λ (x : Bool). if x then option_map f (t.nodes d) else t.nodes d) (eq-eqb d d refl) ∙ ap (option_map f) h

  pub changed_other : (k : ℕ) → k ≢ d → (changed d f t).nodes k ≡ t.nodes k
  changed_other k e = ap (λ (x : Bool). if x then option_map f (t.nodes d) else t.nodes k) (ne_eqb d k (λ s. e (sym s)))

  -- what a change keeps of a node, it keeps of each
  pub kept : {X : Type 0} (g : Option Node → X) → ((o : Node) → g (Some (f o)) ≡ g (Some o)) → (k : ℕ) → g ((changed d f t).nodes k) ≡ g (t.nodes k)
  kept g h k = elim (eq_or_not k d) [
    | inl e ↦ ap (λ (j : ℕ). g ((changed d f t).nodes j)) e ∙ by (t.nodes d) refl ∙ sym (ap (λ (j : ℕ). g (t.nodes j)) e)
    | inr e ↦ ap g (changed_other k e)
  ]
    where
      at_d : (changed d f t).nodes d ≡ option_map f (t.nodes d)
      at_d = ap (λ (x : Bool). if x then option_map f (t.nodes d) else t.nodes d) (eq-eqb d d refl)

      by : (x : Option Node) → t.nodes d ≡ x → g ((changed d f t).nodes d) ≡ g (t.nodes d)
      by None e = ap g (at_d ∙ ap (option_map f) e ∙ sym e)
      by (Some o) e = ap g (at_d ∙ ap (option_map f) e) ∙ h o ∙ sym (ap g e)

-- ---- each move

it_is : (n k : ℕ) → 0 < is_it n k → k ≡ n
it_is n k l = elim (eq_or_not k n) [ inl e ↦ e | inr e ↦ absurd (let z = ap number_of (ne_eqb k n e) in omega (arith, l, z)) ]

it_not : (n k : ℕ) → k ≢ n → is_it n k ≡ 0
it_not n k e = ap number_of (ne_eqb k n e)

module _ (t : Tree) (loose : ℕ → Bool) (d : ℕ) (o : Node) (was : t.nodes d ≡ Some o) where
  -- a directory that isn't loose is none of those that are
  loose_not : (n k : ℕ) → (is_directory (t.nodes k) ≡ true → loose k ≡ true) → is_directory (t.nodes n) ≡ true → loose n ≡ false → is_it n k ≡ 0
  loose_not n k h dir apart = it_not n k (λ e. true≢false (sym (h (ap (λ (j : ℕ). is_directory (t.nodes j)) e ∙ dir)) ∙ ap loose e ∙ apart))

  -- names stay
  pub turns : (f : Node → Node) (ups downs : List ℕ) → (f o).names ≡ o.names → is_dir (f o).kind ≡ is_dir o.kind → (loose d ≡ false → (f o).parent ≡ o.parent) → Only d ups → Only d downs
      → (f o).links + count_in d ups ≡ o.links + count_in d downs → Changes t (changed d f t) loose d o (f o) None None ups downs
  turns f ups downs names kind parent only_ups only_downs links = record {
    was = was;
    now = changed_here t d f o was;
    others = changed_other t d f;
    kind = kind;
    parent = parent;
    only_ups = only_ups;
    only_downs = only_downs;
    links = links;
    counts = λ w. ap (λ (es : List NameEntry). sum_by (λ (e : NameEntry). w e.inode) es + 0) names;
    directory = λ file. (refl, refl, names);
    fit = λ n l. absurd (omega (arith, l));
    settled = λ n dir apart. (refl, refl);
  }

  module _ (dir : is_dir o.kind ≡ true) where
    no_file : {X : Type 0} → is_dir o.kind ≡ false → X
    no_file file = absurd (true≢false (sym dir ∙ file))

    pub takes : (name : List ℕ) (k : ℕ) (now : Moment) → MayBeNamed t k → (is_directory (t.nodes k) ≡ true → loose k ≡ true)
        → Changes t (changed d (gains (entry_as name k) now) t) loose d o (gains (entry_as name k) now o) None (Some k) [] []
    takes name k now may free = record {
      was = was;
      now = changed_here t d (gains (entry_as name k) now) o was;
      others = changed_other t d (gains (entry_as name k) now);
      kind = refl;
      parent = λ apart. refl;
      only_ups = only_none d;
      only_downs = only_none d;
      links = refl;
      counts = λ w. (let s = sum_by-insert (λ (e : NameEntry). w e.inode) o.names (place_for name o.names) (entry_as name k) in omega (arith, s));
      directory = no_file;
      fit = λ n l. subst (MayBeNamed t) (it_is n k l) may;
      settled = λ n is apart. (refl, loose_not n k free is apart);
    }

    pub gives : (name : List ℕ) (k : ℕ) (now : Moment) → IsAmong name o.names k → (is_directory (t.nodes k) ≡ true → loose k ≡ true)
        → Changes t (changed d (loses name now) t) loose d o (loses name now o) (Some k) None [] []
    gives name k now among free = record {
      was = was;
      now = changed_here t d (loses name now) o was;
      others = changed_other t d (loses name now);
      kind = refl;
      parent = λ apart. refl;
      only_ups = only_none d;
      only_downs = only_none d;
      links = refl;
      counts = λ w. (let s = sum_by-remove (λ (e : NameEntry). w e.inode) o.names (place_of name o.names) among.entry among.within in let e = ap (λ (e : NameEntry). w e.inode) among.at ∙ ap w among.leads in omega (arith, s, e));
      directory = no_file;
      fit = λ n l. absurd (omega (arith, l));
      settled = λ n is apart. (loose_not n k free is apart, refl);
    }

    pub swaps : (name : List ℕ) (old k : ℕ) (now : Moment) → IsAmong name o.names old → MayBeNamed t k → (is_directory (t.nodes old) ≡ true → loose old ≡ true) → (is_directory (t.nodes k) ≡ true → loose k ≡ true)
        → Changes t (changed d (leads name k now) t) loose d o (leads name k now o) (Some old) (Some k) [] []
    swaps name old k now among may free_old free = record {
      was = was;
      now = changed_here t d (leads name k now) o was;
      others = changed_other t d (leads name k now);
      kind = refl;
      parent = λ apart. refl;
      only_ups = only_none d;
      only_downs = only_none d;
      links = refl;
      counts = λ w.
          (let s = sum_by-set (λ (e : NameEntry). w e.inode) o.names (place_of name o.names) (record among.entry { inode = k }) among.entry among.within in
          let e = ap (λ (e : NameEntry). w e.inode) among.at ∙ ap w among.leads in
          let g = ap (λ (x : Option NameEntry). sum_by (λ (e : NameEntry). w e.inode) (set_inode k o.names (place_of name o.names) x)) among.got in
          omega (arith, s, e, g));
      directory = no_file;
      fit = λ n l. subst (MayBeNamed t) (it_is n k l) may;
      settled = λ n is apart. (loose_not n old free_old is apart, loose_not n k free is apart);
    }
