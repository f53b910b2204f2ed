-- An object without a name comes, or goes.
use Rattle.std.proofs.Common.{◌≡◌, ◌≢◌, ◌≤◌, ◌<◌, ◌⊎◌, sym, ap, ◌∙◌, subst, ℕ, ◌+◌, Bool, true, false, true≢false, if◌then◌else◌, List, [], Some, None, is_some, inl, inr, arith}
use Rattle.jfs_name.specs.declared.name.NameEntry.{NameEntry}
use Rattle.jfs_plain.specs.Tree.{Tree, root, is_dir}
use Rattle.jfs_plain.specs.declared.node.Node.{Node}
use Rattle.jfs_xtree.specs.page_tree.specs.Edit.{count_in}
use Rattle.jfs_objects.proofs.Sums.{sum_same, eq_or_not}
use Rattle.jfs_meaning.specs.Consistent.{is_reserved, leading_to, names_in, names_for, names_to, is_directory, subdirectories, links_due, MayBeNamed, HasItsName, IsRoot}
use Rattle.jfs_meaning.proofs.Books.{Books, some_is, same_subdirectories}

module _ (most : ℕ) (before loose : ℕ → Bool) (t u : Tree) (up down : List ℕ) (b : Books most before t up down) (n : ℕ) (late : 4 ≤ n) (low : n < most)
    (others : (k : ℕ) → k ≢ n → u.nodes k ≡ t.nodes k) (none_was : names_in (t.nodes n) ≡ []) (none_is : names_in (u.nodes n) ≡ []) (unnamed : (dir : ℕ) → names_for t dir n ≡ 0)
    (wider : (k : ℕ) → loose k ≡ false → before k ≡ false) where
  pub same_names : (dir k : ℕ) → names_for u dir k ≡ names_for t dir k
  same_names dir k = ap (leading_to k) (by (eq_or_not dir n))
    where
      by : (dir ≡ n) ⊎ (dir ≢ n) → names_in (u.nodes dir) ≡ names_in (t.nodes dir)
      by (inl e) = ap (λ (j : ℕ). names_in (u.nodes j)) e ∙ none_is ∙ sym (ap (λ (j : ℕ). names_in (t.nodes j)) e ∙ none_was)
      by (inr e) = ap names_in (others dir e)

  pub in_all : (k : ℕ) → names_to most u k ≡ names_to most t k
  in_all k = sum_same most (λ dir. names_for t dir k) (λ dir. names_for u dir k) (λ dir _. same_names dir k)

  same_subs : (dir : ℕ) → subdirectories u (names_in (t.nodes dir)) ≡ subdirectories t (names_in (t.nodes dir))
  same_subs dir = same_subdirectories t u (names_in (t.nodes dir)) (λ k l. ap is_directory (others k (λ e. (let z = unnamed dir in let s = ap (λ (j : ℕ). names_for t dir j) e in absurd (omega (arith, l, s, z))))))

  due_same : (k : ℕ) (x : Node) → t.nodes k ≡ Some x → links_due most u k x ≡ links_due most t k x
  due_same k x there = by (is_dir x.kind)
    where
      by : (y : Bool) → (if y then 2 + subdirectories u x.names else names_to most u k) ≡ (if y then 2 + subdirectories t x.names else names_to most t k)
      by true = ap (λ (c : ℕ). 2 + c) (subst (λ (es : List NameEntry). subdirectories u es ≡ subdirectories t es) (ap names_in there) (same_subs k))
      by false = in_all k

  not_it : (dir k : ℕ) → 0 < names_for t dir k → k ≢ n
  not_it dir k l e = let z = unnamed dir in let s = ap (λ (j : ℕ). names_for t dir j) e in absurd (omega (arith, l, s, z))

  names_are : (dir k : ℕ) → 0 < names_for u dir k → MayBeNamed u k
  names_are dir k l =
      let was = subst (λ (c : ℕ). 0 < c) (same_names dir k) l in
      let m = b.names dir k was in
      (m.0, ap is_some (others k (not_it dir k was)) ∙ m.1)

  top_is : (x : Node) × IsRoot u x
  top_is = (b.top.0, record { there = others root (λ e. absurd (omega (arith, late, e))) ∙ b.top.1.there; directory = b.top.1.directory; parent = b.top.1.parent })

  within_is : (k : ℕ) → most ≤ k → u.nodes k ≡ None
  within_is k l = others k (λ e. absurd (omega (arith, l, low, e))) ∙ b.within k l

  parent_is : (k : ℕ) (x : Node) → k ≢ n → u.nodes k ≡ Some x → is_dir x.kind ≡ true → 4 ≤ k → loose k ≡ false → HasItsName u k x
  parent_is k x e there dir l apart wh = same_names wh k ∙ b.parents k x (sym (others k e) ∙ there) dir l (wider k apart) wh

  -- what it had yet to lose and to gain is forgotten
  pub goes : (up_left down_left : List ℕ) → ((k : ℕ) → k ≢ n → (count_in k up_left ≡ count_in k up) × (count_in k down_left ≡ count_in k down)) → u.nodes n ≡ None → Books most loose u up_left down_left
  goes up_left down_left left none = record {
    within = within_is;
    top = top_is;
    files = λ k x there file. b.files k x (sym (others k (other k x there)) ∙ there) file;
    names = names_are;
    links = λ k x there free. (let e = other k x there in let was = sym (others k e) ∙ there in let h = b.links k x was free in let d = due_same k x was in let s = left k e in omega (arith, h, d, s));
    parents = λ k x there dir l apart. parent_is k x (other k x there) there dir l apart;
  }
    where
      other : (k : ℕ) (x : Node) → u.nodes k ≡ Some x → k ≢ n
      other k x there e = absurd (cc (sym (ap u.nodes e) ∙ there, none))

  -- a directory that is loose, or a file, which has a name to gain
  pub record Comes (o : Node) (owed : List ℕ) : Type 0 where
    pub is : u.nodes n ≡ Some o
    pub bare : o.names ≡ []
    pub links : o.links + count_in n up ≡ links_due most u n o + count_in n owed
    pub rest : (k : ℕ) → k ≢ n → count_in k owed ≡ count_in k down
    pub free : is_dir o.kind ≡ true → loose n ≡ true

  pub comes : (o : Node) (owed : List ℕ) → Comes o owed → Books most loose u up owed
  comes o owed c = record {
    within = within_is;
    top = top_is;
    files = λ k x there file. by_files k x there file (eq_or_not k n);
    names = names_are;
    links = λ k x there free. by_links k x there free (eq_or_not k n);
    parents = λ k x there dir l apart. by_parents k x there dir l apart (eq_or_not k n);
  }
    where
      it_is : (k : ℕ) (x : Node) → u.nodes k ≡ Some x → k ≡ n → o ≡ x
      it_is k x there e = some_is (sym c.is ∙ sym (ap u.nodes e) ∙ there)

      by_files : (k : ℕ) (x : Node) → u.nodes k ≡ Some x → is_dir x.kind ≡ false → (k ≡ n) ⊎ (k ≢ n) → x.names ≡ []
      by_files k x there file (inl e) = sym (ap (λ (y : Node). y.names) (it_is k x there e)) ∙ c.bare
      by_files k x there file (inr e) = b.files k x (sym (others k e) ∙ there) file

      by_links : (k : ℕ) (x : Node) → u.nodes k ≡ Some x → is_reserved k ≡ false → (k ≡ n) ⊎ (k ≢ n) → x.links + count_in k up ≡ links_due most u k x + count_in k owed
      by_links k x there free (inl e) = subst (λ (j : ℕ). x.links + count_in j up ≡ links_due most u j x + count_in j owed) (sym e) (subst (λ (y : Node). y.links + count_in n up ≡ links_due most u n y + count_in n owed) (it_is k x there e) c.links)
      by_links k x there free (inr e) = (let was = sym (others k e) ∙ there in let h = b.links k x was free in let d = due_same k x was in let r = c.rest k e in omega (arith, h, d, r))

      by_parents : (k : ℕ) (x : Node) → u.nodes k ≡ Some x → is_dir x.kind ≡ true → 4 ≤ k → loose k ≡ false → (k ≡ n) ⊎ (k ≢ n) → HasItsName u k x
      by_parents k x there dir l apart (inl e) = absurd (true≢false (sym (c.free (ap (λ (y : Node). is_dir y.kind) (it_is k x there e) ∙ dir)) ∙ ap loose (sym e) ∙ apart))
      by_parents k x there dir l apart (inr e) = parent_is k x e there dir l apart
