-- Trees between the moves of a call: link counts are kept as books, with what they have yet to lose and to gain.
use Rattle.std.proofs.Common.{◌≡◌, ◌≢◌, ◌≤◌, ◌<◌, ◌⊎◌, refl, sym, ap, ◌∙◌, subst, ℕ, ◌+◌, ◌==◌, Bool, true, false, cond, eq-eqb, ne_eqb, true≢false, if◌then◌else◌, List, [], ◌∷◌, ◌++◌, Option, Some, None, is_some, inl, inr, arith}
use Rattle.std.specs.Prelude.{sum_by}
use Rattle.std.proofs.lemmas.Bool.{cases_lt}
use Rattle.std.proofs.lemmas.List.Sums.{sum_by-cons}
use Rattle.jfs_name.specs.declared.name.NameEntry.{NameEntry}
use Rattle.jfs_plain.specs.Tree.{Tree, root, is_dir}
use Rattle.jfs_plain.specs.declared.node.Node.{Node}
use Rattle.jfs_xtree.specs.page_tree.specs.Edit.{count_in}
use Rattle.jfs_objects.specs.Owners.{bit}
use Rattle.jfs_objects.proofs.Sums.{sum_put, eq_or_not, zero_or_more}
use Rattle.jfs_meaning.specs.Consistent.{is_reserved, leading_to, names_in, names_for, names_to, is_directory, subdirectories, links_due, MayBeNamed, HasItsName, IsRoot, IsConsistentTree}

-- Loose objects are on their way to another parent.
pub record Books (most : ℕ) (loose : ℕ → Bool) (t : Tree) (up down : List ℕ) : Type 0 where
  pub within : (n : ℕ) → most ≤ n → t.nodes n ≡ None
  pub top : (o : Node) × IsRoot t o
  pub files : (n : ℕ) (o : Node) → t.nodes n ≡ Some o → is_dir o.kind ≡ false → o.names ≡ []
  pub names : (dir n : ℕ) → 0 < names_for t dir n → MayBeNamed t n
  pub links : (n : ℕ) (o : Node) → t.nodes n ≡ Some o → is_reserved n ≡ false → o.links + count_in n up ≡ links_due most t n o + count_in n down
  pub parents : (n : ℕ) (o : Node) → t.nodes n ≡ Some o → is_dir o.kind ≡ true → 4 ≤ n → loose n ≡ false → HasItsName t n o

pub open_books : {most : ℕ} {t : Tree} (loose : ℕ → Bool) → IsConsistentTree most t → Books most loose t [] []
open_books loose c = record {
  within = c.within;
  top = c.top;
  files = c.files;
  names = c.names;
  links = λ n o there free. (let h = c.links n o there free in omega (arith, h));
  parents = λ n o there dir late apart. c.parents n o there dir late;
}

pub some_is : {x y : Node} → Some x ≡ Some y → x ≡ y
some_is h = cc (h)

-- what is owed is paid, and the loose objects have their names
pub close_books : {most : ℕ} {loose : ℕ → Bool} {t : Tree} {up down : List ℕ} → Books most loose t up down → ((n : ℕ) → count_in n up ≡ count_in n down)
    → ((n : ℕ) (o : Node) → t.nodes n ≡ Some o → is_dir o.kind ≡ true → 4 ≤ n → loose n ≡ true → HasItsName t n o) → IsConsistentTree most t
close_books {most} {loose} {t} b paid settled = record {
  within = b.within;
  top = b.top;
  files = b.files;
  names = b.names;
  links = λ n o there free. (let h = b.links n o there free in let p = paid n in omega (arith, h, p));
  parents = λ n o there dir late. by n o there dir late (loose n) refl;
}
  where
    by : (n : ℕ) (o : Node) → t.nodes n ≡ Some o → is_dir o.kind ≡ true → 4 ≤ n → (x : Bool) → loose n ≡ x → HasItsName t n o
    by n o there dir late true e = settled n o there dir late e
    by n o there dir late false e = b.parents n o there dir late e

abbrev pub number_of : Bool → ℕ
number_of x = cond x 1 0

-- ---- subdirectories where some objects are others

pub same_subdirectories : (t u : Tree) (es : List NameEntry) → ((k : ℕ) → 0 < leading_to k es → is_directory (u.nodes k) ≡ is_directory (t.nodes k)) → subdirectories u es ≡ subdirectories t es
same_subdirectories t u [] h = refl
same_subdirectories t u (e ∷ es) h =
    let in_u = sum_by-cons (λ (e : NameEntry). cond (is_directory (u.nodes e.inode)) 1 0) e es in
    let in_t = sum_by-cons (λ (e : NameEntry). cond (is_directory (t.nodes e.inode)) 1 0) e es in
    let here = ap number_of (h e.inode (let l = sum_by-cons (λ (x : NameEntry). cond (x.inode == e.inode) 1 0) e es in let s = ap number_of (eq-eqb e.inode e.inode refl) in omega (arith, l, s))) in
    let rest = same_subdirectories t u es (λ k l. h k (let m = sum_by-cons (λ (x : NameEntry). cond (x.inode == k) 1 0) e es in omega (arith, l, m))) in
    omega (arith, in_u, in_t, here, rest)

-- ---- one node changes: it loses and gains names, its link count rises and falls

abbrev pub weight : (ℕ → ℕ) → Option ℕ → ℕ
weight w None = 0
weight w (Some k) = w k

abbrev pub is_it : ℕ → ℕ → ℕ
is_it n k = cond (k == n) 1 0

abbrev pub is_sub : Tree → ℕ → ℕ
is_sub t k = cond (is_directory (t.nodes k)) 1 0

-- whose link count a name is due to: that of the directory where it leads to one, else that of the object
abbrev pub charge : Tree → ℕ → ℕ → ℕ
charge t d k = if is_directory (t.nodes k) then d else k

abbrev pub charges : Tree → ℕ → Option ℕ → List ℕ
charges t d None = []
charges t d (Some k) = charge t d k ∷ []

-- a list of one number alone
abbrev pub Only : ℕ → List ℕ → Type 0
Only d ns = (n : ℕ) → n ≢ d → count_in n ns ≡ 0

pub only_none : (d : ℕ) → Only d []
only_none d n apart = refl

pub only_one : (d : ℕ) → Only d (d ∷ [])
only_one d n apart = ap (λ (x : Bool). (if x then 1 else 0) + 0) (ne_eqb d n (λ e. apart (sym e)))

pub count_append : (n : ℕ) (xs ys : List ℕ) → count_in n (xs ++ ys) ≡ count_in n xs + count_in n ys
count_append n [] ys = omega arith
count_append n (x ∷ xs) ys = let h = count_append n xs ys in omega (arith, h)

pub record Changes (t u : Tree) (loose : ℕ → Bool) (d : ℕ) (o p : Node) (lost gained : Option ℕ) (ups downs : List ℕ) : Type 0 where
  pub was : t.nodes d ≡ Some o
  pub now : u.nodes d ≡ Some p
  pub others : (k : ℕ) → k ≢ d → u.nodes k ≡ t.nodes k
  pub kind : is_dir p.kind ≡ is_dir o.kind
  pub parent : loose d ≡ false → p.parent ≡ o.parent
  pub only_ups : Only d ups
  pub only_downs : Only d downs
  pub links : p.links + count_in d ups ≡ o.links + count_in d downs
  pub counts : (w : ℕ → ℕ) → sum_by (λ (e : NameEntry). w e.inode) p.names + weight w lost ≡ sum_by (λ (e : NameEntry). w e.inode) o.names + weight w gained
  -- names are a directory's
  pub directory : (is_dir o.kind ≡ false) → (lost ≡ None) × (gained ≡ None) × (p.names ≡ o.names)
  pub fit : (n : ℕ) → 0 < weight (is_it n) gained → MayBeNamed t n
  pub settled : (n : ℕ) → is_directory (t.nodes n) ≡ true → loose n ≡ false → (weight (is_it n) lost ≡ 0) × (weight (is_it n) gained ≡ 0)

module _ (t u : Tree) (loose : ℕ → Bool) (d : ℕ) (o p : Node) (lost gained : Option ℕ) (ups downs : List ℕ) (c : Changes t u loose d o p lost gained ups downs) where
  pub same_directory : (k : ℕ) → is_directory (u.nodes k) ≡ is_directory (t.nodes k)
  same_directory k = elim (eq_or_not k d) [
    | inl e ↦ ap (λ (j : ℕ). is_directory (u.nodes j)) e ∙ ap is_directory c.now ∙ c.kind ∙ sym (ap (λ (j : ℕ). is_directory (t.nodes j)) e ∙ ap is_directory c.was)
    | inr e ↦ ap is_directory (c.others k e)
  ]

  pub same_there : (k : ℕ) → is_some (u.nodes k) ≡ is_some (t.nodes k)
  same_there k = elim (eq_or_not k d) [
    | inl e ↦ ap (λ (j : ℕ). is_some (u.nodes j)) e ∙ ap is_some c.now ∙ sym (ap (λ (j : ℕ). is_some (t.nodes j)) e ∙ ap is_some c.was)
    | inr e ↦ ap is_some (c.others k e)
  ]

  pub here : (n : ℕ) → names_for u d n + weight (is_it n) lost ≡ names_for t d n + weight (is_it n) gained
  here n = let x = ap (λ (y : Option Node). leading_to n (names_in y)) c.now in let y = ap (λ (y : Option Node). leading_to n (names_in y)) c.was in let s = c.counts (is_it n) in omega (arith, x, y, s)

  pub elsewhere : (dir n : ℕ) → dir ≢ d → names_for u dir n ≡ names_for t dir n
  elsewhere dir n e = ap (λ (y : Option Node). leading_to n (names_in y)) (c.others dir e)

  untouched : (dir n : ℕ) → weight (is_it n) lost ≡ 0 → weight (is_it n) gained ≡ 0 → names_for u dir n ≡ names_for t dir n
  untouched dir n l g = elim (eq_or_not dir d) [
    | inl e ↦ ap (λ (k : ℕ). names_for u k n) e ∙ (let h = here n in omega (arith, h, l, g)) ∙ sym (ap (λ (k : ℕ). names_for t k n) e)
    | inr e ↦ elsewhere dir n e
  ]

  -- a directory's names for an object, before and after
  pub counted : (dir n : ℕ) → names_for u dir n + (if dir == d then weight (is_it n) lost else 0) ≡ names_for t dir n + (if dir == d then weight (is_it n) gained else 0)
  counted dir n = elim (eq_or_not dir d) [
    | inl e ↦ subst (λ (k : ℕ). names_for u k n + (if k == d then weight (is_it n) lost else 0) ≡ names_for t k n + (if k == d then weight (is_it n) gained else 0)) (sym e)
        (rw (eq-eqb d d refl) (here n))
    | inr e ↦ rw (ne_eqb dir d e) (let h = elsewhere dir n e in omega (arith, h))
  ]

module _ (most : ℕ) (before loose : ℕ → Bool) (t u : Tree) (up down : List ℕ) (b : Books most before t up down) (d : ℕ) (o p : Node) (lost gained : Option ℕ) (ups downs : List ℕ)
    (c : Changes t u loose d o p lost gained ups downs) (root_stays : loose root ≡ false) (wider : (n : ℕ) → loose n ≡ false → before n ≡ false) where
  low : d < most
  low = elim (cases_lt d most) [ inl l ↦ l | inr l ↦ absurd (cc (b.within d l, c.was)) ]

  pub in_all : (n : ℕ) → names_to most u n + weight (is_it n) lost ≡ names_to most t n + weight (is_it n) gained
  in_all n = let s = sum_put most (λ dir. names_for t dir n) (λ dir. names_for u dir n) d low (λ dir _ e. elsewhere t u loose d o p lost gained ups downs c dir n e) in let h = here t u loose d o p lost gained ups downs c n in omega (arith, s, h)

  same_subs : (es : List NameEntry) → subdirectories u es ≡ subdirectories t es
  same_subs es = same_subdirectories t u es (λ k l. same_directory t u loose d o p lost gained ups downs c k)

  -- what a name is due to, of a file and of a directory
  of_file : (n : ℕ) → is_directory (t.nodes n) ≡ false → n ≢ d → (x : Option ℕ) → count_in n (charges t d x) ≡ weight (is_it n) x
  of_file n file apart None = refl
  of_file n file apart (Some k) = by (is_directory (t.nodes k)) refl
    where
      by : (x : Bool) → is_directory (t.nodes k) ≡ x → (if (if x then d else k) == n then 1 else 0) + 0 ≡ is_it n k
      by true e = ap (λ (x : Bool). (if x then 1 else 0) + 0) (ne_eqb d n (λ s. apart (sym s))) ∙ sym (ap number_of (ne_eqb k n (λ s. true≢false (sym e ∙ ap (λ (j : ℕ). is_directory (t.nodes j)) s ∙ file))))
      by false e = omega arith

  of_other : (n : ℕ) → is_directory (t.nodes n) ≡ true → n ≢ d → (x : Option ℕ) → count_in n (charges t d x) ≡ 0
  of_other n dir apart None = refl
  of_other n dir apart (Some k) = by (is_directory (t.nodes k)) refl
    where
      by : (x : Bool) → is_directory (t.nodes k) ≡ x → (if (if x then d else k) == n then 1 else 0) + 0 ≡ 0
      by true e = ap (λ (x : Bool). (if x then 1 else 0) + 0) (ne_eqb d n (λ s. apart (sym s)))
      by false e = ap (λ (x : Bool). (if x then 1 else 0) + 0) (ne_eqb k n (λ s. true≢false (sym dir ∙ sym (ap (λ (j : ℕ). is_directory (t.nodes j)) s) ∙ e)))

  of_this : is_directory (t.nodes d) ≡ true → (x : Option ℕ) → count_in d (charges t d x) ≡ weight (is_sub t) x
  of_this dir None = refl
  of_this dir (Some k) = by (is_directory (t.nodes k)) refl
    where
      by : (x : Bool) → is_directory (t.nodes k) ≡ x → (if (if x then d else k) == d then 1 else 0) + 0 ≡ cond x 1 0
      by true e = ap (λ (x : Bool). (if x then 1 else 0) + 0) (eq-eqb d d refl)
      by false e = ap (λ (x : Bool). (if x then 1 else 0) + 0) (ne_eqb k d (λ s. true≢false (sym dir ∙ sym (ap (λ (j : ℕ). is_directory (t.nodes j)) s) ∙ e)))

  due_other : (n : ℕ) (x : Node) → n ≢ d → t.nodes n ≡ Some x → links_due most u n x + count_in n (charges t d lost) ≡ links_due most t n x + count_in n (charges t d gained)
  due_other n x apart there = by (is_dir x.kind) refl
    where
      by : (k : Bool) → is_dir x.kind ≡ k → (if k then 2 + subdirectories u x.names else names_to most u n) + count_in n (charges t d lost) ≡ (if k then 2 + subdirectories t x.names else names_to most t n) + count_in n (charges t d gained)
      by true e = let l = of_other n (ap is_directory there ∙ e) apart lost in let g = of_other n (ap is_directory there ∙ e) apart gained in let s = same_subs x.names in omega (arith, l, g, s)
      by false e = let l = of_file n (ap is_directory there ∙ e) apart lost in let g = of_file n (ap is_directory there ∙ e) apart gained in let s = in_all n in omega (arith, l, g, s)

  due_here : links_due most u d p + count_in d (charges t d lost) ≡ links_due most t d o + count_in d (charges t d gained)
  due_here = ap (λ (k : Bool). (if k then 2 + subdirectories u p.names else names_to most u d) + count_in d (charges t d lost)) c.kind ∙ by (is_dir o.kind) refl
    where
      by : (k : Bool) → is_dir o.kind ≡ k → (if k then 2 + subdirectories u p.names else names_to most u d) + count_in d (charges t d lost) ≡ (if k then 2 + subdirectories t o.names else names_to most t d) + count_in d (charges t d gained)
      by true e = let l = of_this (ap is_directory c.was ∙ e) lost in let g = of_this (ap is_directory c.was ∙ e) gained in let s = same_subs p.names in let w = c.counts (is_sub t) in omega (arith, l, g, s, w)
      by false e =
          let none = c.directory e in
          let l = ap (λ (x : Option ℕ). count_in d (charges t d x)) none.0 in let g = ap (λ (x : Option ℕ). count_in d (charges t d x)) none.1 in
          let lw = ap (weight (is_it d)) none.0 in let gw = ap (weight (is_it d)) none.1 in let s = in_all d in omega (arith, l, g, lw, gw, s)

  links_are : (n : ℕ) (x : Node) → u.nodes n ≡ Some x → is_reserved n ≡ false → x.links + count_in n (charges t d gained ++ (ups ++ up)) ≡ links_due most u n x + count_in n (charges t d lost ++ (downs ++ down))
  links_are n x there free =
      let cu = count_append n (charges t d gained) (ups ++ up) in let cu2 = count_append n ups up in
      let cd = count_append n (charges t d lost) (downs ++ down) in let cd2 = count_append n downs down in
      let s = by (eq_or_not n d) in
      omega (arith, s, cu, cu2, cd, cd2)
    where
      here_is : (k : ℕ) (y : Node) → k ≡ d → p ≡ y → is_reserved k ≡ false → y.links + (count_in k (charges t d gained) + (count_in k ups + count_in k up)) ≡ links_due most u k y + (count_in k (charges t d lost) + (count_in k downs + count_in k down))
      here_is k y e x_is free =
          subst (λ (j : ℕ). y.links + (count_in j (charges t d gained) + (count_in j ups + count_in j up)) ≡ links_due most u j y + (count_in j (charges t d lost) + (count_in j downs + count_in j down))) (sym e)
          (subst (λ (z : Node). z.links + (count_in d (charges t d gained) + (count_in d ups + count_in d up)) ≡ links_due most u d z + (count_in d (charges t d lost) + (count_in d downs + count_in d down))) x_is
          (let old = b.links d o c.was (ap is_reserved (sym e) ∙ free) in let due = due_here in let l = c.links in omega (arith, old, due, l)))

      by : (n ≡ d) ⊎ (n ≢ d) → x.links + (count_in n (charges t d gained) + (count_in n ups + count_in n up)) ≡ links_due most u n x + (count_in n (charges t d lost) + (count_in n downs + count_in n down))
      by (inl e) = here_is n x e (some_is (sym c.now ∙ sym (ap u.nodes e) ∙ there)) free
      by (inr e) = let was = sym (c.others n e) ∙ there in
          let old = b.links n x was free in let due = due_other n x e was in let a = c.only_ups n e in let z = c.only_downs n e in omega (arith, old, due, a, z)

  may_be : (n : ℕ) → MayBeNamed t n → MayBeNamed u n
  may_be n m = (m.0, same_there t u loose d o p lost gained ups downs c n ∙ m.1)

  names_are : (dir n : ℕ) → 0 < names_for u dir n → MayBeNamed u n
  names_are dir n l = elim (eq_or_not dir d) [
    | inl e ↦ elim (zero_or_more (weight (is_it n) gained)) [
      | inl z ↦ may_be n (b.names d n (let h = here t u loose d o p lost gained ups downs c n in let s = ap (λ (k : ℕ). names_for u k n) e in omega (arith, h, s, z, l)))
      | inr g ↦ may_be n (c.fit n g)
    ]
    | inr e ↦ may_be n (b.names dir n (let h = elsewhere t u loose d o p lost gained ups downs c dir n e in omega (arith, h, l)))
  ]

  -- a node and that of the tree before
  parents_are : (n : ℕ) (x : Node) → u.nodes n ≡ Some x → is_dir x.kind ≡ true → 4 ≤ n → loose n ≡ false → HasItsName u n x
  parents_are n x there dir late apart wh =
      let old_dir = sym (same_directory t u loose d o p lost gained ups downs c n) ∙ ap is_directory there ∙ dir in
      let s = c.settled n old_dir apart in
      untouched t u loose d o p lost gained ups downs c wh n s.0 s.1 ∙ elim (eq_or_not n d) [
        | inl e ↦ (let x_is = some_is (sym c.now ∙ sym (ap u.nodes e) ∙ there) in
            b.parents n o (ap t.nodes e ∙ c.was) (sym (ap is_directory (ap t.nodes e ∙ c.was)) ∙ old_dir) late (wider n apart) wh
            ∙ ap (λ (k : ℕ). bit (wh == k)) (sym (c.parent (ap loose (sym e) ∙ apart)) ∙ ap (λ (y : Node). y.parent) x_is))
        | inr e ↦ b.parents n x (sym (c.others n e) ∙ there) dir late (wider n apart) wh
      ]

  files_are : (n : ℕ) (x : Node) → u.nodes n ≡ Some x → is_dir x.kind ≡ false → x.names ≡ []
  files_are n x there file = elim (eq_or_not n d) [
    | inl e ↦ (let x_is = some_is (sym c.now ∙ sym (ap u.nodes e) ∙ there) in
        let was_file = sym c.kind ∙ ap (λ (y : Node). is_dir y.kind) x_is ∙ file in
        sym (ap (λ (y : Node). y.names) x_is) ∙ (c.directory was_file).2 ∙ b.files d o c.was was_file)
    | inr e ↦ b.files n x (sym (c.others n e) ∙ there) file
  ]

  top_is : (x : Node) × IsRoot u x
  top_is = elim (eq_or_not root d) [
    | inl e ↦ (let o_is = some_is (sym c.was ∙ sym (ap t.nodes e) ∙ b.top.1.there) in (
      p,
      record {
        there = ap u.nodes e ∙ c.now;
        directory = c.kind ∙ ap (λ (y : Node). is_dir y.kind) o_is ∙ b.top.1.directory;
        parent = c.parent (ap loose (sym e) ∙ root_stays) ∙ ap (λ (y : Node). y.parent) o_is ∙ b.top.1.parent;
      },
    ))
    | inr e ↦ (b.top.0, record { there = c.others root e ∙ b.top.1.there; directory = b.top.1.directory; parent = b.top.1.parent })
  ]

  pub changed_books : Books most loose u (charges t d gained ++ (ups ++ up)) (charges t d lost ++ (downs ++ down))
  changed_books = record {
    within = λ n l. c.others n (λ e. (let i = low in let s = e in absurd (omega (arith, l, i, s)))) ∙ b.within n l;
    top = top_is;
    files = files_are;
    names = names_are;
    links = links_are;
    parents = parents_are;
  }
