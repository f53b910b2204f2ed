-- A sound volume is consistent.
use Rattle.std.proofs.Common.{◌≡◌, ◌≢◌, ◌≤◌, ◌<◌, inl, inr, refl, sym, ap, ◌∙◌, subst, ℕ, zero, suc, ◌+◌, ◌==◌, Bool, true, false, not, if◌then◌else◌, List, [], ◌∷◌, Option, Some, None, is_some, option_map, arith}
use Rattle.std.specs.Prelude.{cond}
use Rattle.std.specs.declared.result.Result.{Result}
use Rattle.std.proofs.lemmas.Bool.{cases_lt, eqb-true, eq-eqb, ne_eqb, and_parts}
use Rattle.std.proofs.lemmas.Bool.Decides.{nat_tests}
use Rattle.std.proofs.lemmas.List.Sums.{sum_by-cons}
use Rattle.jfs_bits.specs.declared.rule.Rule.{Rule}
use Rattle.jfs_name.specs.declared.name.NameEntry.{NameEntry}
use Rattle.jfs_mount.specs.plain.specs.Tree.{root, is_dir}
use Rattle.jfs_mount.specs.plain.specs.declared.node.Node.{Node}
use Rattle.jfs_mount.specs.page_tree.specs.Walk.{Mark, Marks, Page, Key, Row, Fault, rows_of}
use Rattle.jfs_mount.specs.page_tree.specs.Spells.{tree_of}
use Rattle.jfs_mount.specs.page_tree.proofs.Judge.{judged}
use Rattle.jfs_mount.specs.objects.specs.Volume.{slot_of}
use Rattle.jfs_mount.specs.objects.specs.Objects.{Object, has_names, spelled, listed}
use Rattle.jfs_mount.specs.objects.specs.Owners.{bit, entries}
use Rattle.jfs_mount.specs.objects.proofs.Owned.{outside}
use Rattle.jfs_mount.specs.objects.proofs.Found.{object_at}
use Rattle.jfs_mount.specs.objects.proofs.Sums.{eq_or_not, sum_one, sum_two, sum_zero}
use Rattle.jfs_mount.specs.meaning.specs.Node.{node_in}
use Rattle.jfs_mount.specs.meaning.specs.Consistent.{is_reserved, leading_to, names_in, names_for, names_to, links_due, MayBeNamed, HasItsName, IsRoot, IsConsistent}
use Rattle.jfs_mount.specs.Subject.{Subject, volume, object}
use Rattle.jfs_findings.specs.Names.{readable, readable_node, most, leads, StandsAt}
use Rattle.jfs_findings.specs.Clean.{IsSoundVolume, IsTidy}
use Rattle.jfs_findings.proofs.Mounted.{mounted, has_top}
use Rattle.jfs_findings.proofs.Readable.{file_tree, same_nodes, spelled_object, kind_is, same_for, same_counts, same_links}

some_is : {A : Type 0} {x y : A} → Some x ≡ Some y → x ≡ y
some_is h = cc h

none_is : {A : Type 0} (a : A) → None ≡ Some a → ⊥
none_is a h = cc h

-- ---- a name that is counted stands somewhere

behind : (m : Mark (List ℕ) NameEntry) (ms : Marks (List ℕ) NameEntry) (page : ℕ) (e : NameEntry) → StandsAt page e ms → StandsAt page e (m ∷ ms)
behind m ms page e at = record { front = m ∷ at.front; back = at.back; at = ap (λ (t : Marks (List ℕ) NameEntry). m ∷ t) at.at }

counted : (s : Subject) (ms : Marks (List ℕ) NameEntry) → ((page : ℕ) (e : NameEntry) → StandsAt page e ms → leads s e.inode ≡ true) → (n : ℕ) → 0 < leading_to n (rows_of ms) → leads s n ≡ true
counted s [] h n l = absurd (omega (arith, l))
counted s (Page m ∷ ms) h n l = counted s ms (λ page e at. h page e (behind (Page m) ms page e at)) n l
counted s (Key m k ∷ ms) h n l = counted s ms (λ page e at. h page e (behind (Key m k) ms page e at)) n l
counted s (Fault m r ∷ ms) h n l = counted s ms (λ page e at. h page e (behind (Fault m r) ms page e at)) n l
counted s (Row m x ∷ ms) h n l =
    by (x.inode == n) refl (let c = sum_by-cons (λ (e : NameEntry). cond (e.inode == n) 1 0) x (rows_of ms) in omega (arith, c, l)) (λ l. counted s ms (λ page e at. h page e (behind (Row m x) ms page e at)) n l)
  where
    by : (b : Bool) → (x.inode == n) ≡ b → 0 < cond b 1 0 + leading_to n (rows_of ms) → (0 < leading_to n (rows_of ms) → leads s n ≡ true) → leads s n ≡ true
    by true e l more = subst (λ (k : ℕ). leads s k ≡ true) (eqb-true x.inode n e) (h m x (record { front = []; back = ms; at = refl }))
    by false e l more = more (omega (arith, l))

module _ (s : Subject) (is : IsSoundVolume s) where
  nodes_are : (n : ℕ) → (file_tree s).nodes n ≡ (readable s).nodes n
  nodes_are = same_nodes s is.sound.whole

  -- a node is that of an object
  of_object : (n : ℕ) (node : Node) → (file_tree s).nodes n ≡ Some node → (o : Object) × (object s n ≡ Some o) × (readable_node s o ≡ node)
  of_object n node h = by (object s n) refl
    where
      by : (o : Option Object) → object s n ≡ o → (o : Object) × (object s n ≡ Some o) × (readable_node s o ≡ node)
      by None e = absurd (none_is node (sym (ap (option_map (readable_node s)) e) ∙ sym (nodes_are n) ∙ h))
      by (Some o) e = (o, e, some_is (sym (ap (option_map (readable_node s)) e) ∙ sym (nodes_are n) ∙ h))

  none_past : (n : ℕ) → most s ≤ n → (file_tree s).nodes n ≡ None
  none_past n l = ap (node_in s.readers s.page) (outside s.readers (volume s) n l)

  few_past : (dir n : ℕ) → most s ≤ dir → names_for (file_tree s) dir n ≡ 0
  few_past dir n l = ap (λ (o : Option Node). leading_to n (names_in o)) (none_past dir l)

  -- ---- the root

  top_object : (o : Object) × (object s 2 ≡ Some o) × (has_names o.inode ≡ true)
  unfolding spelled
  top_object =
      let m = mounted s is.mounts in
      let t = has_top s m in
      (spelled s.readers s.page (slot_of (s.page t.0) 2), object_at s.readers (volume s) 2 t.0 (slot_of (s.page t.0) 2) t.1.stands refl refl, t.1.directory)

  top_is : (o : Node) × IsRoot (file_tree s) o
  top_is =
      let t = top_object in (
        readable_node s t.0,
        record {
          there = nodes_are root ∙ ap (option_map (readable_node s)) t.1;
          directory = kind_is t.0.inode ∙ t.2;
          parent = ((is.parents root t.0 t.1 t.2).top refl).0;
        },
      )

  root_unnamed : names_to (most s) (file_tree s) root ≡ 0
  root_unnamed = let t = top_object in same_counts (file_tree s) (readable s) nodes_are (most s) root ∙ ((is.parents root t.0 t.1 t.2).top refl).1

  -- ---- names

  led : (dir n : ℕ) → 0 < names_for (file_tree s) dir n → leads s n ≡ true
  led dir n l = by (object s dir) refl
    where
      by : (o : Option Object) → object s dir ≡ o → leads s n ≡ true
      by None e = absurd (let z = same_for (file_tree s) (readable s) nodes_are dir n ∙ ap (λ o. leading_to n (names_in (option_map (readable_node s) o))) e in omega (arith, l, z))
      by (Some o) e =
          let w = is.sound.whole dir o e in
          let j = judged s.readers.names_order s.readers.names_order.least o.names w.names w.names_are in
          let same : names_for (file_tree s) dir n ≡ leading_to n (rows_of o.names) =
          same_for (file_tree s) (readable s) nodes_are dir n
          ∙ ap (λ o. leading_to n (names_in (option_map (readable_node s) o))) e
          ∙ ap (λ (r : Result (List NameEntry) (ℕ × Rule)). leading_to n (entries r)) w.names_are
          ∙ ap (leading_to n) (sym j.1) in
          counted s o.names (is.names dir o e) n (subst (λ (k : ℕ). 0 < k) same l)

  -- one that isn't reserved and isn't the root
  from_four : (n : ℕ) → not (is_reserved n) ≡ true → n ≢ 2 → 4 ≤ n
  from_four zero h other = absurd (cc h)
  from_four (suc zero) h other = absurd (cc h)
  from_four (suc (suc zero)) h other = absurd (other refl)
  from_four (suc (suc (suc zero))) h other = absurd (cc h)
  from_four (suc (suc (suc (suc n)))) h other = omega arith

  isnt_root : (dir n : ℕ) → 0 < names_for (file_tree s) dir n → n ≢ 2
  isnt_root dir n l e = elim (cases_lt dir (most s)) [
    | inl w ↦ (let one = sum_one (most s) (λ d. names_for (file_tree s) d root) dir w in let z = root_unnamed in let p = ap (names_for (file_tree s) dir) e in omega (arith, one, z, l, p))
    | inr w ↦ (let z = few_past dir n w in omega (arith, z, l))
  ]

  may_be_named : (dir n : ℕ) → 0 < names_for (file_tree s) dir n → MayBeNamed (file_tree s) n
  may_be_named dir n l =
      let p = and_parts (is_some (object s n)) (not (is_reserved n)) (led dir n l) in
      (from_four n p.1 (isnt_root dir n l), ap is_some (nodes_are n) ∙ mapped (object s n) ∙ p.0)
    where
      mapped : (o : Option Object) → is_some (option_map (readable_node s) o) ≡ is_some o
      mapped None = refl
      mapped (Some o) = refl

  -- a file has no names
  file_names : (n : ℕ) (node : Node) → (file_tree s).nodes n ≡ Some node → is_dir node.kind ≡ false → node.names ≡ []
  unfolding spelled
  file_names n node h k =
      let o = of_object n node h in
      let no : has_names o.0.inode ≡ false = sym (kind_is o.0.inode) ∙ ap (λ (x : Node). is_dir x.kind) o.2 ∙ k in
      sym (ap (λ (x : Node). x.names) o.2)
      ∙ ap (λ (x : Object). entries (listed s.readers.names_order x.names)) (spelled_object s.readers (volume s) n o.0 o.1)
      ∙ ap (λ (b : Bool). entries (listed s.readers.names_order (if b then tree_of s.readers.names_order (λ b. s.readers.names_page (s.page b)) (s.readers.names_root o.0.inode) else []))) no

  -- ---- link counts and parents

  links_are : (n : ℕ) (node : Node) → (file_tree s).nodes n ≡ Some node → is_reserved n ≡ false → node.links ≡ links_due (most s) (file_tree s) n node
  links_are n node h k =
      let o = of_object n node h in
      subst (λ (x : Node). x.links ≡ links_due (most s) (file_tree s) n x) o.2
      (is.links n o.0 o.1 k ∙ sym (same_links (file_tree s) (readable s) nodes_are (most s) n (readable_node s o.0)))

  has_its_name : (n : ℕ) (node : Node) → (file_tree s).nodes n ≡ Some node → is_dir node.kind ≡ true → 4 ≤ n → HasItsName (file_tree s) n node
  has_its_name n node h k l dir =
      let o = of_object n node h in
      let placed = (is.parents n o.0 o.1 (sym (kind_is o.0.inode) ∙ ap (λ (x : Node). is_dir x.kind) o.2 ∙ k)).below (λ e. omega (arith, e, l)) in
      let parent : (readable_node s o.0).parent ≡ node.parent = ap (λ (x : Node). x.parent) o.2 in
      let here : names_for (file_tree s) node.parent n ≡ 1 = same_for (file_tree s) (readable s) nodes_are node.parent n ∙ ap (λ (d : ℕ). names_for (readable s) d n) (sym parent) ∙ placed.by_parent in
      let all : names_to (most s) (file_tree s) n ≡ 1 = same_counts (file_tree s) (readable s) nodes_are (most s) n ∙ placed.one in
      elim (eq_or_not dir node.parent) [
        | inl e ↦ ap (λ (d : ℕ). names_for (file_tree s) d n) e ∙ here ∙ sym (ap bit (eq-eqb dir node.parent e))
        | inr other ↦ none_else node.parent here all other ∙ sym (ap bit (ne_eqb dir node.parent other))
      ]
    where
      none_else : (parent : ℕ) → names_for (file_tree s) parent n ≡ 1 → names_to (most s) (file_tree s) n ≡ 1 → dir ≢ parent → names_for (file_tree s) dir n ≡ 0
      none_else parent here all other = elim (cases_lt dir (most s)) [
        | inr past ↦ few_past dir n past
        | inl w ↦ elim (cases_lt parent (most s)) [
          | inl v ↦ (let two = sum_two (most s) (λ d. names_for (file_tree s) d n) parent dir v w other in omega (arith, two, here, all))
          | inr past ↦ absurd (let z = few_past parent n past in omega (arith, z, here))
        ]
      ]

  pub consistent : IsConsistent s.readers (volume s)
  consistent = record {
    sound = is.sound;
    inodes = is.inodes;
    tree = record {
      within = none_past;
      top = top_is;
      files = file_names;
      names = may_be_named;
      links = links_are;
      parents = has_its_name;
    };
  }

  -- no reserved inode has a name, and so none is a directory
  never_named : (n : ℕ) → n < 4 → names_to (most s) (file_tree s) n ≡ 0
  never_named n l = sum_zero (most s) (λ dir. names_for (file_tree s) dir n) (λ dir. elim (cases_lt 0 (names_for (file_tree s) dir n)) [
    | inl some ↦ absurd (let m = (may_be_named dir n some).0 in omega (arith, m, l))
    | inr none ↦ omega (arith, none)
  ])

  not_reserved : (n : ℕ) (o : Object) → object s n ≡ Some o → has_names o.inode ≡ true → is_reserved n ≡ false
  not_reserved n o e d = by (is_reserved n) refl
    where
      low : (n : ℕ) → is_reserved n ≡ true → (n < 4) × (n ≢ 2)
      low n h = (grind (arith, nat_tests), λ e. cc (sym (ap is_reserved e) ∙ h))

      by : (x : Bool) → is_reserved n ≡ x → is_reserved n ≡ false
      by false h = h
      by true h = absurd (let w = low n h in let one = ((is.parents n o e d).below w.1).one in let zero_is = never_named n w.0 in let same = same_counts (file_tree s) (readable s) nodes_are (most s) n in omega (arith, one, zero_is, same))

  pub tidy : IsTidy s
  tidy = record {
    mounts = is.mounts;
    files = is.files;
    reserved = not_reserved;
    nblocks = is.nblocks;
    ends = is.ends;
    full = is.full;
    block_map = is.block_map;
    inode_map = is.inode_map;
  }
