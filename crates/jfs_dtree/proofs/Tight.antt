-- The way of a name, page by page: whether each page has too few free slots.
use Rattle.std.proofs.Common.{◌≡◌, ◌≤◌, ◌<◌, inl, inr, refl, sym, ap, ◌∙◌, subst, ℕ, zero, suc, ◌==◌, ◌&&◌, Bool, true, false, List, [], ◌∷◌, ◌++◌, Option, Some, None, Result, Ok, Err, IfOk, arith}
use Rattle.std.specs.Prelude.{nat_lt}
use Rattle.std.specs.List.{list_all}
use Rattle.std.proofs.lemmas.Bool.Decides.{nat_tests}
use Rattle.jfs_bits.specs.declared.rule.Rule.{Rule}
use Rattle.jfs_name.specs.declared.name.NameEntry.{NameEntry}
use Rattle.jfs_ranges.specs.declared.view.ViewError.{ViewError}
use Rattle.jfs_dtpage.specs.Form.{free_of}
use Rattle.jfs_dtpage.specs.declared.head.DtForm.TheVariants.{Full}
use Rattle.jfs_tree.specs.Walk.{Child, Node, Leaf, Inner, Broken, Rises, placed, body, walk}
use Rattle.jfs_tree.specs.Spells.{no_page, with_root, levels_of, top}
use Rattle.jfs_tree.specs.Edit.{own}
use Rattle.jfs_tree.specs.Form.{LeadsDown, IsLeaf}
use Rattle.jfs_tree.specs.Path.{way_of, path_of}
use Rattle.jfs_tree.specs.Room.{FullDown, FullFrom}
use Rattle.jfs_tree.proofs.Path.{path_zero, path_leaf, path_next, child_among}
use Rattle.jfs_tree.proofs.Finding.{leaf_level, inner_level, broken_level}
use Rattle.jfs_tree.proofs.Adding.{inner_part}
use Rattle.jfs_tree.proofs.Growing.{own_page}
use Rattle.jfs_tree.proofs.Spelled.{stands, levels_found}
use Rattle.jfs_tree.proofs.Rooms.{leaf_levels}
use Rattle.jfs_tree.proofs.RootCalls.{part_off, names_root}
use Rattle.jfs_dtree.specs.Laws.{order}
use Rattle.jfs_dtree.specs.Node.{name_scale, dt_node, HasNoRoom}
use Rattle.jfs_dtree.specs.Spells.{root_node, page_nodes}
use Rattle.jfs_dtree.specs.Room.{is_eight, is_tight, is_deep, DeepIs, child_tight, node_tight, tight_below}

-- ---- one page

pub tight_at : (blocks : ℕ) (pages : ℕ → List ℕ) (name : List ℕ) (left page : ℕ) (node : Node (List ℕ) NameEntry) → page_nodes blocks pages page ≡ node
    → tight_below blocks pages name (suc left) page ≡ (is_tight (pages page) && node_tight (tight_below blocks pages name left) left name node)
unfolding tight_below
tight_at blocks pages name left page node is = ap (λ n. is_tight (pages page) && node_tight (tight_below blocks pages name left) left name n) is

tight_never : (blocks : ℕ) (pages : ℕ → List ℕ) (name : List ℕ) (page : ℕ) → tight_below blocks pages name zero page ≡ false
unfolding tight_below
tight_never blocks pages name page = refl

pub leads_tight : (below : ℕ → Bool) (left : ℕ) (name : List ℕ) (node : Node (List ℕ) NameEntry) (child : ℕ) → way_of name_scale name node ≡ Some child → node_tight below left name node ≡ below child
leads_tight below left name (Leaf es) child h = cc
leads_tight below left name (Inner cs) child h = ap (child_tight below) h
leads_tight below left name (Broken rule) child h = cc

both : (t z l : Bool) → (t && (z && l)) ≡ (z && (t && l))
both true z l = refl
both false true l = refl
both false false l = refl

never : (t l : Bool) → (t && false) ≡ (false && l)
never true l = refl
never false l = refl

alone : (t z : Bool) → (t && z) ≡ (z && (t && true))
alone true true = refl
alone true false = refl
alone false true = refl
alone false false = refl

-- ---- the way below a page of a tree that spells names

no_children : (nodes : ℕ → Node (List ℕ) NameEntry) (levels : ℕ) (c : Child (List ℕ)) (low : List ℕ) (high : Option (List ℕ)) → nodes c.page ≡ Inner [] → Rises name_scale low (walk name_scale nodes levels c) high → ⊥
unfolding walk
no_children nodes zero c low high is r = r
no_children nodes (suc zero) c low high is r = subst (λ node. Rises name_scale c.key (body (walk name_scale nodes zero) c (placed name_scale zero c.key node)) high) is r.1
no_children nodes (suc (suc below)) c low high is r = subst (λ node. Rises name_scale c.key (body (walk name_scale nodes (suc below)) c (placed name_scale (suc below) c.key node)) high) is r.1

one_level : (left levels : ℕ) → levels ≡ 1 → (left == 0) ≡ (levels == suc left)
one_level left levels h = grind (arith, nat_tests)

next_level : (below left levels : ℕ) → levels ≡ suc (suc below) → (suc below == suc left) ≡ (levels == suc (suc left))
next_level below left levels h = grind (arith, nat_tests)

not_one : (below levels : ℕ) → levels ≡ suc (suc below) → false ≡ (levels == 1)
not_one below levels h = grind (arith, nat_tests)

module _ (blocks : ℕ) (pages : ℕ → List ℕ) (name : List ℕ) where
  abbrev all_tight : List ℕ → Bool
  all_tight ns = list_all (λ n. is_tight (pages n)) ns

  abbrev path_from : ℕ → ℕ → List ℕ
  path_from left page = path_of name_scale (page_nodes blocks pages) name left (page_nodes blocks pages page)

  -- so many levels, and each page on the way is tight
  abbrev pub TightIs : ℕ → ℕ → ℕ → Type 0
  TightIs left levels page = tight_below blocks pages name (suc left) page ≡ ((levels == suc left) && (is_tight (pages page) && list_all (λ n. is_tight (pages n)) (path_of name_scale (page_nodes blocks pages) name left (page_nodes blocks pages page))))

  tight_leaf : (left levels page : ℕ) (es : List NameEntry) → levels ≡ 1 → page_nodes blocks pages page ≡ Leaf es → TightIs left levels page
  tight_leaf left levels page es at is =
      tight_at blocks pages name left page (Leaf es) is
      ∙ ap (λ b. is_tight (pages page) && b) (one_level left levels at)
      ∙ alone (is_tight (pages page)) (levels == suc left)
      ∙ ap (λ path. (levels == suc left) && (is_tight (pages page) && all_tight path)) (sym (path_leaf name_scale (page_nodes blocks pages) name left (page_nodes blocks pages page) (ap (way_of name_scale name) is)))

  tight_last : (levels page child below : ℕ) (cs : List (Child (List ℕ))) → levels ≡ suc (suc below) → page_nodes blocks pages page ≡ Inner cs → way_of name_scale name (page_nodes blocks pages page) ≡ Some child → TightIs zero levels page
  tight_last levels page child below cs at is to =
      tight_at blocks pages name zero page (page_nodes blocks pages page) refl
      ∙ ap (λ b. is_tight (pages page) && b) (leads_tight (tight_below blocks pages name zero) zero name (page_nodes blocks pages page) child to ∙ tight_never blocks pages name child)
      ∙ never (is_tight (pages page)) (is_tight (pages page) && all_tight (path_from zero page))
      ∙ ap (λ b. b && (is_tight (pages page) && all_tight (path_from zero page))) (not_one below levels at)

  tight_more : (left levels page child below : ℕ) → levels ≡ suc (suc below) → way_of name_scale name (page_nodes blocks pages page) ≡ Some child → TightIs left (suc below) child → TightIs (suc left) levels page
  tight_more left levels page child below at to there =
      tight_at blocks pages name (suc left) page (page_nodes blocks pages page) refl
      ∙ ap (λ b. is_tight (pages page) && b) (leads_tight (tight_below blocks pages name (suc left)) (suc left) name (page_nodes blocks pages page) child to ∙ there)
      ∙ both (is_tight (pages page)) (suc below == suc left) (is_tight (pages child) && all_tight (path_from left child))
      ∙ ap (λ path. (suc below == suc left) && (is_tight (pages page) && all_tight path)) (sym (path_next name_scale (page_nodes blocks pages) name left child (page_nodes blocks pages page) to))
      ∙ ap (λ b. b && (is_tight (pages page) && all_tight (path_from (suc left) page))) (next_level below left levels at)

  -- the part of what rises below the child to which an inner page leads
  record Onward (levels : ℕ) (page : ℕ) : Type 0 where
    below : ℕ
    at : levels ≡ suc (suc below)
    child : Child (List ℕ)
    to : way_of name_scale name (page_nodes blocks pages page) ≡ Some child.page
    low : List ℕ
    high : Option (List ℕ)
    rises : Rises name_scale low (walk name_scale (page_nodes blocks pages) (suc below) child) high

  onward : (levels : ℕ) (c : Child (List ℕ)) (low : List ℕ) (high : Option (List ℕ)) (d : Child (List ℕ)) (ds : List (Child (List ℕ))) → Rises name_scale low (walk name_scale (page_nodes blocks pages) levels c) high
      → page_nodes blocks pages c.page ≡ Inner (d ∷ ds) → Onward levels c.page
  onward levels c low high d ds r is =
      let l = inner_level name_scale (page_nodes blocks pages) levels c (d ∷ ds) low high is r in
      let k = child_among name_scale name d ds in
      let part = inner_part name_scale order (page_nodes blocks pages) l.0 c k.0 k.1 k.2 low high (is ∙ ap (λ cs. Inner cs) k.3) (subst (λ i. Rises name_scale low (walk name_scale (page_nodes blocks pages) i c) high) l.1 r) in
      record {
        below = l.0;
        at = l.1;
        child = own c.key k.0 k.1;
        to = ap (way_of name_scale name) is ∙ ap Some (sym k.4 ∙ sym (own_page c.key k.0 k.1));
        low = part.0;
        high = Some part.1;
        rises = part.2;
      }

  pub tight_is : (left levels : ℕ) (c : Child (List ℕ)) (low : List ℕ) (high : Option (List ℕ)) → Rises name_scale low (walk name_scale (page_nodes blocks pages) levels c) high → TightIs left levels c.page
  tight_is zero levels c low high r = by (page_nodes blocks pages c.page) refl
    where
      by : (node : Node (List ℕ) NameEntry) → page_nodes blocks pages c.page ≡ node → TightIs zero levels c.page
      by (Leaf es) is = tight_leaf zero levels c.page es (leaf_level name_scale (page_nodes blocks pages) levels c es low high is r) is
      by (Inner []) is = absurd (no_children (page_nodes blocks pages) levels c low high is r)
      by (Inner (d ∷ ds)) is = let o = onward levels c low high d ds r is in tight_last levels c.page o.child.page o.below (d ∷ ds) o.at is o.to
      by (Broken rule) is = absurd (broken_level name_scale (page_nodes blocks pages) levels c rule low high is r)
  tight_is (suc left) levels c low high r = by (tight_is left) (page_nodes blocks pages c.page) refl
    where
      by : ((levels : ℕ) (c : Child (List ℕ)) (low : List ℕ) (high : Option (List ℕ)) → Rises name_scale low (walk name_scale (page_nodes blocks pages) levels c) high → TightIs left levels c.page)
          → (node : Node (List ℕ) NameEntry) → page_nodes blocks pages c.page ≡ node → TightIs (suc left) levels c.page
      by deeper (Leaf es) is = tight_leaf (suc left) levels c.page es (leaf_level name_scale (page_nodes blocks pages) levels c es low high is r) is
      by deeper (Inner []) is = absurd (no_children (page_nodes blocks pages) levels c low high is r)
      by deeper (Inner (d ∷ ds)) is =
          let o = onward levels c low high d ds r is in
          tight_more left levels c.page o.child.page o.below o.at o.to (deeper (suc o.below) o.child o.low o.high o.rises)
      by deeper (Broken rule) is = absurd (broken_level name_scale (page_nodes blocks pages) levels c rule low high is r)

  -- ---- and from the root

  eight_is : (levels lower : ℕ) → levels ≡ suc (suc lower) → is_eight (Some levels) ≡ (suc lower == 7)
  eight_is levels lower h = by levels h
    where
      by : (n : ℕ) → n ≡ suc (suc lower) → (n == 8) ≡ (suc lower == 7)
      by n e = grind (arith, nat_tests)

  -- a root that is a leaf
  pub deep_leaf : (root : List ℕ) → IsLeaf (root_node blocks root) → is_deep blocks pages root name ≡ false
  deep_leaf root leaf = ap (λ o. is_eight o && all_tight (path_of name_scale (page_nodes blocks pages) name 7 (root_node blocks root))) (leaf_levels (root_node blocks root) (page_nodes blocks pages) leaf.0 leaf.1)

  -- a root that breaks a rule spells nothing
  pub deep_broken : (root : List ℕ) (rule : Rule) → root_node blocks root ≡ Broken rule → DeepIs blocks pages root name false
  deep_broken root rule is = λ es spelled. absurd ((names_root name_scale (page_nodes blocks pages) (root_node blocks root) rule is).1 es spelled)

  -- a root that leads to a child
  pub deep_down : (root : List ℕ) (x : NameEntry) (place child : ℕ) (deep : Bool) → x.name ≡ name → LeadsDown name_scale x (root_node blocks root) place child → tight_below blocks pages name 7 child ≡ deep → DeepIs blocks pages root name deep
  deep_down root x place child deep named leads tight = λ es spelled.
      elim (stands name_scale (page_nodes blocks pages) (root_node blocks root) es spelled) [
        | inl e ↦ absurd (no_leaf (leads.front ++ leads.child ∷ leads.back) (sym leads.is ∙ e.0))
        | inr st ↦
            let node = root_node blocks root in
            let l = inner_level name_scale (with_root node (page_nodes blocks pages)) st.levels (top name_scale) (leads.front ++ leads.child ∷ leads.back) [] None leads.is st.rises in
            let r = subst (λ i. Rises name_scale [] (walk name_scale (with_root node (page_nodes blocks pages)) i (top name_scale)) None) l.1 st.rises in
            let part = inner_part name_scale order (with_root node (page_nodes blocks pages)) l.0 (top name_scale) leads.front leads.child leads.back [] None leads.is r in
            let below = subst (λ ms. Rises name_scale part.0 ms (Some part.1)) (sym (part_off name_scale order node (page_nodes blocks pages) l.0 leads.front leads.child leads.back leads.is r)) part.2 in
            let to : way_of name_scale name node ≡ Some child = ap (λ n. way_of name_scale n node) (sym named) ∙ leads.alone in
            ap (λ o. is_eight o && all_tight (path_of name_scale (page_nodes blocks pages) name 7 node)) (levels_found name_scale order (with_root node (page_nodes blocks pages)) st.levels 8 (top name_scale) [] None st.most st.rises)
            ∙ ap (λ b. b && all_tight (path_of name_scale (page_nodes blocks pages) name 7 node)) (eight_is st.levels l.0 l.1)
            ∙ ap (λ path. (suc l.0 == 7) && all_tight path) (path_next name_scale (page_nodes blocks pages) name 6 child node to)
            ∙ sym (subst (TightIs 6 (suc l.0)) (own_page [] leads.front leads.child ∙ leads.to) (tight_is 6 (suc l.0) (own [] leads.front leads.child) part.0 (Some part.1) below))
            ∙ tight
      ]
    where
      no_leaf : (cs : List (Child (List ℕ))) → ◌≡◌ {A = Node (List ℕ) NameEntry} (Inner cs) (Leaf []) → ⊥
      no_leaf cs h = cc

  -- ---- a way without room

  tight_page : (page : ℕ) → HasNoRoom Full (pages page) → is_tight (pages page) ≡ true
  tight_page page full = few (free_of (pages page)) full.few
    where
      few : (n : ℕ) → n < 18 → nat_lt n 18 ≡ true
      few n h = grind (arith, nat_tests)

  full_path : (x : NameEntry) (lacks : ℕ → Type 0) → x.name ≡ name → (levels left page : ℕ) → FullDown name_scale x (page_nodes blocks pages) (λ n. HasNoRoom Full (pages n)) lacks levels page
      → (is_tight (pages page) && all_tight (path_from left page)) ≡ true
  full_path x lacks named zero left page full = absurd full
  full_path x lacks named (suc zero) left page (leaf, full, lack) =
      rw (tight_page page full) (ap all_tight (path_leaf name_scale (page_nodes blocks pages) name left (page_nodes blocks pages page) (ap (way_of name_scale name) leaf.1)))
  full_path x lacks named (suc (suc lower)) zero page (full, down) = rw (tight_page page full) (ap all_tight (path_zero name_scale (page_nodes blocks pages) name (page_nodes blocks pages page)))
  full_path x lacks named (suc (suc lower)) (suc left) page (full, down) =
      rw (tight_page page full)
      (ap all_tight (path_next name_scale (page_nodes blocks pages) name left down.1 (page_nodes blocks pages page) (ap (λ n. way_of name_scale n (page_nodes blocks pages page)) (sym named) ∙ down.2.alone))
      ∙ full_path x lacks named (suc lower) left down.1 down.3)

  -- where a tree of 8 levels has no room on the way, it is too deep
  pub full_deep : (root : List ℕ) (x : NameEntry) (lacks : ℕ → Type 0) (no_room : Type 0) (no_place : List ℕ → Type 0) → x.name ≡ name → levels_of (with_root (root_node blocks root) (page_nodes blocks pages)) 8 no_page ≡ Some 8
      → FullFrom name_scale x (page_nodes blocks pages) (λ n. HasNoRoom Full (pages n)) lacks (root_node blocks root) no_room no_place → is_deep blocks pages root name ≡ true
  full_deep root x lacks no_room no_place named eight (inl (leaf, full)) = absurd (not_eight (sym (leaf_levels (root_node blocks root) (page_nodes blocks pages) leaf.0 leaf.1) ∙ eight))
    where
      not_eight : ◌≡◌ {A = Option ℕ} (Some 1) (Some 8) → ⊥
      not_eight h = cc
  full_deep root x lacks no_room no_place named eight (inr (place, child, levels, key, leads, full, none)) =
      ap (λ o. is_eight o && all_tight (path_of name_scale (page_nodes blocks pages) name 7 (root_node blocks root))) eight
      ∙ ap all_tight (path_next name_scale (page_nodes blocks pages) name 6 child (root_node blocks root) (ap (λ n. way_of name_scale n (root_node blocks root)) (sym named) ∙ leads.alone))
      ∙ full_path x lacks named levels 6 child full

-- ---- the walk down the way, page by page

module _ (blocks : ℕ) (pages : ℕ → List ℕ) (name : List ℕ) (left less page : ℕ) (bytes : List ℕ) (is : left ≡ suc less) (read : bytes ≡ pages page) where
  read_at : tight_below blocks pages name left page ≡ (is_tight bytes && node_tight (tight_below blocks pages name less) less name (dt_node Full blocks bytes))
  read_at = ap (λ l. tight_below blocks pages name l page) is ∙ tight_at blocks pages name less page (page_nodes blocks pages page) refl
      ∙ ap (λ b. is_tight b && node_tight (tight_below blocks pages name less) less name (dt_node Full blocks b)) (sym read)

  few_slots : (n : ℕ) → n < 18 → nat_lt n 18 ≡ true
  few_slots n h = grind (arith, nat_tests)

  many_slots : (n : ℕ) → 18 ≤ n → nat_lt n 18 ≡ false
  many_slots n h = grind (arith, nat_tests)

  pub tight_roomy : 18 ≤ free_of bytes → tight_below blocks pages name left page ≡ false
  tight_roomy many = read_at ∙ ap (λ b. b && node_tight (tight_below blocks pages name less) less name (dt_node Full blocks bytes)) (many_slots (free_of bytes) many)

  closed : free_of bytes < 18 → tight_below blocks pages name left page ≡ node_tight (tight_below blocks pages name less) less name (dt_node Full blocks bytes)
  closed few = read_at ∙ ap (λ b. b && node_tight (tight_below blocks pages name less) less name (dt_node Full blocks bytes)) (few_slots (free_of bytes) few)

  pub tight_ends : free_of bytes < 18 → IsLeaf (dt_node Full blocks bytes) → tight_below blocks pages name left page ≡ (left == 1)
  tight_ends few leaf = closed few ∙ ap (node_tight (tight_below blocks pages name less) less name) leaf.1 ∙ last left less is
    where
      last : (a b : ℕ) → a ≡ suc b → (b == 0) ≡ (a == 1)
      last a b e = grind (arith, nat_tests)

  pub tight_fails : (rule : Rule) → free_of bytes < 18 → dt_node Full blocks bytes ≡ Broken rule → tight_below blocks pages name left page ≡ false
  tight_fails rule few broken = closed few ∙ ap (node_tight (tight_below blocks pages name less) less name) broken

  pub tight_goes : (place child : ℕ) (x : NameEntry) (later : ℕ → List ℕ) (r : Result Bool ViewError) → free_of bytes < 18 → x.name ≡ name → LeadsDown name_scale x (dt_node Full blocks bytes) place child → later ≡ pages
      → IfOk r (λ deep. tight_below blocks later name less child ≡ deep) → IfOk r (λ deep. tight_below blocks pages name left page ≡ deep)
  tight_goes place child x later (Ok deep) few named leads same below =
      closed few ∙ leads_tight (tight_below blocks pages name less) less name (dt_node Full blocks bytes) child (ap (λ n. way_of name_scale n (dt_node Full blocks bytes)) (sym named) ∙ leads.alone)
      ∙ ap (λ ps. tight_below blocks ps name less child) (sym same) ∙ below
  tight_goes place child x later (Err e) few named leads same below = tt

pub tight_past : (blocks : ℕ) (pages : ℕ → List ℕ) (name : List ℕ) (left page : ℕ) → left ≡ 0 → tight_below blocks pages name left page ≡ false
tight_past blocks pages name left page is = ap (λ l. tight_below blocks pages name l page) is ∙ tight_never blocks pages name page

pub deep_found : (blocks : ℕ) (pages : ℕ → List ℕ) (root : List ℕ) (x : NameEntry) (place child : ℕ) (r : Result Bool ViewError) → LeadsDown name_scale x (root_node blocks root) place child
    → IfOk r (λ deep. tight_below blocks pages x.name 7 child ≡ deep) → IfOk r (DeepIs blocks pages root x.name)
deep_found blocks pages root x place child (Ok deep) leads tight = deep_down blocks pages x.name root x place child deep refl leads tight
deep_found blocks pages root x place child (Err e) leads tight = tt
