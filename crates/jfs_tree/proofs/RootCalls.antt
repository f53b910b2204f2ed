-- What calls on a whole tree answer, from what their parts do.
use Rattle.std.proofs.Common.{◌≡◌, ◌≤◌, ◌⊎◌, inl, inr, refl, sym, ap, ◌∙◌, subst, ℕ, zero, suc, ◌+◌, List, [], ◌∷◌, ◌++◌, ◌==◌, if◌then◌else◌, Option, Some, None, Result, Ok, Err, IfOk, IfErr, OnOk, arith}
use Rattle.jfs_bits.specs.declared.rule.Rule.{Rule}
use Rattle.jfs_disk.specs.Image.{Image}
use Rattle.jfs_tree.specs.Walk.{Child, Node, Leaf, Inner, Broken, Scale, Rises, IsOrder, rows_of, times, walk}
use Rattle.jfs_tree.specs.Spells.{no_page, with_root, top, tree_of, spells}
use Rattle.jfs_tree.specs.Edit.{IsApart, IsPoint, IsCons, EndsAt, Ready, Grew, count_in, found_in, own}
use Rattle.jfs_tree.specs.Form.{AllBelow, HasChildren, LeadsDown, as_child, children_of}
use Rattle.jfs_tree.specs.Call.{Breaks, BreaksWhereBad, Finds, RefutesWhereBad, nodes}
use Rattle.jfs_tree.specs.Root.{AddsAlways, FindsAlways, IsSpare, NamesBroken, RefusesWhereBad, RootGrownDid, RootHereDid, Settled}
use Rattle.jfs_tree.specs.declared.draft.Drafted.{Drafted}
use Rattle.jfs_tree.specs.declared.form.Sibling.{Sibling}
use Rattle.jfs_tree.specs.declared.form.TreeError.{TreeError}
use Rattle.jfs_tree.specs.declared.form.TreeError.TheVariants.{View, Bad, Memory}
use Rattle.jfs_tree.proofs.Adding.{ends_level, inner_part}
use Rattle.jfs_tree.proofs.Finding.{leaf_level, inner_level, below_level, broken_level}
use Rattle.jfs_tree.proofs.Found.{find_down, leaf_rows}
use Rattle.jfs_tree.proofs.Growing.{own_page}
use Rattle.jfs_tree.proofs.Once.{each_once}
use Rattle.jfs_tree.proofs.RootSteps.{here_adds, root_keys, root_part, root_took, settled_adds}
use Rattle.jfs_tree.proofs.Spelled.{stands, levels_found}
use Rattle.jfs_tree.proofs.Steps.{times_inner}
use Rattle.jfs_tree.proofs.Taking.{route_of, place_of}
use Rattle.jfs_tree.proofs.Tops.{off_one, root_else, top_ready}

-- a root that is to take an entry, at the level of its leaves
record At {P E : Type 0} (s : Scale P E) (x : E) (es : List E) (pages : ℕ → Node P E) (root : Node P E) (free : List ℕ) : Type 0 where
  levels : ℕ
  most : levels ≤ 8
  is : tree_of s pages root ≡ walk s (with_root root pages) levels (top s)
  rows : rows_of (walk s (with_root root pages) levels (top s)) ≡ es
  ready : Ready s x s.least s.least (walk s (with_root root pages) levels (top s)) None free

at_root : {P E : Type 0} (s : Scale P E) → IsOrder s → (x : E) (es : List E) (pages : ℕ → Node P E) (root : Node P E) (blocks : ℕ) (free : List ℕ)
    → AllBelow blocks free → blocks ≤ no_page → (root ≡ Leaf [] → ⊥) → spells s pages root ≡ Ok es → IsApart s x es → IsSpare s pages root free → At s x es pages root free
at_root s o x es pages root blocks free below within more spelled apart spare =
    elim (stands s pages root es spelled) [
      | inl e ↦ absurd (more e.0)
      | inr st ↦ record {
        levels = st.levels;
        most = st.most;
        is = st.is;
        rows = st.rows;
        ready = top_ready s o x pages root st.levels blocks free st.is st.rises (subst (IsApart s x) (sym st.rows) apart) spare below within;
      }
    ]

abbrev broken_node : (P E : Type 0) → Rule → Node P E
broken_node P E rule = Broken rule

abbrev leaf_node : (P E : Type 0) → List E → Node P E
leaf_node P E es = Leaf es

abbrev inner_node : (P E : Type 0) → List (Child P) → Node P E
inner_node P E cs = Inner cs

-- ---- refusals

pub refuse_broken : {P E : Type 0} (s : Scale P E) (x : E) (pages : ℕ → Node P E) (root : Node P E) (rule : Rule) (free : List ℕ) (bad : ℕ) (named : Rule) → root ≡ Broken rule → RefusesWhereBad s x pages root free (Bad bad named)
refuse_broken {P} {E} s x pages root rule free bad named is es spelled apart spare =
    elim (stands s pages root es spelled) [
      | inl e ↦ absurd (not_leaf (sym is ∙ e.0))
      | inr st ↦ absurd (broken_level s (with_root root pages) st.levels (top s) rule s.least None is st.rises)
    ]
  where
    not_leaf : broken_node P E rule ≡ leaf_node P E [] → ⊥
    not_leaf h = cc

-- a root that is a leaf spells its entries
pub leaf_spells : {P E : Type 0} (s : Scale P E) (pages : ℕ → Node P E) (root : Node P E) (rest es : List E) → root ≡ Leaf rest → spells s pages root ≡ Ok es → rest ≡ es
leaf_spells {P} {E} s pages root rest es is spelled =
    elim (stands s pages root es spelled) [
      | inl e ↦ leaf_is (sym is ∙ e.0) ∙ sym e.1
      | inr st ↦
          let level = leaf_level s (with_root root pages) st.levels (top s) rest s.least None is st.rises in
          let rises = subst (λ l. Rises s s.least (walk s (with_root root pages) l (top s)) None) level st.rises in
          sym (leaf_rows s (with_root root pages) (top s) rest s.least None is rises) ∙ ap (λ l. rows_of (walk s (with_root root pages) l (top s))) (sym level) ∙ st.rows
    ]
  where
    leaf_is : leaf_node P E rest ≡ leaf_node P E [] → rest ≡ []
    leaf_is h = cc

pub refuse_here : {P E : Type 0} (node : List ℕ → Node P E) (s : Scale P E) → IsOrder s → (x : E) (pages : ℕ → Node P E) (root after : Node P E) (old new : List Drafted) (free left : List ℕ) (rest : List E) (e : TreeError)
    → root ≡ Leaf rest → RootHereDid node s x root after old new free left (Err e) → RefusesWhereBad s x pages root free e
refuse_here node s o x pages root after old new free left rest (View v) is did = tt
refuse_here node s o x pages root after old new free left rest (Bad bad rule) is did = λ es spelled apart spare.
    absurd (did rest is (subst (IsApart s x) (sym (leaf_spells s pages root rest es is spelled)) apart))
refuse_here node s o x pages root after old new free left rest Memory is did = tt

pub leads_more : (P E : Type 0) (cs : List (Child P)) → inner_node P E cs ≡ leaf_node P E [] → ⊥
leads_more P E cs h = cc

-- a root that spells a list that is apart from the entry leads it to a part into which it can go
pub down_refuted : {P E : Type 0} (s : Scale P E) → IsOrder s → (x : E) (pages : ℕ → Node P E) (root : Node P E) (place child blocks : ℕ) (free : List ℕ) (bad : ℕ) (rule : Rule) (es : List E)
    → AllBelow blocks free → blocks ≤ no_page → LeadsDown s x root place child → RefutesWhereBad s x pages 7 child free (Bad bad rule)
    → spells s pages root ≡ Ok es → IsApart s x es → IsSpare s pages root free → ⊥
down_refuted {P} {E} s o x pages root place child blocks free bad rule es below within leads refutes spelled apart spare =
    let a = at_root s o x es pages root blocks free below within (λ h. leads_more P E (leads.front ++ leads.child ∷ leads.back) (sym leads.is ∙ h)) spelled apart spare in
    let l = inner_level s (with_root root pages) a.levels (top s) (leads.front ++ leads.child ∷ leads.back) s.least None leads.is a.ready.rises in
    let r = subst (λ i. Ready s x s.least s.least (walk s (with_root root pages) i (top s)) None free) l.1 a.ready in
    let p = root_part s o x root pages l.0 child free leads.front leads.child leads.back (route_of s x root place child leads) r in
    let there = subst (λ q. RefutesWhereBad s x pages 7 q free (Bad bad rule)) (sym (own_page s.least leads.front leads.child ∙ leads.to)) refutes in
    there (suc l.0) (own s.least leads.front leads.child).key p.0 p.1 (let m = a.most in let i = l.1 in omega (arith, m, i)) p.2

pub refuse_down : {P E : Type 0} (s : Scale P E) → IsOrder s → (x : E) (pages : ℕ → Node P E) (root : Node P E) (place child blocks : ℕ) (free : List ℕ) (e : TreeError)
    → AllBelow blocks free → blocks ≤ no_page → LeadsDown s x root place child → RefutesWhereBad s x pages 7 child free e → RefusesWhereBad s x pages root free e
refuse_down s o x pages root place child blocks free (View v) below within leads refutes = tt
refuse_down s o x pages root place child blocks free (Bad bad rule) below within leads refutes =
    λ es spelled apart spare. absurd (down_refuted s o x pages root place child blocks free bad rule es below within leads refutes spelled apart spare)
refuse_down s o x pages root place child blocks free Memory below within leads refutes = tt

-- ---- a root whose child grew

-- the level of the child, and that the root is ready
pub record Below {P E : Type 0} (s : Scale P E) (x : E) (es : List E) (pages : ℕ → Node P E) (root : Node P E) (free : List ℕ) (levels : ℕ) : Type 0 where
  pub lower : ℕ
  pub level : levels ≡ suc lower
  pub most : suc (suc lower) ≤ 8
  pub is : tree_of s pages root ≡ walk s (with_root root pages) (suc (suc lower)) (top s)
  pub rows : rows_of (walk s (with_root root pages) (suc (suc lower)) (top s)) ≡ es
  pub ready : Ready s x s.least s.least (walk s (with_root root pages) (suc (suc lower)) (top s)) None free

pub below_root : {P E : Type 0} (s : Scale P E) → IsOrder s → (x : E) (es : List E) (pages : ℕ → Node P E) (root : Node P E) (place child levels blocks : ℕ) (free : List ℕ)
    → AllBelow blocks free → blocks ≤ no_page → (leads : LeadsDown s x root place child) → EndsAt pages levels child
    → spells s pages root ≡ Ok es → IsApart s x es → IsSpare s pages root free → Below s x es pages root free levels
below_root {P} {E} s o x es pages root place child levels blocks free below within leads ends spelled apart spare =
    let a = at_root s o x es pages root blocks free below within (λ h. leads_more P E (leads.front ++ leads.child ∷ leads.back) (sym leads.is ∙ h)) spelled apart spare in
    let l = inner_level s (with_root root pages) a.levels (top s) (leads.front ++ leads.child ∷ leads.back) s.least None leads.is a.ready.rises in
    let r = subst (λ i. Ready s x s.least s.least (walk s (with_root root pages) i (top s)) None free) l.1 a.ready in
    let p = root_part s o x root pages l.0 child free leads.front leads.child leads.back (route_of s x root place child leads) r in
    let u = own s.least leads.front leads.child in
    let level = ends_level s o pages levels (suc l.0) u p.0 p.1 (subst (EndsAt pages levels) (sym (own_page s.least leads.front leads.child ∙ leads.to)) ends) p.2.rises in
    record {
      lower = l.0;
      level = sym level;
      most = let m = a.most in let i = l.1 in omega (arith, m, i);
      is = a.is ∙ ap (λ i. walk s (with_root root pages) i (top s)) l.1;
      rows = ap (λ i. rows_of (walk s (with_root root pages) i (top s))) (sym l.1) ∙ a.rows;
      ready = r;
    }

keeps_root : {P E : Type 0} (s : Scale P E) → IsOrder s → (x : E) (pages mid : ℕ → Node P E) (root : Node P E) (lower place child : ℕ) (more : List (Child P)) (free between : List ℕ) (leads : LeadsDown s x root place child)
    → Ready s x s.least s.least (walk s (with_root root pages) (suc (suc lower)) (top s)) None free → Grew s x pages mid (suc lower) child more free between
    → (n : ℕ) → (n ≡ no_page) ⊎ (times n (walk s (with_root root pages) (suc (suc lower)) (top s)) ≡ 0) → count_in n free ≡ count_in n between → mid n ≡ pages n
keeps_root {P} s o x pages mid root lower place child more free between leads ready grew n h e =
    let u = own s.least leads.front leads.child in
    let T = walk s (with_root root pages) (suc lower) u in
    let z = times_inner s (with_root root pages) lower (top s) leads.front leads.child leads.back n leads.is in
    let zr = times_inner s (with_root root pages) lower (top s) leads.front leads.child leads.back no_page leads.is in
    let o_root = ready.once no_page in
    let off : times no_page T ≡ 0 = off_by (times no_page (walk s (with_root root pages) (suc (suc lower)) (top s))) _ (times no_page T) _ (count_in no_page free) zr o_root in
    let was : walk s pages (suc lower) u ≡ T = off_one s (with_root root pages) pages (suc lower) u (λ m ne. sym (root_else root pages m ne)) off in
    let none : times n T ≡ 0 = elim h [
      | inl i ↦ subst (λ m. times m T ≡ 0) (sym i) off
      | inr t ↦ inner_none (times n (walk s (with_root root pages) (suc (suc lower)) (top s))) _ _ (times n T) _ z t
    ] in
    let g = subst (λ p. Grew s x pages mid (suc lower) p more free between) (sym (own_page s.least leads.front leads.child ∙ leads.to)) grew in
    g.keeps u.key n (ap (times n) was ∙ none) e
  where
    off_by : (w a t b f : ℕ) → w ≡ (if no_page == no_page then 1 else 0) + (a + (t + b)) → w + f ≤ 1 → t ≡ 0
    off_by w a t b f e h = omega (arith, e, h)

    inner_none : (w c a t b : ℕ) → w ≡ c + (a + (t + b)) → w ≡ 0 → t ≡ 0
    inner_none w c a t b e h = omega (arith, e, h)

pub cons_middle : {X : Type 0} (a : List X) (m : X) (b : List X) → IsCons (a ++ m ∷ b)
cons_middle [] m b = tt
cons_middle (x ∷ a) m b = tt

pub one_level : (levels lower : ℕ) → levels ≡ suc lower → levels + 1 ≡ suc (suc lower)
one_level levels lower h = omega (arith, h)

settle_none : {P E : Type 0} (node : List ℕ → Node P E) (s : Scale P E) (levels : ℕ) (image : Image) (root after : Node P E) (old new : List Drafted) (free left : List ℕ)
    → after ≡ root → new ≡ old → left ≡ free → Settled s levels root (nodes node old image) (nodes node new image) after free left
settle_none node s levels image root after old new free left a b c = inl (a, (λ n. ap (λ d. nodes node d image n) b), (λ n. ap (count_in n) (sym c)))

pub grown_adds : {P E : Type 0} (node : List ℕ → Node P E) (s : Scale P E) → IsOrder s → (x : E) (image : Image) (root after : Node P E) (old mid new : List Drafted) (place child levels blocks : ℕ) (free between left : List ℕ) (more : Option (Sibling P))
    → AllBelow blocks free → AllBelow blocks left → blocks ≤ no_page → LeadsDown s x root place child
    → Grew s x (nodes node old image) (nodes node mid image) levels child (children_of more) free between
    → RootGrownDid node s levels place more root after mid new between left (Ok tt)
    → AddsAlways s x (nodes node old image) (nodes node new image) root after free left
grown_adds node s o x image root after old mid new place child levels blocks free between left None below_free below_left within leads grew did es spelled apart spare =
    let w = below_root s o x es (nodes node old image) root place child levels blocks free below_free within leads grew.ends spelled apart spare in
    let g = subst (λ l. Grew s x (nodes node old image) (nodes node mid image) l child [] free between) w.level grew in
    let has : HasChildren root (leads.front ++ leads.child ∷ leads.back) = record { children = leads.front ++ leads.child ∷ leads.back; is = leads.is; some = cons_middle leads.front leads.child leads.back; same = λ k. refl } in
    settled_adds s o x es (nodes node old image) (nodes node mid image) (nodes node new image) root root after (walk s (with_root root (nodes node old image)) (suc (suc w.lower)) (top s)) (suc (suc w.lower)) blocks free between left
    w.is w.rows w.most below_free below_left within w.ready.once g.takes
    (root_took s o x root root (nodes node old image) (nodes node mid image) w.lower child [] free between leads.front leads.child leads.back (route_of s x root place child leads) g w.ready has)
    (keeps_root s o x (nodes node old image) (nodes node mid image) root w.lower place child [] free between leads w.ready g)
    (settle_none node s (suc (suc w.lower)) image root after mid new between left did.0 did.1 did.2)
grown_adds node s o x image root after old mid new place child levels blocks free between left (Some sibling) below_free below_left within leads grew did es spelled apart spare =
    let w = below_root s o x es (nodes node old image) root place child levels blocks free below_free within leads grew.ends spelled apart spare in
    let g = subst (λ l. Grew s x (nodes node old image) (nodes node mid image) l child (as_child sibling ∷ []) free between) w.level grew in
    let route = route_of s x root place child leads in
    let d = did image (leads.front ++ leads.child ∷ as_child sibling ∷ leads.back) (place_of s x root place child leads (as_child sibling))
    (root_keys s o x root (nodes node old image) (nodes node mid image) w.lower child (as_child sibling ∷ []) free between leads.front leads.child leads.back route g w.ready) in
    settled_adds s o x es (nodes node old image) (nodes node mid image) (nodes node new image) root d.0 after (walk s (with_root root (nodes node old image)) (suc (suc w.lower)) (top s)) (suc (suc w.lower)) blocks free between left
    w.is w.rows w.most below_free below_left within w.ready.once g.takes
    (root_took s o x root d.0 (nodes node old image) (nodes node mid image) w.lower child (as_child sibling ∷ []) free between leads.front leads.child leads.back route g w.ready d.1)
    (keeps_root s o x (nodes node old image) (nodes node mid image) root w.lower place child (as_child sibling ∷ []) free between leads w.ready g)
    (subst (λ l. Settled s l d.0 (nodes node mid image) (nodes node new image) after between left) (one_level levels w.lower w.level) d.2)

eight : (levels lower : ℕ) → levels ≡ suc lower → suc (suc lower) ≤ 8 → 7 ≤ levels → suc (suc lower) ≡ 8
eight levels lower h m l = omega (arith, h, m, l)

pub grown_refuses : {P E : Type 0} (node : List ℕ → Node P E) (s : Scale P E) → IsOrder s → (x : E) (image : Image) (root after : Node P E) (old mid new : List Drafted) (place child levels blocks : ℕ) (free between left : List ℕ) (more : Option (Sibling P)) (e : TreeError)
    → AllBelow blocks free → blocks ≤ no_page → LeadsDown s x root place child
    → Grew s x (nodes node old image) (nodes node mid image) levels child (children_of more) free between
    → RootGrownDid node s levels place more root after mid new between left (Err e)
    → RefusesWhereBad s x (nodes node old image) root free e
grown_refuses node s o x image root after old mid new place child levels blocks free between left None e below_free within leads grew did = absurd did
grown_refuses node s o x image root after old mid new place child levels blocks free between left (Some sibling) (View v) below_free within leads grew did = tt
grown_refuses node s o x image root after old mid new place child levels blocks free between left (Some sibling) Memory below_free within leads grew did = tt
grown_refuses node s o x image root after old mid new place child levels blocks free between left (Some sibling) (Bad bad rule) below_free within leads grew did = λ es spelled apart spare.
    let w = below_root s o x es (nodes node old image) root place child levels blocks free below_free within leads grew.ends spelled apart spare in
    let g = subst (λ l. Grew s x (nodes node old image) (nodes node mid image) l child (as_child sibling ∷ []) free between) w.level grew in
    let d = did (leads.front ++ leads.child ∷ as_child sibling ∷ leads.back) (place_of s x root place child leads (as_child sibling))
    (root_keys s o x root (nodes node old image) (nodes node mid image) w.lower child (as_child sibling ∷ []) free between leads.front leads.child leads.back (route_of s x root place child leads) g w.ready) in
    (d.0, d.1, levels_found s o (with_root root (nodes node old image)) (suc (suc w.lower)) 8 (top s) s.least None w.most w.ready.rises ∙ ap Some (eight levels w.lower w.level w.most d.2))

-- ---- what is found

pub off_once : (w a t b : ℕ) → w ≡ (if no_page == no_page then 1 else 0) + (a + (t + b)) → w ≤ 1 → t ≡ 0
off_once w a t b e h = omega (arith, e, h)

-- the part of what rises below a child of the root, wherever the root stands
pub part_off : {P E : Type 0} (s : Scale P E) → IsOrder s → (root : Node P E) (pages : ℕ → Node P E) (lower : ℕ) (front : List (Child P)) (t : Child P) (back : List (Child P))
    → root ≡ Inner (front ++ t ∷ back) → Rises s s.least (walk s (with_root root pages) (suc (suc lower)) (top s)) None
    → walk s pages (suc lower) (own s.least front t) ≡ walk s (with_root root pages) (suc lower) (own s.least front t)
part_off s o root pages lower front t back is r =
    off_one s (with_root root pages) pages (suc lower) (own s.least front t) (λ n ne. sym (root_else root pages n ne))
    (off_once (times no_page (walk s (with_root root pages) (suc (suc lower)) (top s))) _ (times no_page (walk s (with_root root pages) (suc lower) (own s.least front t))) _
    (times_inner s (with_root root pages) lower (top s) front t back no_page is) (each_once s o (with_root root pages) (suc (suc lower)) (top s) s.least None r no_page))

pub here_always : {P E : Type 0} (s : Scale P E) (x : E) (pages : ℕ → Node P E) (root : Node P E) (rest : List E) (found : Option E)
    → root ≡ Leaf rest → found ≡ found_in s x rest → FindsAlways s x pages root found
here_always s x pages root rest found is finds es spelled = finds ∙ ap (found_in s x) (leaf_spells s pages root rest es is spelled)

pub down_always : {P E : Type 0} (s : Scale P E) → IsOrder s → (x : E) → IsPoint s x → (pages : ℕ → Node P E) (root : Node P E) (place child : ℕ) (found : Option E)
    → LeadsDown s x root place child → Finds s x pages child found → FindsAlways s x pages root found
down_always {P} {E} s o x p pages root place child found leads finds es spelled =
    elim (stands s pages root es spelled) [
      | inl e ↦ absurd (leads_more P E (leads.front ++ leads.child ∷ leads.back) (sym leads.is ∙ e.0))
      | inr st ↦
          let l = inner_level s (with_root root pages) st.levels (top s) (leads.front ++ leads.child ∷ leads.back) s.least None leads.is st.rises in
          let r = subst (λ i. Rises s s.least (walk s (with_root root pages) i (top s)) None) l.1 st.rises in
          let t = find_down s o x p (with_root root pages) l.0 (top s) child leads.front leads.child leads.back s.least None (route_of s x root place child leads) (o.least_le (s.from x)) r in
          let u = own s.least leads.front leads.child in
          let off = part_off s o root pages l.0 leads.front leads.child leads.back leads.is r in
          let there = subst (λ n. Finds s x pages n found) (sym (own_page s.least leads.front leads.child ∙ leads.to)) finds in
          there (suc l.0) u.key t.0 (Some t.1) t.3 (subst (λ ms. Rises s t.0 ms (Some t.1)) (sym off) t.2) ∙ ap (λ ms. found_in s x (rows_of ms)) off ∙ sym t.4
          ∙ ap (found_in s x) (ap (λ i. rows_of (walk s (with_root root pages) i (top s))) (sym l.1) ∙ st.rows)
    ]

-- what breaks a rule doesn't rise
breaks_rises : {P E : Type 0} (s : Scale P E) → IsOrder s → (nodes : ℕ → Node P E) (most levels : ℕ) (c : Child P) (bad : ℕ) (rule : Rule) (low : P) (high : Option P)
    → Breaks nodes most c.page bad rule → levels ≤ most → Rises s low (walk s nodes levels c) high → ⊥
unfolding walk
breaks_rises s o nodes zero zero c bad rule low high b m r = r
breaks_rises s o nodes zero (suc levels) c bad rule low high b m r = no_less levels m
  where
    no_less : (n : ℕ) → suc n ≤ 0 → ⊥
    no_less n h = omega (arith, h)
breaks_rises s o nodes (suc most) levels c bad rule low high (inl here) m r = below_level s nodes levels c rule low high here.1 r
breaks_rises s o nodes (suc most) levels c bad rule low high (inr (front, t, back, is, b)) m r =
    let l = inner_level s nodes levels c (front ++ t ∷ back) low high is r in
    let p = inner_part s o nodes l.0 c front t back low high is (subst (λ i. Rises s low (walk s nodes i c) high) l.1 r) in
    let u = own c.key front t in
    breaks_rises s o nodes most (suc l.0) u bad rule p.0 (Some p.1) (subst (λ n. Breaks nodes most n bad rule) (sym (own_page c.key front t)) b) (let i = l.1 in omega (arith, m, i)) p.2

pub names_root : {P E : Type 0} (s : Scale P E) (pages : ℕ → Node P E) (root : Node P E) (rule : Rule) → root ≡ Broken rule → NamesBroken s pages root (Bad no_page rule)
names_root {P} {E} s pages root rule is = (
  inl (refl, is),
  λ es spelled. elim (stands s pages root es spelled) [
    | inl e ↦ not_leaf (sym is ∙ e.0)
    | inr st ↦ broken_level s (with_root root pages) st.levels (top s) rule s.least None is st.rises
  ],
)
  where
    not_leaf : broken_node P E rule ≡ leaf_node P E [] → ⊥
    not_leaf h = cc

pub names_below : {P E : Type 0} (s : Scale P E) → IsOrder s → (x : E) (pages : ℕ → Node P E) (root : Node P E) (place child : ℕ) (e : TreeError) → LeadsDown s x root place child → BreaksWhereBad pages 7 child e → NamesBroken s pages root e
names_below s o x pages root place child (View v) leads b = tt
names_below {P} {E} s o x pages root place child (Bad bad rule) leads b =
    let there = subst (λ n. Breaks pages 7 n bad rule) (sym leads.to) b in (
      inr (leads.front, leads.child, leads.back, leads.is, there),
      λ es spelled. elim (stands s pages root es spelled) [
        | inl e ↦ leads_more P E (leads.front ++ leads.child ∷ leads.back) (sym leads.is ∙ e.0)
        | inr st ↦
            let l = inner_level s (with_root root pages) st.levels (top s) (leads.front ++ leads.child ∷ leads.back) s.least None leads.is st.rises in
            let r = subst (λ i. Rises s s.least (walk s (with_root root pages) i (top s)) None) l.1 st.rises in
            let p = inner_part s o (with_root root pages) l.0 (top s) leads.front leads.child leads.back s.least None leads.is r in
            breaks_rises s o pages 7 (suc l.0) (own s.least leads.front leads.child) bad rule p.0 (Some p.1)
            (subst (λ n. Breaks pages 7 n bad rule) (sym (own_page s.least leads.front leads.child)) there) (let m = st.most in let i = l.1 in omega (arith, m, i))
            (subst (λ ms. Rises s p.0 ms (Some p.1)) (sym (part_off s o root pages l.0 leads.front leads.child leads.back leads.is r)) p.2)
      ],
    )
names_below s o x pages root place child Memory leads b = tt

pub found_below : {P E : Type 0} (s : Scale P E) → IsOrder s → (x : E) → IsPoint s x → (pages : ℕ → Node P E) (root : Node P E) (place child : ℕ) (r : Result (Option E) TreeError)
    → LeadsDown s x root place child → IfOk r (λ found. Finds s x pages child found) → IfOk r (λ found. FindsAlways s x pages root found)
found_below s o x p pages root place child (Ok found) leads finds = down_always s o x p pages root place child found leads finds
found_below s o x p pages root place child (Err e) leads finds = tt

pub broken_below : {P E : Type 0} (s : Scale P E) → IsOrder s → (x : E) (pages : ℕ → Node P E) (root : Node P E) (place child : ℕ) (r : Result (Option E) TreeError)
    → LeadsDown s x root place child → IfErr r (λ e. BreaksWhereBad pages 7 child e) → IfErr r (λ e. NamesBroken s pages root e)
broken_below s o x pages root place child (Ok found) leads b = tt
broken_below s o x pages root place child (Err e) leads b = names_below s o x pages root place child e leads b

pub here_always_adds : {P E : Type 0} (node : List ℕ → Node P E) (s : Scale P E) → IsOrder s → (x : E) (image : Image) (root after : Node P E) (old new : List Drafted) (rest : List E) (blocks : ℕ) (free left : List ℕ) (r : Result (Unit {0}) TreeError)
    → AllBelow blocks free → AllBelow blocks left → blocks ≤ no_page → root ≡ Leaf rest → RootHereDid node s x root after old new free left r
    → OnOk r (AddsAlways s x (nodes node old image) (nodes node new image) root after free left)
here_always_adds node s o x image root after old new rest blocks free left (Ok u) below_free below_left within is did = λ es spelled apart spare.
    here_adds s o x es rest (nodes node old image) (nodes node new image) root after blocks free left below_free below_left within is (did image rest is) spelled apart spare
here_always_adds node s o x image root after old new rest blocks free left (Err e) below_free below_left within is did = tt

pub here_always_refuses : {P E : Type 0} (node : List ℕ → Node P E) (s : Scale P E) → IsOrder s → (x : E) (pages : ℕ → Node P E) (root after : Node P E) (old new : List Drafted) (rest : List E) (free left : List ℕ) (r : Result (Unit {0}) TreeError)
    → root ≡ Leaf rest → RootHereDid node s x root after old new free left r → IfErr r (λ e. RefusesWhereBad s x pages root free e)
here_always_refuses node s o x pages root after old new rest free left (Ok u) is did = tt
here_always_refuses node s o x pages root after old new rest free left (Err e) is did = refuse_here node s o x pages root after old new free left rest e is did

pub grown_always_adds : {P E : Type 0} (node : List ℕ → Node P E) (s : Scale P E) → IsOrder s → (x : E) (image : Image) (root after : Node P E) (old mid new : List Drafted) (place child levels blocks : ℕ) (free between left : List ℕ) (more : Option (Sibling P)) (r : Result (Unit {0}) TreeError)
    → AllBelow blocks free → AllBelow blocks left → blocks ≤ no_page → LeadsDown s x root place child
    → Grew s x (nodes node old image) (nodes node mid image) levels child (children_of more) free between
    → RootGrownDid node s levels place more root after mid new between left r
    → OnOk r (AddsAlways s x (nodes node old image) (nodes node new image) root after free left)
grown_always_adds node s o x image root after old mid new place child levels blocks free between left more (Ok u) below_free below_left within leads grew did =
    grown_adds node s o x image root after old mid new place child levels blocks free between left more below_free below_left within leads grew did
grown_always_adds node s o x image root after old mid new place child levels blocks free between left more (Err e) below_free below_left within leads grew did = tt

pub grown_always_refuses : {P E : Type 0} (node : List ℕ → Node P E) (s : Scale P E) → IsOrder s → (x : E) (image : Image) (root after : Node P E) (old mid new : List Drafted) (place child levels blocks : ℕ) (free between left : List ℕ) (more : Option (Sibling P)) (r : Result (Unit {0}) TreeError)
    → AllBelow blocks free → blocks ≤ no_page → LeadsDown s x root place child
    → Grew s x (nodes node old image) (nodes node mid image) levels child (children_of more) free between
    → RootGrownDid node s levels place more root after mid new between left r → IfErr r (λ e. RefusesWhereBad s x (nodes node old image) root free e)
grown_always_refuses node s o x image root after old mid new place child levels blocks free between left more (Ok u) below_free within leads grew did = tt
grown_always_refuses node s o x image root after old mid new place child levels blocks free between left more (Err e) below_free within leads grew did =
    grown_refuses node s o x image root after old mid new place child levels blocks free between left more e below_free within leads grew did
