-- Where pages get others beside them, and a tree gets one level more.
use Rattle.std.proofs.Common.{◌≡◌, ◌≤◌, inl, inr, refl, sym, ap, ◌∙◌, subst, ℕ, zero, suc, ◌+◌, ◌==◌, if◌then◌else◌, List, [], ◌∷◌, ◌++◌, length, Option, Some, None, Result, Ok, Err, IfOk, OnOk, arith}
use Rattle.jfs_bits.specs.declared.rule.Rule.{Rule}
use Rattle.jfs_disk.specs.Image.{Image}
use Rattle.jfs_tree.specs.Walk.{Node, Leaf, Broken, Scale, Rises, IsOrder, walk}
use Rattle.jfs_tree.specs.Spells.{no_page, with_root, one_more, below_first, levels_of, top}
use Rattle.jfs_tree.specs.Edit.{IsApart, Grew, count_in, with_entry}
use Rattle.jfs_tree.specs.Form.{AllBelow, HasChildren, LeadsDown, as_child, children_of}
use Rattle.jfs_tree.specs.Draft.{shown}
use Rattle.jfs_tree.specs.Call.{RefutesWhereBad, nodes}
use Rattle.jfs_tree.specs.Root.{RootGrownDid, RootHereDid, Settled}
use Rattle.jfs_tree.specs.Room.{FullDown, FullUp, FullFrom, GrowsLevel, GrowsWhereFull, LevelsWhereFull, TakesMore, TakesWhereFull, RootRoom, RootGrownRoom, at_page}
use Rattle.jfs_tree.specs.declared.draft.Drafted.{Drafted}
use Rattle.jfs_tree.specs.declared.form.Sibling.{Sibling}
use Rattle.jfs_tree.specs.declared.form.TreeError.{TreeError}
use Rattle.jfs_tree.specs.declared.form.TreeError.TheVariants.{View, Bad, Memory}
use Rattle.jfs_tree.specs.declared.grow.Grown.{Grown}
use Rattle.jfs_tree.proofs.Taking.{route_of, place_of}
use Rattle.jfs_tree.proofs.Spelled.{levels_found}
use Rattle.jfs_tree.proofs.RootSteps.{root_keys, root_took, same_all}
use Rattle.jfs_tree.proofs.RootCalls.{below_root, cons_middle, down_refuted, leaf_spells, refuse_broken, refuse_here}

-- ---- below a page

module _ {P E : Type 0} (s : Scale P E) (x : E) (pages : ℕ → Node P E) (full lacks : ℕ → Type 0) where
  -- what is full down from a page is full up to it
  pub all_full : (levels page : ℕ) → FullDown s x pages full lacks levels page → FullUp s x pages full lacks levels page levels
  all_full zero page down = absurd down
  all_full (suc lower) page down = inr (inl (refl, down))

  one_above : (levels page place child : ℕ) → full page → LeadsDown s x (pages page) place child → FullDown s x pages full lacks levels child → FullDown s x pages full lacks (suc levels) page
  one_above zero page place child here leads down = absurd down
  one_above (suc lower) page place child here leads down = (here, (place, child, leads, down))

  grows_above : (levels page place child : ℕ) (sibling more : Option (Sibling P)) (free between left : List ℕ)
      → LeadsDown s x (pages page) place child → GrowsWhereFull s x pages full lacks levels child sibling free between → TakesMore (full page) sibling more between left
      → GrowsWhereFull s x pages full lacks (suc levels) page more free left
  grows_above levels page place child (Some sibling) (Some more) free between left leads grows takes =
      (one_above levels page place child takes.0 leads grows.0, let a = grows.1 in let b = takes.1 in omega (arith, a, b))
  grows_above levels page place child (Some sibling) None free between left leads grows takes =
      (levels, inr (inr (place, child, leads, all_full levels child grows.0)), grows.1 ∙ ap (λ l. length l + levels) (sym takes))
  grows_above levels page place child None more free between left leads grows takes =
      subst (λ m. GrowsWhereFull s x pages full lacks (suc levels) page m free left) (sym takes.0)
      (grows.0, inr (inr (place, child, leads, grows.1)), grows.2 ∙ ap (λ l. length l + grows.0) (sym takes.1))

  -- ---- a root

  pub root_takes : (root : Node P E) (no_room : Type 0) (no_place : P → Type 0) (place child levels : ℕ) (sibling : Option (Sibling P)) (free between left : List ℕ) (r : Result (Unit {0}) TreeError)
      → LeadsDown s x root place child → GrowsWhereFull s x pages full lacks levels child sibling free between → RootGrownRoom s no_place place sibling root between left r
      → OnOk r (TakesWhereFull s x pages full lacks root no_room no_place free left)
  root_takes root no_room no_place place child levels None free between left (Ok u) leads grows room =
      inr (inr (place, child, levels, leads, inl (grows.0, grows.1, grows.2 ∙ ap (λ l. length l + grows.0) (sym room))))
  root_takes root no_room no_place place child levels (Some sibling) free between left (Ok u) leads grows (inl same) =
      inr (inr (place, child, levels, leads, inl (levels, all_full levels child grows.0, grows.1 ∙ ap (λ l. length l + levels) (sym same))))
  root_takes root no_room no_place place child levels (Some sibling) free between left (Ok u) leads grows (inr (none, one)) =
      inr (inr (place, child, levels, leads, inr (grows.0, (sibling.key, none), let a = grows.1 in omega (arith, a, one))))
  root_takes root no_room no_place place child levels sibling free between left (Err e) leads grows room = tt

pub grown_room : {P E : Type 0} (node : List ℕ → Node P E) (s : Scale P E) (x : E) (full lacks : List ℕ → Type 0) (old : List Drafted) (image later : Image) (page place child levels : ℕ) (bytes : List ℕ) (sibling : Option (Sibling P)) (free between left : List ℕ) (r : Result (Grown P) TreeError)
    → later ≡ image → bytes ≡ shown old image page → LeadsDown s x (node bytes) place child
    → GrowsWhereFull s x (nodes node old later) (at_page full old later) (at_page lacks old later) levels child sibling free between
    → IfOk r (λ g. g.levels ≡ levels + 1) → IfOk r (λ g. TakesMore (full bytes) sibling g.sibling between left)
    → IfOk r (λ g. GrowsWhereFull s x (nodes node old image) (at_page full old image) (at_page lacks old image) g.levels page g.sibling free left)
grown_room node s x full lacks old image later page place child levels bytes sibling free between left (Err e) kept read leads grows is takes = tt
grown_room node s x full lacks old image later page place child levels bytes sibling free between left (Ok g) kept read leads grows is takes =
    subst (λ l. GrowsWhereFull s x (nodes node old image) (at_page full old image) (at_page lacks old image) l page g.sibling free left) (sym (is ∙ one_suc levels))
    (grows_above s x (nodes node old image) (at_page full old image) (at_page lacks old image) levels page place child sibling g.sibling free between left
    (subst (λ b. LeadsDown s x (node b) place child) read leads)
    (subst (λ i. GrowsWhereFull s x (nodes node old i) (at_page full old i) (at_page lacks old i) levels child sibling free between) kept grows)
    (subst (λ b. TakesMore (full b) sibling g.sibling between left) read takes))
  where
    one_suc : (n : ℕ) → n + 1 ≡ suc n
    one_suc n = omega arith

-- ---- levels

-- a root that took no page stays where it was
stays : {P E : Type 0} (s : Scale P E) (levels : ℕ) (taken after : Node P E) (mid new : ℕ → Node P E) (between left : List ℕ)
    → Settled s levels taken mid new after between left → left ≡ between → (after ≡ taken) × ((n : ℕ) → new n ≡ mid n)
stays s levels taken after mid new between left (inl (same, pages, counts)) none = (same, pages)
stays s levels taken after mid new between left (inr (q, deep, above, here, pages, counts)) none = absurd (more q (count_in q between) (count_in q left) (counts q) (ap (count_in q) none))
  where
    more : (q b l : ℕ) → b ≡ (if q == q then 1 else 0) + l → l ≡ b → ⊥
    more q b l h e = grind (arith, h, e)

same_levels : {P E : Type 0} (s : Scale P E) → IsOrder s → (levels : ℕ) (root taken after : Node P E) (old mid new : ℕ → Node P E) → levels ≤ 8
    → Rises s s.least (walk s (with_root root old) levels (top s)) None → Rises s s.least (walk s (with_root taken mid) levels (top s)) None
    → after ≡ taken → ((n : ℕ) → new n ≡ mid n) → levels_of (with_root after new) 8 no_page ≡ levels_of (with_root root old) 8 no_page
same_levels s o levels root taken after old mid new most was rises same pages =
    levels_found s o (with_root after new) levels 8 (top s) s.least None most (subst (λ ms. Rises s s.least ms None) (sym (same_all s after taken mid new levels same pages)) rises)
    ∙ sym (levels_found s o (with_root root old) levels 8 (top s) s.least None most was)

module _ {P E : Type 0} (node : List ℕ → Node P E) (s : Scale P E) (o : IsOrder s) (x : E) (image : Image) (root after : Node P E) (old mid new : List Drafted) (place child levels blocks : ℕ) (free between left : List ℕ) (full lacks : ℕ → Type 0) (no_room : Type 0) (no_place : P → Type 0)
    (below : AllBelow blocks free) (within : blocks ≤ no_page) (leads : LeadsDown s x root place child) where
  abbrev Full : Type 0
  Full = FullFrom s x (nodes node old image) full lacks root no_room no_place

  abbrev Grows : Type 0
  Grows = GrowsLevel s x (nodes node old image) full lacks root no_room no_place after (nodes node new image)

  pub grown_levels : (more : Option (Sibling P)) (r : Result (Unit {0}) TreeError) → Grew s x (nodes node old image) (nodes node mid image) levels child (children_of more) free between
      → GrowsWhereFull s x (nodes node old image) full lacks levels child more free between
      → RootGrownDid node s levels place more root after mid new between left r → RootGrownRoom s no_place place more root between left r
      → LevelsWhereFull s x (nodes node old image) (nodes node new image) root after free Grows Full r
  grown_levels None (Ok u) grew grows did room = λ es spelled apart spare.
      let w = below_root s o x es (nodes node old image) root place child levels blocks free below within leads grew.ends spelled apart spare in
      let g = subst (λ l. Grew s x (nodes node old image) (nodes node mid image) l child [] free between) w.level grew in
      let has : HasChildren root (leads.front ++ leads.child ∷ leads.back) = record { children = leads.front ++ leads.child ∷ leads.back; is = leads.is; some = cons_middle leads.front leads.child leads.back; same = λ k. refl } in
      let took = root_took s o x root root (nodes node old image) (nodes node mid image) w.lower child [] free between leads.front leads.child leads.back (route_of s x root place child leads) g w.ready has in
      inl (same_levels s o (suc (suc w.lower)) root root after (nodes node old image) (nodes node mid image) (nodes node new image) w.most w.ready.rises took.rises did.0 (λ n. ap (λ d. nodes node d image n) did.1))
  grown_levels None (Err e) grew grows did room = absurd did
  grown_levels (Some sibling) (Ok u) grew grows did (inr (none, one)) = λ es spelled apart spare.
      let w = below_root s o x es (nodes node old image) root place child levels blocks free below within leads grew.ends spelled apart spare in
      let g = subst (λ l. Grew s x (nodes node old image) (nodes node mid image) l child (as_child sibling ∷ []) free between) w.level grew in
      let route = route_of s x root place child leads in
      let all = leads.front ++ leads.child ∷ as_child sibling ∷ leads.back in
      let d = did image all (place_of s x root place child leads (as_child sibling))
      (root_keys s o x root (nodes node old image) (nodes node mid image) w.lower child (as_child sibling ∷ []) free between leads.front leads.child leads.back route g w.ready) in
      let took = root_took s o x root d.0 (nodes node old image) (nodes node mid image) w.lower child (as_child sibling ∷ []) free between leads.front leads.child leads.back route g w.ready d.1 in
      elim d.2 [
        | inl (same, pages, counts) ↦ inl (same_levels s o (suc (suc w.lower)) root d.0 after (nodes node old image) (nodes node mid image) (nodes node new image) w.most w.ready.rises took.rises same pages)
        | inr (q, few, only, here, pages, counts) ↦ inr (inr (
          place,
          child,
          levels,
          leads,
          grows.0,
          record {
            page = q;
            child = as_child sibling;
            all = all;
            only = only;
            takes = place_of s x root place child leads (as_child sibling);
            has = subst (λ n. HasChildren n all) (sym here) d.1;
            none = none;
          },
        ))
      ]
  grown_levels (Some sibling) (Ok u) grew grows did (inl same) = λ es spelled apart spare.
      let w = below_root s o x es (nodes node old image) root place child levels blocks free below within leads grew.ends spelled apart spare in
      let g = subst (λ l. Grew s x (nodes node old image) (nodes node mid image) l child (as_child sibling ∷ []) free between) w.level grew in
      let route = route_of s x root place child leads in
      let d = did image (leads.front ++ leads.child ∷ as_child sibling ∷ leads.back) (place_of s x root place child leads (as_child sibling))
      (root_keys s o x root (nodes node old image) (nodes node mid image) w.lower child (as_child sibling ∷ []) free between leads.front leads.child leads.back route g w.ready) in
      let took = root_took s o x root d.0 (nodes node old image) (nodes node mid image) w.lower child (as_child sibling ∷ []) free between leads.front leads.child leads.back route g w.ready d.1 in
      let at = stays s (levels + 1) d.0 after (nodes node mid image) (nodes node new image) between left d.2 same in
      inl (same_levels s o (suc (suc w.lower)) root d.0 after (nodes node old image) (nodes node mid image) (nodes node new image) w.most w.ready.rises took.rises at.0 at.1)
  grown_levels (Some sibling) (Err (Bad bad rule)) grew grows did room = λ es spelled apart spare.
      let w = below_root s o x es (nodes node old image) root place child levels blocks free below within leads grew.ends spelled apart spare in
      let g = subst (λ l. Grew s x (nodes node old image) (nodes node mid image) l child (as_child sibling ∷ []) free between) w.level grew in
      let none = room (leads.front ++ leads.child ∷ as_child sibling ∷ leads.back) (place_of s x root place child leads (as_child sibling))
      (root_keys s o x root (nodes node old image) (nodes node mid image) w.lower child (as_child sibling ∷ []) free between leads.front leads.child leads.back (route_of s x root place child leads) g w.ready) in
      inr (place, child, levels, sibling.key, leads, grows.0, none)
  grown_levels (Some sibling) (Err (View e)) grew grows did room = tt
  grown_levels (Some sibling) (Err Memory) grew grows did room = tt

  -- a refusal below the root
  pub down_levels : (e : TreeError) (later : ℕ → Node P E) (more : Type 0) → RefutesWhereBad s x (nodes node old image) 7 child free e → LevelsWhereFull s x (nodes node old image) later root after free more Full (Err e)
  down_levels (View v) later more refutes = tt
  down_levels (Bad bad rule) later more refutes = λ es spelled apart spare. absurd (down_refuted s o x (nodes node old image) root place child blocks free bad rule es below within leads refutes spelled apart spare)
  down_levels Memory later more refutes = tt

-- ---- a root that is a leaf, or breaks a rule

pub leaf_levels : {P E : Type 0} (root : Node P E) (pages : ℕ → Node P E) (es : List E) → root ≡ Leaf es → levels_of (with_root root pages) 8 no_page ≡ Some 1
unfolding levels_of
leaf_levels root pages es is = ap (λ r. one_more (below_first (levels_of (with_root root pages) 7) r)) is

broken_levels : {P E : Type 0} (root : Node P E) (pages : ℕ → Node P E) (rule : Rule) → root ≡ Broken rule → levels_of (with_root root pages) 8 no_page ≡ Some 1
unfolding levels_of
broken_levels root pages rule is = ap (λ r. one_more (below_first (levels_of (with_root root pages) 7) r)) is

not_eight : (o : Option ℕ) → o ≡ Some 1 → o ≡ Some 8 → ⊥
not_eight o a b = some_not (sym a ∙ b)
  where
    some_not : ◌≡◌ {A = Option ℕ} (Some 1) (Some 8) → ⊥
    some_not h = cc

pub broken_root : {P E : Type 0} (s : Scale P E) (x : E) (pages later : ℕ → Node P E) (root after : Node P E) (rule : Rule) (free : List ℕ) (bad : ℕ) (more full : Type 0)
    → root ≡ Broken rule → LevelsWhereFull s x pages later root after free more full (Err (Bad bad rule))
broken_root s x pages later root after rule free bad more full is = λ es spelled apart spare.
    absurd (not_eight (levels_of (with_root root pages) 8 no_page) (broken_levels root pages rule is) (refuse_broken s x pages root rule free bad rule is es spelled apart spare).2)

pub here_levels : {P E : Type 0} (node : List ℕ → Node P E) (s : Scale P E) → IsOrder s → (x : E) (image : Image) (root after : Node P E) (old new : List Drafted) (rest : List E) (free left : List ℕ) (full lacks : ℕ → Type 0) (no_room : Type 0) (no_place : P → Type 0) (r : Result (Unit {0}) TreeError)
    → root ≡ Leaf rest → RootHereDid node s x root after old new free left r → OnOk r (RootRoom no_room free left)
    → LevelsWhereFull s x (nodes node old image) (nodes node new image) root after free (GrowsLevel s x (nodes node old image) full lacks root no_room no_place after (nodes node new image)) (FullFrom s x (nodes node old image) full lacks root no_room no_place) r
here_levels node s o x image root after old new rest free left full lacks no_room no_place (Ok u) is did (inr (none, one)) = λ es spelled apart spare. inr (inl ((rest, is), none))
here_levels node s o x image root after old new rest free left full lacks no_room no_place (Ok u) is did (inl same) = λ es spelled apart spare.
    let settled = did image rest is (subst (IsApart s x) (sym (leaf_spells s (nodes node old image) root rest es is spelled)) apart) in
    inl (leaf_levels after (nodes node new image) (with_entry s x rest) (stays s 1 (Leaf (with_entry s x rest)) after (nodes node old image) (nodes node new image) free left settled same).0
    ∙ sym (leaf_levels root (nodes node old image) rest is))
here_levels node s o x image root after old new rest free left full lacks no_room no_place (Err (View e)) is did room = tt
here_levels node s o x image root after old new rest free left full lacks no_room no_place (Err (Bad bad rule)) is did room = λ es spelled apart spare.
    absurd (not_eight (levels_of (with_root root (nodes node old image)) 8 no_page) (leaf_levels root (nodes node old image) rest is)
    (refuse_here node s o x (nodes node old image) root after old new free left rest (Bad bad rule) is did es spelled apart spare).2)
here_levels node s o x image root after old new rest free left full lacks no_room no_place (Err Memory) is did room = tt
