-- Filled levels of a whole tree that took an entry.
use Rattle.std.proofs.Common.{◌≡◌, ◌≢◌, ◌≤◌, ◌<◌, inl, inr, refl, sym, ap, ◌∙◌, subst, ℕ, zero, suc, ◌+◌, Bool, true, false, List, [], ◌∷◌, ◌++◌, length, ◌==◌, if◌then◌else◌, Option, Some, None, Result, Ok, Err, OnOk, arith}
use Rattle.std.specs.Prelude.{reverse}
use Rattle.std.specs.List.{flat_map}
use Rattle.jfs_disk.specs.Image.{Image, page_of}
use Rattle.jfs_ranges.specs.declared.edit.Edit.{Edit}
use Rattle.jfs_tree.specs.Walk.{Child, Node, Leaf, Inner, Marks, Scale, Rises, IsOrder, rows_of, times, placed, body, walk}
use Rattle.jfs_tree.specs.Spells.{no_page, with_root, top, spells, footprint}
use Rattle.jfs_tree.specs.Levels.{InLine, IsFilledTo, HoldsLeast, pages_below}
use Rattle.jfs_tree.specs.Edit.{IsApart, Ready, Grew, bound, own, count_in, with_entry}
use Rattle.jfs_tree.specs.Form.{AllBelow, HasChildren, LeadsDown, as_child, children_of}
use Rattle.jfs_tree.specs.Draft.{shown}
use Rattle.jfs_tree.specs.Call.{nodes}
use Rattle.jfs_tree.specs.Root.{IsSpare, AddsAlways, RootGrownDid, RootHereDid, Settled}
use Rattle.jfs_tree.specs.Tell.{TellsDraft}
use Rattle.jfs_tree.specs.Fresh.{LeadsTo, after_tx, HasPages}
use Rattle.jfs_tree.specs.Adds.{read_as}
use Rattle.jfs_tree.specs.Filled.{ComesPast, StaysFilled, FillsAlways, LeastTold, AppendsTold}
use Rattle.jfs_tree.specs.declared.draft.Drafted.{Drafted}
use Rattle.jfs_tree.specs.declared.form.Sibling.{Sibling}
use Rattle.jfs_tree.specs.declared.form.TreeError.{TreeError}
use Rattle.jfs_tree.proofs.Frame.{Agree, frame}
use Rattle.jfs_tree.proofs.Filling.{numbers, children_stay, filled_stays, below_stays, filled_frame, filled_same, filled_of, filled_not_thin}
use Rattle.jfs_tree.proofs.FilledSteps.{ends, line_filled, leaf_filled, has_below, at_place, child_passes}
use Rattle.jfs_tree.proofs.Growing.{Route, own_page}
use Rattle.jfs_tree.proofs.RootCalls.{below_root, cons_middle, leaf_spells, one_level}
use Rattle.jfs_tree.proofs.RootSteps.{root_at, root_keys, root_took}
use Rattle.jfs_tree.proofs.Shrank.{own_is}
use Rattle.jfs_tree.proofs.Taking.{route_of, place_of}
use Rattle.jfs_tree.proofs.Tops.{count_below, root_else}
use Rattle.jfs_tree.proofs.Within.{footprint_within}
use Rattle.jfs_tree.proofs.Adds.{spare_reversed}

not_root : (n t f : ℕ) → ((if no_page == n then 1 else 0) + t) + f ≤ 1 → 0 < t → n ≢ no_page
not_root n t f h p e = grind arith

not_q : (q n t r f l : ℕ) → (r + t) + f ≤ 1 → f ≡ (if q == n then 1 else 0) + l → 0 < t → n ≢ q
not_q q n t r f l h e p i = grind arith

q_free : (q b l : ℕ) → b ≡ (if q == q then 1 else 0) + l → b ≡ 0 → ⊥
q_free q b l h i = grind arith

-- what holds of both kinds of calls
abbrev FilledTold : {P E : Type 0} → Bool → ℕ → Scale P E → (List ℕ → Node P E) → ℕ → (ℕ → List ℕ) → E → Node P E → Node P E → List ℕ → List Edit → List Edit → Type 0
FilledTold {E = E} appends least s node blocks pages x root after free tx later = (base : ℕ → List ℕ) → LeadsTo blocks base tx pages → (es : List E) → spells s (read_as node pages) root ≡ Ok es → IsApart s x es → IsSpare s (read_as node pages) root free
    → (appends ≡ true → ComesPast s x es) → HoldsLeast least (with_root root (read_as node pages)) → HoldsLeast least (with_root after (read_as node (after_tx base later)))

module _ (appends : Bool) (least : ℕ) where
  -- a root below which one page stands, which holds what was to stand at the root
  moved_filled : {P E : Type 0} (nodes : ℕ → Node P E) (q : ℕ) (key : P) (taken after : Node P E) → nodes no_page ≡ after → after ≡ Inner (record { key = key; page = q } ∷ []) → nodes q ≡ taken
      → ((depth : ℕ) → InLine (IsFilledTo least nodes depth) true (pages_below taken)) → (depth : ℕ) → IsFilledTo least nodes depth true no_page
  unfolding IsFilledTo
  moved_filled nodes q key taken after root is at line zero = tt
  moved_filled {P} {E} nodes q key taken after root is at line (suc zero) = ((λ e. absurd cc), subst (λ (n : Node P E). InLine (IsFilledTo least nodes 0) true (pages_below n)) (sym (root ∙ is)) tt)
  moved_filled {P} {E} nodes q key taken after root is at line (suc (suc depth)) = (
    (λ e. absurd cc),
    subst (λ (n : Node P E). InLine (IsFilledTo least nodes (suc depth)) true (pages_below n)) (sym (root ∙ is)) ((λ e. absurd cc), subst (λ (n : Node P E). InLine (IsFilledTo least nodes depth) true (pages_below n)) (sym at) (line depth)),
  )

  -- the pages below a root's content
  below_filled : {P E : Type 0} (nodes : ℕ → Node P E) (node : Node P E) → nodes no_page ≡ node → ((depth : ℕ) → IsFilledTo least nodes depth true no_page) → (depth : ℕ) → InLine (IsFilledTo least nodes depth) true (pages_below node)
  unfolding IsFilledTo
  below_filled {P} {E} nodes node is filled depth = subst (λ (n : Node P E). InLine (IsFilledTo least nodes depth) true (pages_below n)) is (filled (suc depth)).1

  settled_filled : {P E : Type 0} (s : Scale P E) → IsOrder s → (mid new : ℕ → Node P E) (taken after : Node P E) (levels : ℕ) (between left : List ℕ) → count_in no_page between ≡ 0
      → Rises s s.least (walk s (with_root taken mid) levels (top s)) None → ((n : ℕ) → times n (walk s (with_root taken mid) levels (top s)) + count_in n between ≤ 1)
      → Settled s levels taken mid new after between left → ((depth : ℕ) → IsFilledTo least (with_root taken mid) depth true no_page) → (depth : ℕ) → IsFilledTo least (with_root after new) depth true no_page
  unfolding walk
  settled_filled {P} {E} s o mid new taken after levels between left apart rises once (inl (same, pages, counts)) filled =
      filled_frame least s o (with_root taken mid) (with_root after new) levels s.least s.least None rises (λ n p. ap (λ r. with_root r new n) same ∙ ap (λ m. if n == no_page then taken else m) (pages n)) filled
  settled_filled {P} {E} s o mid new taken after zero between left apart rises once (inr (q, deep, is, here, pages, counts)) filled = absurd rises
  settled_filled {P} {E} s o mid new taken after (suc lower) between left apart rises once (inr (q, deep, is, here, pages, counts)) filled =
      let before = with_root taken mid in
      let now = with_root after new in
      let ms = body (walk s before lower) (top s) (placed s lower s.least taken) in
      let off : q ≢ no_page = λ e. q_free q (count_in q between) (count_in q left) (counts q) (ap (λ m. count_in m between) e ∙ apart) in
      let agree : Agree before now ms = λ n t.
      let nr = not_root n (times n ms) (count_in n between) (once n) t in
      root_else after new n nr ∙ pages n (not_q q n (times n ms) (if no_page == n then 1 else 0) (count_in n between) (count_in n left) (once n) (counts n) t) ∙ sym (root_else taken mid n nr) in
      moved_filled now q s.least taken after refl is (root_else after new q off ∙ here)
      (λ depth. below_stays least s o before now lower depth (top s) taken s.least None true rises.1 agree (below_filled before taken refl filled depth))

  away : {P E : Type 0} (ms : Marks P E) → times no_page ms ≡ 0 → (n : ℕ) → 0 < times n ms → n ≢ no_page
  away ms none n p e = let h = ap (λ m. times m ms) e in omega (arith, none, p, h)

  -- a root whose child grew, before it is known where it stands
  root_filled : {P E : Type 0} (s : Scale P E) → IsOrder s → (x : E) (root taken : Node P E) (old mid : ℕ → Node P E) (lower child : ℕ) (more : List (Child P)) (free between : List ℕ) (front : List (Child P)) (t : Child P) (back : List (Child P))
      → Route s x root child front t back → Grew s x old mid (suc lower) child more free between
      → Ready s x s.least s.least (walk s (with_root root old) (suc (suc lower)) (top s)) None free → HasChildren taken (front ++ t ∷ (more ++ back))
      → StaysFilled appends least s x old mid (suc lower) child (ends (numbers back) true) more free
      → (appends ≡ true → ComesPast s x (rows_of (walk s (with_root root old) (suc (suc lower)) (top s))))
      → ((depth : ℕ) → IsFilledTo least (with_root root old) depth true no_page) → (depth : ℕ) → IsFilledTo least (with_root taken mid) depth true no_page
  unfolding IsFilledTo
  root_filled s o x root taken old mid lower child more free between front t back route grew ready has fills past filled zero = tt
  root_filled {P} {E} s o x root taken old mid lower child more free between front t back route grew ready has fills past filled (suc depth) =
      let before = with_root root old in
      let middle = with_root root mid in
      let after = with_root taken mid in
      let e = ends (numbers back) true in
      let u = own s.least front t in
      let l = root_at s o x root taken old mid lower child more free between front t back route grew ready in
      let high = bound (flat_map (walk s before (suc lower)) back) None in
      let T = walk s before (suc lower) u in
      let N = flat_map (walk s mid (suc lower)) (u ∷ more) in
      let grown = λ (f : IsFilledTo least before depth e t.page).
      let was = filled_stays least s o before old (suc lower) depth u l.b.mid high e l.b.part.rises (λ n p. sym (root_else root old n (away T l.off_old n p))) (subst (IsFilledTo least before depth e) (sym (own_page s.least front t)) f) in
      let ready_there = subst (λ (v : Child P). Ready s x u.key l.b.mid (walk s old (suc lower) v) high free) (own_is s.least front t child route.to) l.part in
      let passes = child_passes appends least s o x before lower no_page child s.least front t back s.least None true route.is route.to route.past ready.rises (λ h. (refl, past h)) in
      let part : Child P = record { key = u.key; page = child } in
      let same = frame s before old (suc lower) part (λ n p. sym (root_else root old n (away T l.off_old n (subst (λ (v : Child P). 0 < times n (walk s before (suc lower) v)) (sym (own_is s.least front t child route.to)) p)))) in
      let there_past : appends ≡ true → (e ≡ true) × ComesPast s x (rows_of (walk s old (suc lower) part)) = λ h. let q = passes h in (q.0, subst (λ ms. ComesPast s x (rows_of ms)) (sym same) q.1) in
      let there = fills u.key l.b.mid high depth ready_there there_past (subst (IsFilledTo least old depth e) (own_page s.least front t ∙ route.to) was) in
      subst (λ n. InLine (IsFilledTo least middle depth) e (n ∷ numbers more)) (own_page s.least front t)
      (children_stay least s o mid middle (suc lower) depth (u ∷ more) l.b.mid high e l.grew.rises (λ n p. root_else root mid n (away N l.off_new n p)) (subst (λ n. InLine (IsFilledTo least mid depth) e (n ∷ numbers more)) (sym (own_page s.least front t ∙ route.to)) there)) in
      let line = line_filled appends least s o x before middle after lower no_page more free between between s.least front t back s.least None depth true l.at ready l.b l.took
      grown
      (subst (λ (n : Node P E). InLine (IsFilledTo least before depth) true (pages_below n)) route.is (filled (suc depth)).1) in
      ((λ i. absurd cc), subst (InLine (IsFilledTo least after depth) true) (sym (has_below taken s.least (front ++ t ∷ (more ++ back)) has)) line)

  once_more : (n t f u b : ℕ) → t + b ≡ u + f → u + f ≤ 1 → t + b ≤ 1
  once_more n t f u b h i = omega (arith, h, i)

  grown_fills : {P E : Type 0} (node : List ℕ → Node P E) (s : Scale P E) → IsOrder s → (x : E) (image : Image) (root after : Node P E) (old mid new : List Drafted) (place child levels blocks : ℕ) (free between left : List ℕ) (more : Option (Sibling P)) (last : Bool)
      → AllBelow blocks free → blocks ≤ no_page → LeadsDown s x root place child → ((cs : List (Child P)) → root ≡ Inner cs → last ≡ (suc place == length cs))
      → Grew s x (nodes node old image) (nodes node mid image) levels child (children_of more) free between
      → StaysFilled appends least s x (nodes node old image) (nodes node mid image) levels child last (children_of more) free
      → RootGrownDid node s levels place more root after mid new between left (Ok tt)
      → FillsAlways appends least s x (nodes node old image) (nodes node new image) root after free
  grown_fills node s o x image root after old mid new place child levels blocks free between left None last below within leads ends grew fills did es spelled apart spare past filled =
      let pages = nodes node old image in
      let middle = nodes node mid image in
      let w = below_root s o x es pages root place child levels blocks free below within leads grew.ends spelled apart spare in
      let g = subst (λ l. Grew s x pages middle l child [] free between) w.level grew in
      let f = at_place appends least s x pages middle root w.lower place child true last [] free leads ends (subst (λ l. StaysFilled appends least s x pages middle l child last [] free) w.level fills) in
      let has : HasChildren root (leads.front ++ leads.child ∷ leads.back) = record { children = leads.front ++ leads.child ∷ leads.back; is = leads.is; some = cons_middle leads.front leads.child leads.back; same = λ k. refl } in
      let route = route_of s x root place child leads in
      let took = root_took s o x root root pages middle w.lower child [] free between leads.front leads.child leads.back route g w.ready has in
      let nothing = count_below blocks no_page free below within in
      let fewer = g.takes no_page in
      settled_filled s o middle (nodes node new image) root after (suc (suc w.lower)) between left (omega (arith, nothing, fewer)) took.rises
      (λ n. once_more n (times n (walk s (with_root root middle) (suc (suc w.lower)) (top s))) (count_in n free) (times n (walk s (with_root root pages) (suc (suc w.lower)) (top s))) (count_in n between) (took.pages n) (w.ready.once n))
      (inl (did.0, (λ n. ap (λ d. nodes node d image n) did.1), (λ n. ap (count_in n) (sym did.2))))
      (root_filled s o x root root pages middle w.lower child [] free between leads.front leads.child leads.back route g w.ready has f (λ h. subst (λ rows. ComesPast s x rows) (sym w.rows) (past h)) filled)
  grown_fills node s o x image root after old mid new place child levels blocks free between left (Some sibling) last below within leads ends grew fills did es spelled apart spare past filled =
      let pages = nodes node old image in
      let middle = nodes node mid image in
      let w = below_root s o x es pages root place child levels blocks free below within leads grew.ends spelled apart spare in
      let g = subst (λ l. Grew s x pages middle l child (as_child sibling ∷ []) free between) w.level grew in
      let f = at_place appends least s x pages middle root w.lower place child true last (as_child sibling ∷ []) free leads ends (subst (λ l. StaysFilled appends least s x pages middle l child last (as_child sibling ∷ []) free) w.level fills) in
      let route = route_of s x root place child leads in
      let d = did image (leads.front ++ leads.child ∷ as_child sibling ∷ leads.back) (place_of s x root place child leads (as_child sibling))
      (root_keys s o x root pages middle w.lower child (as_child sibling ∷ []) free between leads.front leads.child leads.back route g w.ready) in
      let took = root_took s o x root d.0 pages middle w.lower child (as_child sibling ∷ []) free between leads.front leads.child leads.back route g w.ready d.1 in
      let nothing = count_below blocks no_page free below within in
      let fewer = g.takes no_page in
      settled_filled s o middle (nodes node new image) d.0 after (suc (suc w.lower)) between left (omega (arith, nothing, fewer)) took.rises
      (λ n. once_more n (times n (walk s (with_root d.0 middle) (suc (suc w.lower)) (top s))) (count_in n free) (times n (walk s (with_root root pages) (suc (suc w.lower)) (top s))) (count_in n between) (took.pages n) (w.ready.once n))
      (subst (λ l. Settled s l d.0 middle (nodes node new image) after between left) (one_level levels w.lower w.level) d.2)
      (root_filled s o x root d.0 pages middle w.lower child (as_child sibling ∷ []) free between leads.front leads.child leads.back route g w.ready d.1 f (λ h. subst (λ rows. ComesPast s x rows) (sym w.rows) (past h)) filled)

  pub grown_always_fills : {P E : Type 0} (node : List ℕ → Node P E) (s : Scale P E) → IsOrder s → (x : E) (image : Image) (root after : Node P E) (old mid new : List Drafted) (place child levels blocks : ℕ) (free between left : List ℕ) (more : Option (Sibling P)) (last : Bool) (r : Result (Unit {0}) TreeError)
      → AllBelow blocks free → blocks ≤ no_page → LeadsDown s x root place child → ((cs : List (Child P)) → root ≡ Inner cs → last ≡ (suc place == length cs))
      → Grew s x (nodes node old image) (nodes node mid image) levels child (children_of more) free between
      → StaysFilled appends least s x (nodes node old image) (nodes node mid image) levels child last (children_of more) free
      → RootGrownDid node s levels place more root after mid new between left r
      → OnOk r (FillsAlways appends least s x (nodes node old image) (nodes node new image) root after free)
  grown_always_fills node s o x image root after old mid new place child levels blocks free between left more last (Ok u) below within leads ends grew fills did =
      grown_fills node s o x image root after old mid new place child levels blocks free between left more last below within leads ends grew fills did
  grown_always_fills node s o x image root after old mid new place child levels blocks free between left more last (Err e) below within leads ends grew fills did = tt

  -- a root that is a leaf
  leaf_fills : {P E : Type 0} (s : Scale P E) (old new : ℕ → Node P E) (entries : List E) (after : Node P E) (blocks : ℕ) (free left : List ℕ) → AllBelow blocks free → blocks ≤ no_page
      → Settled s 1 (Leaf entries) old new after free left → (depth : ℕ) → IsFilledTo least (with_root after new) depth true no_page
  leaf_fills s old new entries after blocks free left below within (inl (same, pages, counts)) depth = leaf_filled appends least (with_root after new) depth no_page true entries same (λ e. absurd cc)
  leaf_fills {P} {E} s old new entries after blocks free left below within (inr (q, deep, is, here, pages, counts)) depth =
      let off : q ≢ no_page = λ e. q_free q (count_in q free) (count_in q left) (counts q) (ap (λ m. count_in m free) e ∙ count_below blocks no_page free below within) in
      moved_filled (with_root after new) q s.least (Leaf entries) after refl is (root_else after new q off ∙ here) (λ d. tt) depth

  pub here_always_fills : {P E : Type 0} (node : List ℕ → Node P E) (s : Scale P E) (x : E) (image : Image) (root after : Node P E) (old new : List Drafted) (rest : List E) (blocks : ℕ) (free left : List ℕ) (r : Result (Unit {0}) TreeError)
      → AllBelow blocks free → blocks ≤ no_page → root ≡ Leaf rest → RootHereDid node s x root after old new free left r
      → OnOk r (FillsAlways appends least s x (nodes node old image) (nodes node new image) root after free)
  here_always_fills node s x image root after old new rest blocks free left (Ok u) below within is did = λ es spelled apart spare past filled.
      leaf_fills s (nodes node old image) (nodes node new image) (with_entry s x rest) after blocks free left below within (did image rest is (subst (IsApart s x) (sym (leaf_spells s (nodes node old image) root rest es is spelled)) apart))
  here_always_fills node s x image root after old new rest blocks free left (Err e) below within is did = tt

  -- ---- as all edits lead to it

  pub least_told : {P E : Type 0} (s : Scale P E) → IsOrder s → (x : E) (node : List ℕ → Node P E) (blocks : ℕ) (image : Image) (root after : Node P E) (ds drafts : List Drafted) (free stack rest : List ℕ) (tx later : List Edit) → HasPages blocks after → ((bytes : List ℕ) → HasPages blocks (node bytes)) → ds ≡ []
      → AddsAlways s x (nodes node ds image) (nodes node drafts image) root after stack rest → FillsAlways appends least s x (nodes node ds image) (nodes node drafts image) root after stack → TellsDraft blocks image drafts tx later → stack ≡ reverse free
      → FilledTold appends least s node blocks (page_of image) x root after free tx later
  least_told s o x node blocks image root after ds drafts free stack rest tx later top_has has ed given fills told is_stack base leads es spelled apart spare past none page =
      let pages = read_as node (page_of image) in
      let drafted = nodes node drafts image in
      let now = read_as node (after_tx base later) in
      let clear = subst (IsSpare s pages root) (sym is_stack) (spare_reversed s x node pages root free spare) in
      let a = (subst (λ (d : List Drafted). AddsAlways s x (nodes node d image) drafted root after stack rest) ed given) es spelled apart clear in
      let f = (subst (λ (d : List Drafted). FillsAlways appends least s x (nodes node d image) drafted root after stack) ed fills) es spelled apart clear past (filled_of least s o pages root es spelled none) in
      let agree = λ (n : ℕ) (h : n < blocks). ap node (told n h (base n) (leads n h).0 (leads n h).1) in
      let frame = λ (n : ℕ) (h : 0 < footprint s drafted after n). agree n (footprint_within s drafted after n blocks top_has (λ m. has (shown drafts image m)) h) in
      filled_not_thin least (with_root after now) page (filled_same least s o drafted now after a.list a.spelled frame f)

-- an entry that goes anywhere, and one that is appended
pub any_told : {P E : Type 0} (least : ℕ) (s : Scale P E) (node : List ℕ → Node P E) (blocks : ℕ) (pages : ℕ → List ℕ) (x : E) (root after : Node P E) (free : List ℕ) (tx later : List Edit) → FilledTold false least s node blocks pages x root after free tx later → LeastTold least s node blocks pages x root after free tx later
any_told least s node blocks pages x root after free tx later told base leads es spelled apart spare none = told base leads es spelled apart spare (λ e. absurd cc) none

pub appended_told : {P E : Type 0} (least : ℕ) (s : Scale P E) (node : List ℕ → Node P E) (blocks : ℕ) (pages : ℕ → List ℕ) (x : E) (root after : Node P E) (free : List ℕ) (tx later : List Edit) → FilledTold true least s node blocks pages x root after free tx later → AppendsTold least s node blocks pages x root after free tx later
appended_told least s node blocks pages x root after free tx later told base leads es spelled past apart spare none = told base leads es spelled apart spare (λ e. past) none
