-- Filled levels stay filled where an entry goes into them.
use Rattle.std.proofs.Common.{◌≡◌, ◌≢◌, ◌≤◌, refl, sym, ap, ◌∙◌, subst, ℕ, zero, suc, ◌+◌, Bool, true, false, List, [], ◌∷◌, ◌++◌, length, ◌==◌, ◌&&◌, if◌then◌else◌, Option, Some, None, Result, Ok, Err, IfOk, arith}
use Rattle.std.specs.List.{flat_map}
use Rattle.std.proofs.lemmas.List.{append-nil, length-append}
use Rattle.jfs_disk.specs.Image.{Image}
use Rattle.jfs_tree.specs.Walk.{Child, Node, Leaf, Inner, Scale, Rises, IsOrder, rows_of, times, under, walk}
use Rattle.jfs_tree.specs.Levels.{InLine, IsFilledTo, entry_count, pages_below}
use Rattle.jfs_tree.specs.Edit.{IsApart, IsCons, IsPast, KeysRise, Ready, Grew, Took, bound, own, count_in, with_entry}
use Rattle.jfs_tree.specs.Form.{AtPlace, HasChildren, LeadsDown, SplitsRows, SplitsChildren, as_child, children_of}
use Rattle.jfs_tree.specs.Draft.{shown}
use Rattle.jfs_tree.specs.Call.{nodes, PutsOne, PutsTwo}
use Rattle.jfs_tree.specs.Filled.{ComesPast, FillsBoth, StaysFilled, HereFilled, ChildFilled}
use Rattle.jfs_tree.specs.declared.draft.Drafted.{Drafted}
use Rattle.jfs_tree.specs.declared.form.Sibling.{Sibling}
use Rattle.jfs_tree.specs.declared.form.TreeError.{TreeError}
use Rattle.jfs_tree.specs.declared.grow.Grown.{Grown}
use Rattle.jfs_tree.proofs.Filling.{line_front, line_both, numbers, numbers-append, numbers_under, children_stay}
use Rattle.jfs_tree.proofs.Rising.{rises_cut}
use Rattle.jfs_tree.proofs.Appending.{past_child, all_length}
use Rattle.jfs_tree.proofs.Found.{leaf_rows}
use Rattle.jfs_tree.proofs.Keys.{apart_rows}
use Rattle.jfs_tree.proofs.Leaves.{at_leaf}
use Rattle.jfs_tree.proofs.Steps.{times_inner, inner_walk, inner_ready}
use Rattle.jfs_tree.proofs.Between.{Between}
use Rattle.jfs_tree.proofs.Split.{AtLevel, children_agree}
use Rattle.jfs_tree.proofs.Growing.{Route, own_page, own_key, own_once, apart, one_more, at_child, at_level, level_keys, not_taken}
use Rattle.jfs_tree.proofs.Adding.{ends_suc}
use Rattle.jfs_tree.proofs.Shrank.{own_is}
use Rattle.jfs_tree.proofs.Taking.{itself, another, taken_last, two_first, two_last, two_others, route_of, place_of}

-- ---- lines of pages

-- a page is the last one of its level where the line's last one is and none stands behind it
abbrev pub ends : List ℕ → Bool → Bool
ends [] last = last
ends (n ∷ ns) last = false

-- ---- pages with these children

under_length : {P : Type 0} (key : P) (cs : List (Child P)) → length (under key cs) ≡ length cs
under_length key [] = refl
under_length key (c ∷ cs) = refl

has_count : {P E : Type 0} (node : Node P E) (key : P) (all : List (Child P)) → HasChildren node all → entry_count node ≡ length all
has_count {P} {E} node key all h = ap (λ (n : Node P E). entry_count n) h.is ∙ sym (under_length key h.children) ∙ ap length (h.same key) ∙ under_length key all

pub has_below : {P E : Type 0} (node : Node P E) (key : P) (all : List (Child P)) → HasChildren node all → pages_below node ≡ numbers all
has_below {P} {E} node key all h = ap (λ (n : Node P E). pages_below n) h.is ∙ sym (numbers_under key h.children) ∙ ap numbers (h.same key) ∙ numbers_under key all

module _ (appends : Bool) (least : ℕ) where
  line_cut : {P E : Type 0} (nodes : ℕ → Node P E) (depth : ℕ) (last : Bool) (a : List ℕ) (n : ℕ) (b : List ℕ) → InLine (IsFilledTo least nodes depth) last (a ++ n ∷ b)
      → InLine (IsFilledTo least nodes depth) false a × IsFilledTo least nodes depth (ends b last) n × InLine (IsFilledTo least nodes depth) last b
  line_cut nodes depth last a n [] h = let t = line_front (IsFilledTo least nodes depth) last a n [] h in (t.0, t.1, tt)
  line_cut nodes depth last a n (m ∷ b) h = let t = line_front (IsFilledTo least nodes depth) last a n (m ∷ b) h in (t.0, t.1.0, t.1.1)

  line_with : {P E : Type 0} (nodes : ℕ → Node P E) (depth : ℕ) (last : Bool) (a ms b : List ℕ) → InLine (IsFilledTo least nodes depth) false a → InLine (IsFilledTo least nodes depth) (ends b last) ms → InLine (IsFilledTo least nodes depth) last b
      → InLine (IsFilledTo least nodes depth) last (a ++ (ms ++ b))
  line_with nodes depth last a ms [] h i j = subst (λ xs. InLine (IsFilledTo least nodes depth) last (a ++ xs)) (sym (append-nil ms)) (line_both least nodes depth last a ms h i)
  line_with nodes depth last a ms (n ∷ b) h i j = line_both least nodes depth last a (ms ++ n ∷ b) h (line_both least nodes depth last ms (n ∷ b) i j)

  has_filled : {P E : Type 0} (nodes : ℕ → Node P E) (depth page : ℕ) (last : Bool) (key : P) (all : List (Child P)) → HasChildren (nodes page) all → (last ≡ false → least ≤ entry_count (nodes page))
      → InLine (IsFilledTo least nodes depth) last (numbers all) → IsFilledTo least nodes (suc depth) last page
  unfolding IsFilledTo
  has_filled nodes depth page last key all has enough line = (enough, subst (InLine (IsFilledTo least nodes depth) last) (sym (has_below (nodes page) key all has)) line)

  pub leaf_filled : {P E : Type 0} (nodes : ℕ → Node P E) (depth page : ℕ) (last : Bool) (es : List E) → nodes page ≡ Leaf es → (last ≡ false → least ≤ entry_count (nodes page)) → IsFilledTo least nodes depth last page
  unfolding IsFilledTo
  leaf_filled nodes zero page last es is enough = tt
  leaf_filled {P} {E} nodes (suc depth) page last es is enough = (enough, subst (λ (n : Node P E). InLine (IsFilledTo least nodes depth) last (pages_below n)) (sym is) tt)

  -- ---- the children of a page, one of which took the entry

  pub line_filled : {P E : Type 0} (s : Scale P E) → IsOrder s → (x : E) (before middle after : ℕ → Node P E) (lower page : ℕ) (more : List (Child P)) (free between left : List ℕ) (key : P) (front : List (Child P)) (t : Child P) (back : List (Child P)) (low : P) (high : Option P) (depth : ℕ) (last : Bool)
      → (at : AtLevel s before middle after lower (record { key = key; page = page }) front t back free between left)
      → Ready s x key low (walk s before (suc (suc lower)) (record { key = key; page = page })) high free
      → (b : Between s x (own key front t).key key (flat_map (walk s before (suc lower)) (under key front)) (walk s before (suc lower) (own key front t)) (flat_map (walk s before (suc lower)) back) high free)
      → Took s x b.mid (walk s before (suc lower) (own key front t)) (flat_map (walk s middle (suc lower)) (own key front t ∷ more)) (bound (flat_map (walk s before (suc lower)) back) high) free between
      → (IsFilledTo least before depth (ends (numbers back) last) t.page → InLine (IsFilledTo least middle depth) (ends (numbers back) last) (t.page ∷ numbers more))
      → InLine (IsFilledTo least before depth) last (numbers (front ++ t ∷ back)) → InLine (IsFilledTo least after depth) last (numbers (front ++ t ∷ (more ++ back)))
  line_filled {P} s o x before middle after lower page more free between left key front t back low high depth last at r b took fills line =
      let c : Child P = record { key = key; page = page } in
      let u = own key front t in
      let e = ends (numbers back) last in
      let A = flat_map (walk s before (suc lower)) (under key front) in
      let T = walk s before (suc lower) u in
      let B = flat_map (walk s before (suc lower)) back in
      let agree = children_agree s x before middle after lower c front t more back free between left b.mid (bound B high) at r.once took in
      let rest = subst (λ ms. Rises s low ms high) (inner_walk s before lower c front t back at.old_page) r.rises in
      let cut_a = rises_cut s o key A (T ++ B) high rest.1 in
      let cut_b = rises_cut s o cut_a.0 T B high cut_a.2 in
      let cut = line_cut before depth last (numbers front) t.page (numbers back) (subst (InLine (IsFilledTo least before depth) last) (numbers-append front (t ∷ back)) line) in
      let is_front = children_stay least s o before after (suc lower) depth (under key front) key (Some b.mid) false b.left agree.0 (subst (InLine (IsFilledTo least before depth) false) (sym (numbers_under key front)) cut.0) in
      let is_mid = children_stay least s o middle after (suc lower) depth (u ∷ more) b.mid (bound B high) e took.rises agree.1 (subst (λ n. InLine (IsFilledTo least middle depth) e (n ∷ numbers more)) (sym (own_page key front t)) (fills cut.1)) in
      let is_back = children_stay least s o before after (suc lower) depth back cut_b.0 high last cut_b.2 agree.2 cut.2 in
      subst (InLine (IsFilledTo least after depth) last) (sym (numbers-append front (t ∷ (more ++ back)) ∙ ap (λ ns. numbers front ++ t.page ∷ ns) (numbers-append more back)))
      (line_with after depth last (numbers front) (t.page ∷ numbers more) (numbers back) (subst (InLine (IsFilledTo least after depth) false) (numbers_under key front) is_front) (subst (λ n. InLine (IsFilledTo least after depth) e (n ∷ numbers more)) (own_page key front t) is_mid) is_back)

  -- an entry that is appended below a page is appended below its child, which is its last one
  pub child_passes : {P E : Type 0} (s : Scale P E) → IsOrder s → (x : E) (before : ℕ → Node P E) (lower page child : ℕ) (key : P) (front : List (Child P)) (t : Child P) (back : List (Child P)) (low : P) (high : Option P) (last : Bool)
      → before page ≡ Inner (front ++ t ∷ back) → t.page ≡ child → IsPast s x back → Rises s low (walk s before (suc (suc lower)) (record { key = key; page = page })) high
      → (appends ≡ true → (last ≡ true) × ComesPast s x (rows_of (walk s before (suc (suc lower)) (record { key = key; page = page }))))
      → appends ≡ true → (ends (numbers back) last ≡ true) × ComesPast s x (rows_of (walk s before (suc lower) (record { key = (own key front t).key; page = child })))
  child_passes {P} s o x before lower page child key front t back low high last is to behind rises past e =
      let p = past e in
      let c = past_child s o before x lower (record { key = key; page = page }) front t back low high is rises behind p.1 in
      (ap (λ (b : List (Child P)). ends (numbers b) last) c.0 ∙ p.0, subst (λ (v : Child P). ComesPast s x (rows_of (walk s before (suc lower) v))) (own_is key front t child to) c.1)

  children_filled : {P E : Type 0} (s : Scale P E) → IsOrder s → (x : E) (before middle after : ℕ → Node P E) (lower page child : ℕ) (more : List (Child P)) (free between left : List ℕ) (key : P) (front : List (Child P)) (t : Child P) (back : List (Child P)) (low : P) (high : Option P) (depth : ℕ) (last : Bool)
      → Route s x (before page) child front t back → Grew s x before middle (suc lower) child more free between
      → AtLevel s before middle after lower (record { key = key; page = page }) front t back free between left
      → Ready s x key low (walk s before (suc (suc lower)) (record { key = key; page = page })) high free
      → StaysFilled appends least s x before middle (suc lower) child (ends (numbers back) last) more free
      → (appends ≡ true → (last ≡ true) × ComesPast s x (rows_of (walk s before (suc (suc lower)) (record { key = key; page = page }))))
      → InLine (IsFilledTo least before depth) last (numbers (front ++ t ∷ back)) → InLine (IsFilledTo least after depth) last (numbers (front ++ t ∷ (more ++ back)))
  children_filled {P} s o x before middle after lower page child more free between left key front t back low high depth last route grew at r fills past line =
      let u = own key front t in
      let B = flat_map (walk s before (suc lower)) back in
      let g = at_child s x before middle lower child more free between key front t route.to grew in
      let b = inner_ready s o x before lower (record { key = key; page = page }) front t back low high free route.is r (own_key s x key front t r.above route.above) route.past in
      let ready = subst (λ (v : Child P). Ready s x u.key b.mid (walk s before (suc lower) v) (bound B high) free) (own_is key front t child route.to) b.part in
      let child_past = child_passes s o x before lower page child key front t back low high last route.is route.to route.past r.rises past in
      line_filled s o x before middle after lower page more free between left key front t back low high depth last at r b (g.grows u.key b.mid (bound B high) b.part)
      (λ f. subst (λ n. InLine (IsFilledTo least middle depth) (ends (numbers back) last) (n ∷ numbers more)) (sym route.to) (fills u.key b.mid (bound B high) depth ready child_past (subst (IsFilledTo least before depth (ends (numbers back) last)) route.to f))) line

  -- a page's children are those that it had, and perhaps one more
  more_length : {X : Type 0} (front : List X) (t : X) (more back : List X) → length (front ++ t ∷ back) ≤ length (front ++ t ∷ (more ++ back))
  more_length front t more back = omega (arith, length-append front (t ∷ back), length-append front (t ∷ (more ++ back)), length-append more back)

  -- an inner page has the new children of its child
  inner_filled : {P E : Type 0} (s : Scale P E) → IsOrder s → (x : E) (before middle after : ℕ → Node P E) (lower page child : ℕ) (more : List (Child P)) (free left : List ℕ) (front : List (Child P)) (t : Child P) (back : List (Child P)) (last : Bool)
      → Route s x (before page) child front t back → Grew s x before middle (suc lower) child more free left
      → StaysFilled appends least s x before middle (suc lower) child (ends (numbers back) last) more free
      → ((key low : P) (high : Option P) → Ready s x key low (walk s before (suc (suc lower)) (record { key = key; page = page })) high free → HasChildren (after page) (front ++ t ∷ (more ++ back)))
      → ((n : ℕ) → n ≢ page → after n ≡ middle n) → StaysFilled appends least s x before after (suc (suc lower)) page last [] free
  unfolding IsFilledTo
  inner_filled s o x before middle after lower page child more free left front t back last route grew fills is others key low high zero ready past filled = tt
  inner_filled {P} {E} s o x before middle after lower page child more free left front t back last route grew fills is others key low high (suc depth) ready past filled =
      let all = front ++ t ∷ (more ++ back) in
      let has = is key low high ready in
      let at = at_level s x before middle after lower page child more free left left key front t back route grew (λ n ne e. others n ne) (λ n. omega arith) in
      has_filled after depth page last key all has
      (λ e. let h = filled.0 e in let i = ap (λ (n : Node P E). entry_count n) route.is in let j = has_count (after page) key all has in let k = more_length front t more back in omega (arith, h, i, j, k))
      (children_filled s o x before middle after lower page child more free left left key front t back low high depth last route grew at ready fills past (subst (λ (n : Node P E). InLine (IsFilledTo least before depth) last (pages_below n)) route.is filled.1))

  -- an inner page that was split
  inner_parts_filled : {P E : Type 0} (s : Scale P E) → IsOrder s → (x : E) (before middle after : ℕ → Node P E) (lower page child q : ℕ) (more : List (Child P)) (free between left : List ℕ) (front : List (Child P)) (t : Child P) (back : List (Child P)) (a b : Node P E) (up : P) (last : Bool)
      → Route s x (before page) child front t back → Grew s x before middle (suc lower) child more free between
      → StaysFilled appends least s x before middle (suc lower) child (ends (numbers back) last) more free
      → ((n : ℕ) → count_in n between ≡ (if q == n then 1 else 0) + count_in n left)
      → (KeysRise s (front ++ t ∷ (more ++ back)) → SplitsChildren (front ++ t ∷ (more ++ back)) a b up) → (KeysRise s (front ++ t ∷ (more ++ back)) → (appends ≡ true → (last ≡ true) × (back ≡ [])) → FillsBoth least last a b)
      → (page ≢ q → after page ≡ a) → after q ≡ b → ((n : ℕ) → n ≢ page → n ≢ q → after n ≡ middle n)
      → StaysFilled appends least s x before after (suc (suc lower)) page last (record { key = up; page = q } ∷ []) free
  unfolding IsFilledTo
  inner_parts_filled s o x before middle after lower page child q more free between left front t back a b up last route grew fills taken splits both is_page is_q others key low high zero ready past filled = (tt, tt)
  inner_parts_filled {P} {E} s o x before middle after lower page child q more free between left front t back a b up last route grew fills taken splits both is_page is_q others key low high (suc depth) ready past filled =
      let ne = apart page q (count_in page free) (count_in page between) (count_in page left) (own_once s before (suc lower) page key (count_in page free) (ready.once page)) (grew.takes page) (taken page) in
      let at = at_level s x before middle after lower page child more free between left key front t back route grew
      (λ n np e. others n np (not_taken q n (count_in n left) (count_in n between) (taken n) e)) (λ n. let h = taken n in omega (arith, h)) in
      let keys = level_keys s o x before middle lower page child more free between key front t back low high route grew ready in
      let p = splits keys in
      let f = both keys (λ e. let q = past e in (q.0, (past_child s o before x lower (record { key = key; page = page }) front t back low high route.is ready.rises route.past q.1).0)) in
      let line = children_filled s o x before middle after lower page child more free between left key front t back low high depth last route grew at ready fills past (subst (λ (n : Node P E). InLine (IsFilledTo least before depth) last (pages_below n)) route.is filled.1) in
      let parts = line_front (IsFilledTo least after depth) last (numbers p.front) p.first.page (numbers p.back) (subst (InLine (IsFilledTo least after depth) last) (ap numbers p.is ∙ numbers-append p.front (p.first ∷ p.back)) line) in (
        has_filled after depth page false key p.front (subst (λ (n : Node P E). HasChildren n p.front) (sym (is_page ne)) p.left_is) (λ e. subst (λ (n : Node P E). least ≤ entry_count n) (sym (is_page ne)) f.left_has) parts.0,
        has_filled after depth q last key (p.first ∷ p.back) (subst (λ (n : Node P E). HasChildren n (p.first ∷ p.back)) (sym is_q) p.right_is) (λ e. subst (λ (n : Node P E). least ≤ entry_count n) (sym is_q) (f.right_has e)) parts.1,
      )

  -- ---- leaves

  more_entries : {P E : Type 0} (s : Scale P E) (x : E) (es : List E) → length (with_entry s x es) ≡ suc (length es)
  more_entries s x [] = refl
  more_entries {P} {E} s x (e ∷ es) = by (s.le (s.to e) (s.from x)) (more_entries s x es)
    where
      by : (b : Bool) → length (with_entry s x es) ≡ suc (length es) → length (if b then e ∷ with_entry s x es else x ∷ e ∷ es) ≡ suc (suc (length es))
      by true h = ap suc h
      by false h = refl

  leaf_kept_filled : {P E : Type 0} (s : Scale P E) → IsOrder s → (x : E) (before after : ℕ → Node P E) (page : ℕ) (es : List E) (free : List ℕ) (last : Bool)
      → before page ≡ Leaf es → (IsApart s x es → after page ≡ Leaf (with_entry s x es)) → StaysFilled appends least s x before after 1 page last [] free
  unfolding IsFilledTo
  leaf_kept_filled s o x before after page es free last was is key low high zero ready past filled = tt
  leaf_kept_filled {P} {E} s o x before after page es free last was is key low high (suc depth) ready past filled =
      let l = at_leaf s o x before (record { key = key; page = page }) es low high free was ready in
      let now = is (apart_rows s x page es l.ready.clear.1) in
      leaf_filled after (suc depth) page last (with_entry s x es) now
      (λ e. let h = filled.0 e in let i = ap (λ (n : Node P E). entry_count n) was in let j = ap (λ (n : Node P E). entry_count n) now in let k = more_entries s x es in omega (arith, h, i, j, k))

  leaf_parts_filled : {P E : Type 0} (s : Scale P E) → IsOrder s → (x : E) (before after : ℕ → Node P E) (page q : ℕ) (es : List E) (a b : Node P E) (key : P) (free left : List ℕ) (last : Bool)
      → before page ≡ Leaf es → (IsApart s x es → SplitsRows s (with_entry s x es) a b key) → (IsApart s x es → (appends ≡ true → (last ≡ true) × ComesPast s x es) → FillsBoth least last a b)
      → ((n : ℕ) → count_in n free ≡ (if q == n then 1 else 0) + count_in n left)
      → (page ≢ q → after page ≡ a) → after q ≡ b → StaysFilled appends least s x before after 1 page last (record { key = key; page = q } ∷ []) free
  leaf_parts_filled {P} {E} s o x before after page q es a b key free left last was splits both taken is_page is_q own low high depth ready past filled =
      let ne = apart page q (count_in page free) (count_in page free) (count_in page left) (own_once s before zero page own (count_in page free) (ready.once page)) (omega arith) (taken page) in
      let l = at_leaf s o x before (record { key = own; page = page }) es low high free was ready in
      let clear = apart_rows s x page es l.ready.clear.1 in
      let p = splits clear in
      let f = both clear (λ e. let q = past e in (q.0, subst (λ rows. ComesPast s x rows) (leaf_rows s before (record { key = own; page = page }) es low high was ready.rises) q.1)) in (
        leaf_filled after depth page false p.front (is_page ne ∙ p.left_is) (λ e. subst (λ (n : Node P E). least ≤ entry_count n) (sym (is_page ne)) f.left_has),
        leaf_filled after depth q last p.back (is_q ∙ p.right_is) (λ e. subst (λ (n : Node P E). least ≤ entry_count n) (sym is_q) (f.right_has e)),
      )

  -- ---- as the draft shows it

  pub here_kept_filled : {P E : Type 0} (node : List ℕ → Node P E) (s : Scale P E) → IsOrder s → (x : E) (bytes put : List ℕ) (page : ℕ) (last : Bool) (old new : List Drafted) (free : List ℕ)
      → ((es : List E) → node bytes ≡ Leaf es → IsApart s x es → node put ≡ Leaf (with_entry s x es)) → PutsOne old new page put → HereFilled appends least node s x bytes page last old new free None
  here_kept_filled node s o x bytes put page last old new free puts is image es read leaf =
      leaf_kept_filled s o x (nodes node old image) (nodes node new image) page es free last (ap node (sym read) ∙ leaf) (λ a. ap node (is image page ∙ itself page put (shown old image page)) ∙ puts es leaf a)

  pub here_parts_filled : {P E : Type 0} (node : List ℕ → Node P E) (s : Scale P E) → IsOrder s → (x : E) (bytes left_page right_page : List ℕ) (page q : ℕ) (key : P) (last : Bool) (old new : List Drafted) (free left : List ℕ)
      → ((es : List E) → node bytes ≡ Leaf es → IsApart s x es → SplitsRows s (with_entry s x es) (node left_page) (node right_page) key)
      → ((es : List E) → node bytes ≡ Leaf es → IsApart s x es → (appends ≡ true → (last ≡ true) × ComesPast s x es) → FillsBoth least last (node left_page) (node right_page))
      → free ≡ left ++ q ∷ [] → PutsTwo old new page left_page q right_page → HereFilled appends least node s x bytes page last old new free (Some (record { key = key; page = q }))
  here_parts_filled node s o x bytes left_page right_page page q key last old new free left splits both pop a image es read leaf =
      leaf_parts_filled s o x (nodes node old image) (nodes node new image) page q es (node left_page) (node right_page) key free left last (ap node (sym read) ∙ leaf) (splits es leaf) (both es leaf)
      (taken_last free left q pop) (λ ne. ap node (two_first old new page q left_page right_page a ne image)) (ap node (two_last old new page q left_page right_page a image))

  and_true : (b : Bool) → (b && true) ≡ b
  and_true true = refl
  and_true false = refl

  and_false : (b : Bool) → (b && false) ≡ false
  and_false true = refl
  and_false false = refl

  at_last : (place n m : ℕ) → n ≡ place → m ≡ n + 1 → (suc place == m) ≡ true
  at_last place n m h i = grind (arith, h, i)

  not_last : (place n m k : ℕ) → n ≡ place → m ≡ n + suc (suc k) → (suc place == m) ≡ false
  not_last place n m k h i = grind (arith, h, i)

  ends_are : {P : Type 0} (last at_end : Bool) (place : ℕ) (front : List (Child P)) (t : Child P) (back : List (Child P)) → length front ≡ place → at_end ≡ (suc place == length (front ++ t ∷ back)) → (last && at_end) ≡ ends (numbers back) last
  ends_are last at_end place front t [] at is = ap (λ b. last && b) (is ∙ at_last place (length front) (length (front ++ t ∷ [])) at (length-append front (t ∷ []))) ∙ and_true last
  ends_are last at_end place front t (b ∷ bs) at is = ap (λ b. last && b) (is ∙ not_last place (length front) (length (front ++ t ∷ b ∷ bs)) (length bs) at (length-append front (t ∷ b ∷ bs))) ∙ and_false last

  -- the child's part, as its place among the page's children says
  pub at_place : {P E : Type 0} (s : Scale P E) (x : E) (before middle : ℕ → Node P E) (node : Node P E) (lower place child : ℕ) (last at_end : Bool) (more : List (Child P)) (free : List ℕ) (leads : LeadsDown s x node place child)
      → ((cs : List (Child P)) → node ≡ Inner cs → at_end ≡ (suc place == length cs)) → StaysFilled appends least s x before middle (suc lower) child (last && at_end) more free
      → StaysFilled appends least s x before middle (suc lower) child (ends (numbers leads.back) last) more free
  at_place s x before middle node lower place child last at_end more free leads is fills =
      subst (λ l. StaysFilled appends least s x before middle (suc lower) child l more free) (ends_are last at_end place leads.front leads.child leads.back leads.at (is (leads.front ++ leads.child ∷ leads.back) leads.is)) fills

  pub child_kept_filled : {P E : Type 0} (node : List ℕ → Node P E) (s : Scale P E) → IsOrder s → (bytes put : List ℕ) (page place : ℕ) (last : Bool) (sibling : Sibling P) (old new : List Drafted) (between : List ℕ)
      → ((all : List (Child P)) → AtPlace (node bytes) place (as_child sibling) all → KeysRise s all → HasChildren (node put) all)
      → PutsOne old new page put → ChildFilled {E = E} appends least node s bytes page place last (Some sibling) old new between None
  child_kept_filled node s o bytes put page place last sibling old new between puts is image x before lower child free at_end was leads ends grew fills =
      let all = leads.front ++ leads.child ∷ as_child sibling ∷ leads.back in
      let route = subst (λ n. Route s x n child leads.front leads.child leads.back) (sym was) (route_of s x (node bytes) place child leads) in
      inner_filled s o x before (nodes node old image) (nodes node new image) lower page child (as_child sibling ∷ []) free between leads.front leads.child leads.back last route grew
      (at_place s x before (nodes node old image) (node bytes) lower place child last at_end (as_child sibling ∷ []) free leads ends fills)
      (λ key low high r. subst (λ n. HasChildren n all) (sym (ap node (is image page ∙ itself page put (shown old image page)))) (puts all (place_of s x (node bytes) place child leads (as_child sibling))
      (level_keys s o x before (nodes node old image) lower page child (as_child sibling ∷ []) free between key leads.front leads.child leads.back low high route grew r)))
      (λ n ne. ap node (is image n ∙ another n page put (shown old image n) ne))

  pub child_parts_filled : {P E : Type 0} (node : List ℕ → Node P E) (s : Scale P E) → IsOrder s → (bytes left_page right_page : List ℕ) (page place q : ℕ) (key : P) (last : Bool) (sibling : Sibling P) (old new : List Drafted) (between left : List ℕ)
      → ((all : List (Child P)) → AtPlace (node bytes) place (as_child sibling) all → KeysRise s all → SplitsChildren all (node left_page) (node right_page) key)
      → ((all : List (Child P)) → AtPlace (node bytes) place (as_child sibling) all → KeysRise s all → (appends ≡ true → (last ≡ true) × (length all ≡ place + 2)) → FillsBoth least last (node left_page) (node right_page))
      → between ≡ left ++ q ∷ [] → PutsTwo old new page left_page q right_page
      → ChildFilled {E = E} appends least node s bytes page place last (Some sibling) old new between (Some (record { key = key; page = q }))
  child_parts_filled node s o bytes left_page right_page page place q key last sibling old new between left splits both pop a image x before lower child free at_end was leads ends grew fills =
      let all = leads.front ++ leads.child ∷ as_child sibling ∷ leads.back in
      let where_to = place_of s x (node bytes) place child leads (as_child sibling) in
      inner_parts_filled s o x before (nodes node old image) (nodes node new image) lower page child q (as_child sibling ∷ []) free between left leads.front leads.child leads.back (node left_page) (node right_page) key last
      (subst (λ n. Route s x n child leads.front leads.child leads.back) (sym was) (route_of s x (node bytes) place child leads)) grew
      (at_place s x before (nodes node old image) (node bytes) lower place child last at_end (as_child sibling ∷ []) free leads ends fills)
      (taken_last between left q pop) (splits all where_to)
      (λ keys past. both all where_to keys (λ e. let q = past e in (q.0, all_length leads.front leads.child (as_child sibling) leads.back place q.1 leads.at)))
      (λ ne. ap node (two_first old new page q left_page right_page a ne image))
      (ap node (two_last old new page q left_page right_page a image))
      (λ n ne nq. ap node (two_others old new page q left_page right_page a image n ne nq))

  -- a page whose child stands alone
  same_children : {P E : Type 0} (s : Scale P E) (x : E) (before after : ℕ → Node P E) (lower page child : ℕ) (free left : List ℕ) (front : List (Child P)) (t : Child P) (back : List (Child P)) (key low : P) (high : Option P)
      → (route : Route s x (before page) child front t back) → Grew s x before after (suc lower) child [] free left
      → Ready s x key low (walk s before (suc (suc lower)) (record { key = key; page = page })) high free → HasChildren (after page) (front ++ t ∷ back)
  same_children {P} s x before after lower page child free left front t back key low high route grew r =
      let c : Child P = record { key = key; page = page } in
      let at = at_level s x before after after lower page child [] free left left key front t back route grew (λ n ne e. refl) (λ n. omega arith) in
      let e = one_more page (times page (walk s before (suc lower) (own key front t))) _ _ (count_in page free) _ (times_inner s before lower c front t back page route.is) (r.once page) in
      let j = grew.takes page in
      record { children = front ++ t ∷ back; is = at.kept page e.0 (let f = e.1 in omega (arith, f, j)) ∙ route.is; some = cons_in front; same = λ k. refl }
    where
      cons_in : (a : List (Child P)) → IsCons (a ++ t ∷ back)
      cons_in [] = tt
      cons_in (d ∷ a) = tt

  pub grown_none_filled : {P E : Type 0} (node : List ℕ → Node P E) (s : Scale P E) → IsOrder s → (bytes : List ℕ) (page place : ℕ) (last : Bool) (more : Option (Sibling P)) (old : List Drafted) (between : List ℕ) → more ≡ None
      → ChildFilled {E = E} appends least node s bytes page place last more old old between None
  grown_none_filled {P} {E} node s o bytes page place last more old between none image x before lower child free at_end was leads ends grew fills =
      let route = subst (λ n. Route s x n child leads.front leads.child leads.back) (sym was) (route_of s x (node bytes) place child leads) in
      let after = nodes node old image in
      let g = subst (λ (m : Option (Sibling P)). Grew s x before after (suc lower) child (children_of m) free between) none grew in
      inner_filled s o x before after after lower page child [] free between leads.front leads.child leads.back last route g
      (at_place s x before after (node bytes) lower place child last at_end [] free leads ends (subst (λ (m : Option (Sibling P)). StaysFilled appends least s x before after (suc lower) child (last && at_end) (children_of m) free) none fills))
      (λ key low high r. same_children s x before after lower page child free between leads.front leads.child leads.back key low high route g r)
      (λ n ne. refl)

  pub grown_some_filled : {P E : Type 0} (node : List ℕ → Node P E) (s : Scale P E) (bytes : List ℕ) (page place : ℕ) (last : Bool) (more : Option (Sibling P)) (new : Sibling P) (old later : List Drafted) (between : List ℕ) (out : Option (Sibling P)) → more ≡ Some new
      → ChildFilled {E = E} appends least node s bytes page place last (Some new) old later between out → ChildFilled {E = E} appends least node s bytes page place last more old later between out
  grown_some_filled {P} {E} node s bytes page place last more new old later between out some filled =
      subst (λ (m : Option (Sibling P)). ChildFilled {E = E} appends least node s bytes page place last m old later between out) (sym some) filled

  -- a page whose child grew, as the call finds both
  pub grown_filled : {P E : Type 0} (node : List ℕ → Node P E) (s : Scale P E) (x : E) (old mid new : List Drafted) (image later : Image) (page place child levels : ℕ) (last at_end : Bool) (bytes : List ℕ) (more : Option (Sibling P)) (free between left : List ℕ) (r : Result (Grown P) TreeError)
      → later ≡ image → bytes ≡ shown old image page → LeadsDown s x (node bytes) place child → ((cs : List (Child P)) → node bytes ≡ Inner cs → at_end ≡ (suc place == length cs))
      → Grew s x (nodes node old later) (nodes node mid later) levels child (children_of more) free between
      → StaysFilled appends least s x (nodes node old later) (nodes node mid later) levels child (last && at_end) (children_of more) free
      → IfOk r (λ g. g.levels ≡ levels + 1) → IfOk r (λ g. ChildFilled {E = E} appends least node s bytes page place last more mid new between g.sibling)
      → IfOk r (λ g. StaysFilled appends least s x (nodes node old image) (nodes node new image) g.levels page last (children_of g.sibling) free)
  grown_filled node s x old mid new image later page place child levels last at_end bytes more free between left (Err e) same read leads ends grew fills count filled = count
  grown_filled node s x old mid new image later page place child levels last at_end bytes more free between left (Ok g) same read leads ends grew fills count filled =
      let at = ends_suc (nodes node old later) levels child grew.ends in
      let there = subst (λ (i : Image). Grew s x (nodes node old i) (nodes node mid i) (suc at.0) child (children_of more) free between) same
      (subst (λ l. Grew s x (nodes node old later) (nodes node mid later) l child (children_of more) free between) at.1 grew) in
      let stays = subst (λ (i : Image). StaysFilled appends least s x (nodes node old i) (nodes node mid i) (suc at.0) child (last && at_end) (children_of more) free) same
      (subst (λ l. StaysFilled appends least s x (nodes node old later) (nodes node mid later) l child (last && at_end) (children_of more) free) at.1 fills) in
      subst (λ l. StaysFilled appends least s x (nodes node old image) (nodes node new image) l page last (children_of g.sibling) free) (let i = at.1 in omega (arith, count, i))
      (filled image x (nodes node old image) at.0 child free at_end (ap node (sym read)) leads ends there stays)
