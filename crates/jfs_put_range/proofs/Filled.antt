-- Pages that stay filled where a range is written.
use Rattle.std.proofs.Common.{◌≡◌, ◌≤◌, ◌<◌, refl, sym, ap, ◌∙◌, subst, ℕ, zero, suc, Bool, true, false, List, [], ◌∷◌, ◌++◌, map, length, Option, arith}
use Rattle.jfs_bits.specs.declared.extent.Xad.{Xad}
use Rattle.jfs_tree.specs.Walk.{Child, Node, Leaf, Inner, Rises, times, under}
use Rattle.jfs_tree.specs.Levels.{InLine, IsFilledTo, entry_count, pages_below}
use Rattle.jfs_tree.specs.Edit.{IsCons}
use Rattle.jfs_tree.specs.Form.{HasChildren}
use Rattle.jfs_tree.proofs.Filling.{line_front, line_both, numbers, numbers-append, numbers_under, children_stay}
use Rattle.jfs_xtpage.specs.declared.head.XtForm.TheVariants.{Full}
use Rattle.jfs_xtree.specs.Laws.{order}
use Rattle.jfs_xtree.specs.Node.{xt_scale, xt_node, child_of}
use Rattle.jfs_xtree.specs.Spells.{page_nodes}
use Rattle.jfs_xtree.specs.CutParts.{pages_of_entries}
use Rattle.jfs_put_range.specs.Parts.{KeepsFilled, parts_under}

pub pages_are : (xs : List Xad) → numbers (map child_of xs) ≡ pages_of_entries xs
pages_are [] = refl
pages_are (x ∷ xs) = ap (λ ns. x.at.addr ∷ ns) (pages_are xs)

pages_both : (a b : List Xad) → pages_of_entries (a ++ b) ≡ pages_of_entries a ++ pages_of_entries b
pages_both [] b = refl
pages_both (x ∷ a) b = ap (λ ns. x.at.addr ∷ ns) (pages_both a b)

count_are : (xs : List Xad) → length (map child_of xs) ≡ length xs
count_are [] = refl
count_are (x ∷ xs) = ap suc (count_are xs)

-- ---- pages that no call changes

entries_stay : (least blocks : ℕ) (old new : ℕ → List ℕ) (levels depth key : ℕ) (xs : List Xad) (low : ℕ) (high : Option ℕ) (last : Bool) → Rises xt_scale low (parts_under blocks old levels key xs) high
    → ((n : ℕ) → 0 < times n (parts_under blocks old levels key xs) → new n ≡ old n)
    → InLine (IsFilledTo least (page_nodes blocks old) depth) last (pages_of_entries xs) → InLine (IsFilledTo least (page_nodes blocks new) depth) last (pages_of_entries xs)
entries_stay least blocks old new levels depth key xs low high last r agree line =
    let cs = under key (map child_of xs) in
    let is : numbers cs ≡ pages_of_entries xs = numbers_under key (map child_of xs) ∙ pages_are xs in
    subst (InLine (IsFilledTo least (page_nodes blocks new) depth) last) is
    (children_stay least xt_scale order (page_nodes blocks old) (page_nodes blocks new) levels depth cs low high last r (λ n some. ap (xt_node Full blocks) (agree n some)) (subst (InLine (IsFilledTo least (page_nodes blocks old) depth) last) (sym is) line))

-- ---- two parts, one beside the other

pub both_keep : (end : Bool) (blocks : ℕ) (before middle after : ℕ → List ℕ) (height key bound low : ℕ) (e r : Xad) (rs hs ts : List Xad) (mid high : Option ℕ) → Rises xt_scale bound (parts_under blocks before height bound (r ∷ rs)) high
    → ((n : ℕ) → 0 < times n (parts_under blocks before height bound (r ∷ rs)) → middle n ≡ before n) → Rises xt_scale low (parts_under blocks middle height key hs) mid
    → ((n : ℕ) → 0 < times n (parts_under blocks middle height key hs) → after n ≡ middle n)
    → KeepsFilled false blocks before middle (pages_of_entries (e ∷ [])) (pages_of_entries hs) → KeepsFilled end blocks middle after (pages_of_entries (r ∷ rs)) (pages_of_entries ts)
    → KeepsFilled end blocks before after (pages_of_entries (e ∷ r ∷ rs)) (pages_of_entries (hs ++ ts))
both_keep end blocks before middle after height key bound low e r rs hs ts mid high rb keeps rh later h t least most depth last ends line =
    subst (InLine (IsFilledTo least (page_nodes blocks after) depth) last) (sym (pages_both hs ts))
    (line_both least (page_nodes blocks after) depth last (pages_of_entries hs) (pages_of_entries ts)
    (entries_stay least blocks middle after height depth key hs low mid false rh later (h least most depth false (λ e. absurd cc) line.0))
    (t least most depth last ends (entries_stay least blocks before middle height depth bound (r ∷ rs) bound high last rb keeps line.1)))

-- ---- leaves

-- where a page isn't the last of its level, it isn't to be full
pub not_full : (end full : Bool) → (full ≡ true → end ≡ true) → end ≡ false → full ≡ false
not_full end true ends e = absurd (let h = ends refl in cc)
not_full end false ends e = refl

leaf_filled : (least : ℕ) (nodes : ℕ → Node ℕ Xad) (depth n : ℕ) (last : Bool) (es : List Xad) → nodes n ≡ Leaf es → (last ≡ false → least ≤ length es) → IsFilledTo least nodes depth last n
unfolding IsFilledTo
leaf_filled least nodes zero n last es is enough = tt
leaf_filled least nodes (suc depth) n last es is enough = (
  (λ e. subst (λ (b : Node ℕ Xad). least ≤ entry_count b) (sym is) (enough e)),
  subst (λ (b : Node ℕ Xad). InLine (IsFilledTo least nodes depth) last (pages_below b)) (sym is) tt,
)

pub leaf_keeps : (end : Bool) (blocks : ℕ) (before after : ℕ → List ℕ) (n : ℕ) (es list : List Xad) → page_nodes blocks before n ≡ Leaf es → page_nodes blocks after n ≡ Leaf list → length es ≤ length list → KeepsFilled end blocks before after (n ∷ []) (n ∷ [])
unfolding IsFilledTo
leaf_keeps end blocks before after n es list was is more least most zero last ends filled = tt
leaf_keeps end blocks before after n es list was is more least most (suc depth) last ends filled =
    leaf_filled least (page_nodes blocks after) (suc depth) n last list is (λ e. (let h = filled.0 e in let c = ap (λ (b : Node ℕ Xad). entry_count b) was in omega (arith, h, c, more)))

-- the last page of a level may have fewer entries
may_thin : (end last : Bool) (few : Type 0) → (end ≡ true → last ≡ true) → (end ≡ false → few) → last ≡ false → few
may_thin true last few ends some e = absurd (let h = ends refl in cc)
may_thin false last few ends some e = some refl

pub leaf_fills : (end : Bool) (blocks : ℕ) (before after : ℕ → List ℕ) (n q : ℕ) (front back : List Xad) → page_nodes blocks after n ≡ Leaf front → page_nodes blocks after q ≡ Leaf back → 127 ≤ length front → (end ≡ false → 127 ≤ length back) → KeepsFilled end blocks before after (n ∷ []) (n ∷ q ∷ [])
leaf_fills end blocks before after n q front back first second f b least most depth last ends filled = (
  leaf_filled least (page_nodes blocks after) depth n false front first (λ e. omega (arith, most, f)),
  leaf_filled least (page_nodes blocks after) depth q last back second (may_thin end last (least ≤ length back) ends (λ e. (let h = b e in omega (arith, most, h)))),
)

-- ---- inner pages

has_filled : (least : ℕ) (nodes : ℕ → Node ℕ Xad) (depth n : ℕ) (last : Bool) (cs : List (Child ℕ)) → HasChildren (nodes n) cs → (last ≡ false → least ≤ entry_count (nodes n)) → InLine (IsFilledTo least nodes depth) last (numbers cs) → IsFilledTo least nodes (suc depth) last n
unfolding IsFilledTo
has_filled least nodes depth n last cs has enough line = (
  enough,
  subst (InLine (IsFilledTo least nodes depth) last)
      (sym (ap (λ (b : Node ℕ Xad). pages_below b) has.is ∙ sym (numbers_under 0 has.children) ∙ ap numbers (has.same 0) ∙ numbers_under 0 cs)) line,
)

-- the line below an inner page, once its children are written and the page is put
line_below : (least : ℕ) → least ≤ 127 → (end : Bool) (blocks : ℕ) (before middle after : ℕ → List ℕ) (n lower depth key : ℕ) (high : Option ℕ) (es made : List Xad) (last : Bool) → page_nodes blocks before n ≡ Inner (map child_of es) → Rises xt_scale key (parts_under blocks middle (suc lower) key made) high
    → ((m : ℕ) → 0 < times m (parts_under blocks middle (suc lower) key made) → after m ≡ middle m) → KeepsFilled end blocks before middle (pages_of_entries es) (pages_of_entries made)
    → (end ≡ true → last ≡ true) → InLine (IsFilledTo least (page_nodes blocks before) depth) last (pages_below (page_nodes blocks before n)) → InLine (IsFilledTo least (page_nodes blocks after) depth) last (numbers (map child_of made))
line_below least most end blocks before middle after n lower depth key high es made last was r agree keeps ends line =
    subst (InLine (IsFilledTo least (page_nodes blocks after) depth) last) (sym (pages_are made))
    (entries_stay least blocks middle after (suc lower) depth key made key high last r agree
    (keeps least most depth last ends (subst (InLine (IsFilledTo least (page_nodes blocks before) depth) last) (ap (λ (b : Node ℕ Xad). pages_below b) was ∙ pages_are es) line)))

pub inner_keeps : (end : Bool) (blocks : ℕ) (before middle after : ℕ → List ℕ) (n lower key : ℕ) (high : Option ℕ) (es made : List Xad) → page_nodes blocks before n ≡ Inner (map child_of es) → Rises xt_scale key (parts_under blocks middle (suc lower) key made) high
    → ((m : ℕ) → 0 < times m (parts_under blocks middle (suc lower) key made) → after m ≡ middle m) → KeepsFilled end blocks before middle (pages_of_entries es) (pages_of_entries made)
    → length es ≤ length made → 0 < length made → page_nodes blocks after n ≡ Inner (map child_of made) → KeepsFilled end blocks before after (n ∷ []) (n ∷ [])
unfolding IsFilledTo
inner_keeps end blocks before middle after n lower key high es made was r agree keeps more some is least most zero last ends filled = tt
inner_keeps end blocks before middle after n lower key high es made was r agree keeps more some is least most (suc depth) last ends filled =
    has_filled least (page_nodes blocks after) depth n last (map child_of made) (record { children = map child_of made; is = is; some = cons made some; same = λ k. refl })
    (λ e. (let h = filled.0 e in let c = ap (λ (b : Node ℕ Xad). entry_count b) was in let d = ap (λ (b : Node ℕ Xad). entry_count b) is in let i = count_are es in let j = count_are made in omega (arith, h, c, d, i, j, more)))
    (line_below least most end blocks before middle after n lower depth key high es made last was r agree keeps ends filled.1)
  where
    cons : (ys : List Xad) → 0 < length ys → IsCons (map child_of ys)
    cons [] l = absurd (omega (arith, l))
    cons (y ∷ ys) l = tt

pub inner_fills : (end : Bool) (blocks : ℕ) (before middle after : ℕ → List ℕ) (n q lower key : ℕ) (high : Option ℕ) (es made : List Xad) (front : List (Child ℕ)) (first : Child ℕ) (back : List (Child ℕ)) → page_nodes blocks before n ≡ Inner (map child_of es)
    → Rises xt_scale key (parts_under blocks middle (suc lower) key made) high → ((m : ℕ) → 0 < times m (parts_under blocks middle (suc lower) key made) → after m ≡ middle m) → KeepsFilled end blocks before middle (pages_of_entries es) (pages_of_entries made)
    → map child_of made ≡ front ++ first ∷ back → HasChildren (page_nodes blocks after n) front → HasChildren (page_nodes blocks after q) (first ∷ back) → 127 ≤ entry_count (page_nodes blocks after n) → (end ≡ false → 127 ≤ entry_count (page_nodes blocks after q))
    → KeepsFilled end blocks before after (n ∷ []) (n ∷ q ∷ [])
unfolding IsFilledTo
inner_fills end blocks before middle after n q lower key high es made front first back was r agree keeps all here there f b least most zero last ends filled = (tt, tt)
inner_fills end blocks before middle after n q lower key high es made front first back was r agree keeps all here there f b least most (suc depth) last ends filled =
    let line = subst (InLine (IsFilledTo least (page_nodes blocks after) depth) last) (ap numbers all ∙ numbers-append front (first ∷ back)) (line_below least most end blocks before middle after n lower depth key high es made last was r agree keeps ends filled.1) in
    let t = line_front (IsFilledTo least (page_nodes blocks after) depth) last (numbers front) first.page (numbers back) line in (
      has_filled least (page_nodes blocks after) depth n false front here (λ e. omega (arith, most, f)) t.0,
      has_filled least (page_nodes blocks after) depth q last (first ∷ back) there (may_thin end last (least ≤ entry_count (page_nodes blocks after q)) ends (λ e. (let h = b e in omega (arith, most, h)))) t.1,
    )
