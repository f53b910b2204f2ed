-- An inner page that is cut at a block of the file, and a page with what stands below it.
use Rattle.std.proofs.Common.{◌≡◌, ◌≢◌, ◌≤◌, ◌<◌, refl, sym, ap, ◌∙◌, subst, ℕ, zero, suc, ◌+◌, ◌==◌, Bool, true, false, if◌then◌else◌, List, [], ◌∷◌, ◌++◌, map, Option, Some, arith}
use Rattle.std.specs.List.{flat_map}
use Rattle.std.proofs.lemmas.Bool.{leb-true}
use Rattle.std.proofs.lemmas.List.Concat.{flat_map-append}
use Rattle.jfs_bits.specs.declared.extent.Xad.{Xad}
use Rattle.jfs_bits.specs.declared.descriptor.Pxd.{Pxd}
use Rattle.jfs_tree.specs.Walk.{Child, Node, Inner, Page, Key, Row, Fault, Marks, Rises, rows_of, times, placed, under, body, walk}
use Rattle.jfs_tree.specs.Edit.{count_in, own, bound, Tail, IsCons}
use Rattle.jfs_tree.specs.Shrink.{kept_of}
use Rattle.jfs_tree.proofs.Rising.{rises_higher, rises_join, rises_cut}
use Rattle.jfs_tree.specs.Levels.{InLine, IsFilledTo, pages_below}
use Rattle.jfs_tree.proofs.Filling.{numbers, numbers-append, numbers_under, line_parts, line_both, children_stay, below_stays, page_filled}
use Rattle.jfs_tree.proofs.Frame.{Agree, times-append, rows-append, frame, same_body}
use Rattle.jfs_tree.proofs.Between.{append_nil, rows_three, times_three, cut_at_key}
use Rattle.jfs_tree.proofs.Keys.{child_from}
use Rattle.jfs_tree.proofs.Steps.{under_parts, placed_inner, untouched, starts_or_none}
use Rattle.jfs_tree.proofs.Growing.{own_page}
use Rattle.jfs_tree.proofs.Once.{each_once}
use Rattle.jfs_tree.proofs.Taking.{taken_last}
use Rattle.jfs_xtree.specs.Laws.{order}
use Rattle.jfs_xtpage.specs.declared.head.XtForm.TheVariants.{Full}
use Rattle.jfs_xtree.specs.Node.{xt_scale, xt_node, child_of}
use Rattle.jfs_xtree.specs.Cutting.{kept_below, gone_past}
use Rattle.jfs_xtree.specs.Spells.{page_nodes}
use Rattle.jfs_xtree.specs.CutParts.{CutPart, CutsNode, CutsPage, FillsNode, FillsPage, FreesUnder, AllFrom, shows, runs_of}
use Rattle.jfs_xtree.proofs.CutRows.{kept_none, gone_all, kept_append, gone_append}
use Rattle.jfs_xtree.proofs.CutWalks.{span, rows_before, rows_from}

-- ---- what an inner page shows

shown_parts : (nodes : ℕ → Node ℕ Xad) (lower : ℕ) (c : Child ℕ) (front : List (Child ℕ)) (t : Child ℕ) (back : List (Child ℕ))
    → shows nodes (suc lower) c (Inner (front ++ t ∷ back)) ≡ flat_map (walk xt_scale nodes (suc lower)) (under c.key front) ++ (walk xt_scale nodes (suc lower) (own c.key front t) ++ flat_map (walk xt_scale nodes (suc lower)) back)
shown_parts nodes lower c front t back =
    ap (body (walk xt_scale nodes (suc lower)) c) (placed_inner xt_scale lower c.key front t back)
    ∙ ap (flat_map (walk xt_scale nodes (suc lower))) (under_parts c.key front t back)
    ∙ flat_map-append (walk xt_scale nodes (suc lower)) (under c.key front) (own c.key front t ∷ back)

shown_left : (nodes : ℕ → Node ℕ Xad) (lower : ℕ) (c : Child ℕ) (front : List (Child ℕ)) (t : Child ℕ) (k : Bool) → (k ≡ false → IsCons front)
    → shows nodes (suc lower) c (Inner (front ++ kept_of k t)) ≡ flat_map (walk xt_scale nodes (suc lower)) (under c.key front) ++ flat_map (walk xt_scale nodes (suc lower)) (kept_of k (own c.key front t))
shown_left nodes lower c front t true some = shown_parts nodes lower c front t []
shown_left nodes lower c [] t false some = absurd (some refl)
shown_left nodes lower c (f ∷ fs) t false some =
    ap (λ cs. shows nodes (suc lower) c (Inner cs)) (append_nil (f ∷ fs)) ∙ sym (append_nil (flat_map (walk xt_scale nodes (suc lower)) (under c.key (f ∷ fs))))

-- the key of the child that isn't the first one
abbrev pub IsAbove : ℕ → List (Child ℕ) → Child ℕ → Type 0
IsAbove limit [] t = Unit {0}
IsAbove limit (f ∷ fs) t = t.key ≤ limit

-- the first child behind begins at or past the bound
abbrev pub FirstFrom : ℕ → List (Child ℕ) → Type 0
FirstFrom limit [] = Unit {0}
FirstFrom limit (c ∷ cs) = limit ≤ c.key

front_stays : (limit : ℕ) (nodes : ℕ → Node ℕ Xad) (levels : ℕ) (key mid : ℕ) (front : List (Child ℕ)) (t : Child ℕ) (rest : Marks ℕ Xad) (high : Option ℕ)
    → Rises xt_scale key (flat_map (walk xt_scale nodes levels) (under key front)) (Some mid) → Rises xt_scale mid (walk xt_scale nodes levels (own key front t) ++ rest) high → IsAbove limit front t
    → (kept_below limit (rows_of (flat_map (walk xt_scale nodes levels) (under key front))) ≡ rows_of (flat_map (walk xt_scale nodes levels) (under key front))) × (gone_past limit (rows_of (flat_map (walk xt_scale nodes levels) (under key front))) ≡ [])
front_stays limit nodes levels key mid [] t rest high r s above = (refl, refl)
front_stays limit nodes levels key mid (f ∷ fs) t rest high r s above =
    let h = leb-true mid t.key (child_from xt_scale nodes levels t mid high rest s) in
    rows_before limit key (flat_map (walk xt_scale nodes levels) (under key (f ∷ fs))) mid r (omega (arith, h, above))

pub back_goes : (limit : ℕ) (nodes : ℕ → Node ℕ Xad) (lower low : ℕ) (back : List (Child ℕ)) (high : Option ℕ) → Rises xt_scale low (flat_map (walk xt_scale nodes (suc lower)) back) high → FirstFrom limit back → AllFrom limit (rows_of (flat_map (walk xt_scale nodes (suc lower)) back))
unfolding walk
back_goes limit nodes lower low [] high r first = tt
back_goes limit nodes lower low (b ∷ bs) high r first = rows_from limit b.key (body (walk xt_scale nodes lower) b (placed xt_scale lower b.key (nodes b.page)) ++ flat_map (walk xt_scale nodes (suc lower)) bs) high r.1 first

to_high : (mid : ℕ) (ms rest : Marks ℕ Xad) (high : Option ℕ) → Tail xt_scale rest high → Rises xt_scale mid ms (bound rest high) → Rises xt_scale mid ms high
to_high mid ms [] high t r = r
to_high mid ms (Key n k ∷ rest) high t r = rises_higher xt_scale order mid ms k high (span k rest high t) r
to_high mid ms (Page n ∷ rest) high t r = absurd t
to_high mid ms (Row n e ∷ rest) high t r = absurd t
to_high mid ms (Fault n f ∷ rest) high t r = absurd t

-- the pages before the one that was cut are as filled as before
front_filled : (before after : ℕ → Node ℕ Xad) (levels key mid : ℕ) (front : List (Child ℕ)) (t : Child ℕ) (back : List (Child ℕ)) (k : Bool) → Rises xt_scale key (flat_map (walk xt_scale before levels) (under key front)) (Some mid)
    → Agree before after (flat_map (walk xt_scale before levels) (under key front)) → (k ≡ true → (least depth : ℕ) → IsFilledTo least before depth true t.page → IsFilledTo least after depth true t.page)
    → (least depth : ℕ) → InLine (IsFilledTo least before depth) true (numbers (front ++ t ∷ back)) → InLine (IsFilledTo least after depth) true (numbers (front ++ kept_of k t))
front_filled before after levels key mid front t back k rises agree child least depth line =
    let l = line_parts least before depth (numbers front) t.page (numbers back) (subst (InLine (IsFilledTo least before depth) true) (numbers-append front (t ∷ back)) line) in
    let stays = subst (InLine (IsFilledTo least after depth) false) (numbers_under key front)
    (children_stay least xt_scale order before after levels depth (under key front) key (Some mid) false rises agree (subst (InLine (IsFilledTo least before depth) false) (sym (numbers_under key front)) l.0)) in
    by k stays (λ e. child e least depth l.1)
  where
    by : (j : Bool) → InLine (IsFilledTo least after depth) false (numbers front) → (j ≡ true → IsFilledTo least after depth true t.page) → InLine (IsFilledTo least after depth) true (numbers (front ++ kept_of j t))
    by true stays here = subst (InLine (IsFilledTo least after depth) true) (sym (numbers-append front (t ∷ []))) (line_both least after depth true (numbers front) (t.page ∷ []) stays (here refl))
    by false stays here = subst (InLine (IsFilledTo least after depth) true) (sym (numbers-append front [])) (line_both least after depth true (numbers front) [] stays tt)

-- a page whose child `t` was cut, and whose children behind it were freed
parts_cut : (blocks limit : ℕ) (before after : ℕ → List ℕ) (lower : ℕ) (c : Child ℕ) (front : List (Child ℕ)) (t : Child ℕ) (back : List Xad) (k : Bool) (one freed : List ℕ) (first runs : List Pxd) (high : Option ℕ)
    → CutsPage blocks limit before after t.page k one first → FreesUnder (page_nodes blocks before) back one freed first runs → IsAbove limit front t → FirstFrom limit (map child_of back)
    → Rises xt_scale c.key (shows (page_nodes blocks before) (suc lower) c (Inner (front ++ t ∷ map child_of back))) high → ((n : ℕ) → times n (shows (page_nodes blocks before) (suc lower) c (Inner (front ++ t ∷ map child_of back))) ≤ 1)
    → CutPart limit before after c.key (shows (page_nodes blocks before) (suc lower) c (Inner (front ++ t ∷ map child_of back)))
    (flat_map (walk xt_scale (page_nodes blocks after) (suc lower)) (under c.key front) ++ flat_map (walk xt_scale (page_nodes blocks after) (suc lower)) (kept_of k (own c.key front t))) high freed runs
    × FillsNode blocks before after (Inner (front ++ t ∷ map child_of back)) (Inner (front ++ kept_of k t))
parts_cut blocks limit before after lower c front t back k one freed first runs high cuts frees above past rises once =
    let u : Child ℕ = own c.key front t in
    let f = walk xt_scale (page_nodes blocks before) (suc lower) in
    let A = flat_map f (under c.key front) in
    let T = f u in
    let R = flat_map f (map child_of back) in
    let N = flat_map (walk xt_scale (page_nodes blocks after) (suc lower)) (kept_of k u) in
    let parts = shown_parts (page_nodes blocks before) lower c front t (map child_of back) in
    let r = subst (λ ms. Rises xt_scale c.key ms high) parts rises in
    let p = rises_cut xt_scale order c.key A (T ++ R) high r in
    let v = rises_cut xt_scale order p.0 T R high p.2 in
    let w = cut_at_key xt_scale order p.0 T R high (starts_or_none xt_scale (page_nodes blocks before) (suc lower) (map child_of back) v.0 high v.2) p.2 in
    let part = (subst (λ n. CutsPage blocks limit before after n k one first) (sym (own_page c.key front t)) cuts) (suc lower) u.key p.0 (bound R high) w.0 in
    let cut : CutPart limit before after p.0 T N (bound R high) one first = part.0 in
    let free = frees (suc lower) v.0 high v.2 in
    let stays = front_stays limit (page_nodes blocks before) (suc lower) c.key p.0 front t R high p.1 p.2 above in
    let goes = back_goes limit (page_nodes blocks before) lower v.0 (map child_of back) high v.2 past in
    let count = λ (n : ℕ). ap (times n) parts ∙ times_three n A T R in
    let agree : Agree (page_nodes blocks before) (page_nodes blocks after) A = λ n h. ap (xt_node Full blocks) (cut.keeps n (let a = cut.pages n in let b = once n in let d = count n in omega (arith, a, b, d, h))) in
    let same : flat_map (walk xt_scale (page_nodes blocks after) (suc lower)) (under c.key front) ≡ A = untouched xt_scale (page_nodes blocks before) (page_nodes blocks after) (suc lower) (under c.key front) agree in
    let listed = ap rows_of parts ∙ rows_three A T R in
    let split = ap (kept_below limit) listed ∙ kept_append limit (rows_of A) (rows_of T ++ rows_of R) ∙ ap (λ xs. kept_below limit (rows_of A) ++ xs) (kept_append limit (rows_of T) (rows_of R)) in
    let lost = ap (gone_past limit) listed ∙ gone_append limit (rows_of A) (rows_of T ++ rows_of R) ∙ ap (λ xs. gone_past limit (rows_of A) ++ xs) (gone_append limit (rows_of T) (rows_of R)) in (
      subst (λ ms. CutPart limit before after c.key (shows (page_nodes blocks before) (suc lower) c (Inner (front ++ t ∷ map child_of back))) (ms ++ N) high freed runs) (sym same)
          (record {
            rows = rows-append A N ∙ ap (λ xs. rows_of A ++ xs) cut.rows
                ∙ sym (split ∙ ap (λ xs. xs ++ (kept_below limit (rows_of T) ++ kept_below limit (rows_of R))) stays.0 ∙ ap (λ xs. rows_of A ++ (kept_below limit (rows_of T) ++ xs)) (kept_none limit (rows_of R) goes) ∙ ap (λ xs. rows_of A ++ xs) (append_nil (kept_below limit (rows_of T))));
            gone = free.1 ∙ ap (λ ps. ps ++ runs_of (rows_of R)) cut.gone
                ∙ sym (lost ∙ ap (λ ps. ps ++ (gone_past limit (rows_of T) ++ gone_past limit (rows_of R))) stays.1 ∙ ap (λ ps. gone_past limit (rows_of T) ++ ps) (gone_all limit (rows_of R) goes));
            rises = rises_join xt_scale order c.key p.0 A N high p.1 (to_high p.0 N R high w.1 cut.rises);
            pages = λ n. (let a = times-append n A N in let b = cut.pages n in let d = free.0 n in let e = count n in omega (arith, a, b, d, e));
            keeps = λ n z. cut.keeps n (let a = times-append n A N in omega (arith, a, z));
          }),
      front_filled (page_nodes blocks before) (page_nodes blocks after) (suc lower) c.key p.0 front t (map child_of back) k p.1 agree
          (λ e. subst (FillsPage blocks before after) (own_page c.key front t) (part.1 e)),
    )

pub inner_cuts : (blocks limit : ℕ) (before after : ℕ → List ℕ) (front : List (Child ℕ)) (t : Child ℕ) (back : List Xad) (k kept : Bool) (new : Node ℕ Xad) (one freed : List ℕ) (first runs : List Pxd)
    → CutsPage blocks limit before after t.page k one first → FreesUnder (page_nodes blocks before) back one freed first runs → IsAbove limit front t → FirstFrom limit (map child_of back)
    → (kept ≡ true → (new ≡ Inner (front ++ kept_of k t)) × (k ≡ false → IsCons front)) → (kept ≡ false → (front ≡ []) × (k ≡ false))
    → CutsNode blocks limit before after (Inner (front ++ t ∷ map child_of back)) new kept freed runs
inner_cuts blocks limit before after front t back k kept new one freed first runs cuts frees above past some none zero c high r once = absurd r
inner_cuts blocks limit before after front t back k true new one freed first runs cuts frees above past some none (suc lower) c high r once =
    let s = some refl in
    let cut = parts_cut blocks limit before after lower c front t back k one freed first runs high cuts frees above past r once in (
      subst (λ ms. CutPart limit before after c.key (shows (page_nodes blocks before) (suc lower) c (Inner (front ++ t ∷ map child_of back))) ms high freed runs)
          (sym (ap (shows (page_nodes blocks after) (suc lower) c) s.0 ∙ shown_left (page_nodes blocks after) lower c front t k s.1)) cut.0,
      λ e least depth line. subst (λ (node : Node ℕ Xad). InLine (IsFilledTo least (page_nodes blocks after) depth) true (pages_below node)) (sym s.0) (cut.1 least depth line),
    )
inner_cuts blocks limit before after front t back k false new one freed first runs cuts frees above past some none (suc lower) c high r once =
    let n = none refl in (
      subst (λ ms. CutPart limit before after c.key (shows (page_nodes blocks before) (suc lower) c (Inner (front ++ t ∷ map child_of back))) ms high freed runs)
          (ap (λ j. flat_map (walk xt_scale (page_nodes blocks after) (suc lower)) (under c.key front) ++ flat_map (walk xt_scale (page_nodes blocks after) (suc lower)) (kept_of j (own c.key front t))) n.1
          ∙ ap (λ fs. flat_map (walk xt_scale (page_nodes blocks after) (suc lower)) (under c.key fs) ++ []) n.0)
          (parts_cut blocks limit before after lower c front t back k one freed first runs high cuts frees above past r once).0,
      λ e. absurd cc,
    )

-- ---- a page, kept or freed

other_page : (page n rest : ℕ) → (if page == n then 1 else 0) + rest ≡ 0 → (n ≢ page) × (rest ≡ 0)
other_page page n rest h = ((λ e. off page n rest h e), omega (arith, h))
  where
    off : (page n rest : ℕ) → (if page == n then 1 else 0) + rest ≡ 0 → n ≡ page → ⊥
    off page n rest h e = grind arith

pub differs : (n page a : ℕ) (f : ℕ → ℕ) → f page ≡ 0 → 0 < f n → n ≢ page
differs n page a f z p e = zero_not (f n) (f page) z p (ap f e)
  where
    zero_not : (a b : ℕ) → b ≡ 0 → 0 < a → a ≡ b → ⊥
    zero_not a b z p e = omega (arith, z, p, e)

pub here_zero : (page t s f : ℕ) → (if page == page then 1 else 0) + t ≤ 1 → s + f ≡ t → s ≡ 0
here_zero page t s f h e = grind arith

pub page_kept : (blocks limit : ℕ) (before middle after : ℕ → List ℕ) (page : ℕ) (new : Node ℕ Xad) (freed : List ℕ) (runs : List Pxd)
    → CutsNode blocks limit before middle (page_nodes blocks before page) new true freed runs → page_nodes blocks after page ≡ new → ((n : ℕ) → n ≢ page → after n ≡ middle n) → CutsPage blocks limit before after page true freed runs
unfolding walk
page_kept blocks limit before middle after page new freed runs cuts here others zero key low high r = absurd r
page_kept blocks limit before middle after page new freed runs cuts here others (suc below) key low high r =
    let c : Child ℕ = record { key = key; page = page } in
    let S = shows (page_nodes blocks before) below c (page_nodes blocks before page) in
    let M = shows (page_nodes blocks middle) below c new in
    let once = each_once xt_scale order (page_nodes blocks before) (suc below) c low high r in
    let part = cuts below c high r.1 (λ n. let h = once n in omega (arith, h)) in
    let cut = part.0 in
    let none : times page M ≡ 0 = here_zero page (times page S) (times page M) (count_in page freed) (once page) (cut.pages page) in
    let agree : Agree (page_nodes blocks middle) (page_nodes blocks after) M = λ n p. ap (xt_node Full blocks) (others n (differs n page 0 (λ m. times m M) none p)) in
    let same : shows (page_nodes blocks after) below c new ≡ M =
    same_body (page_nodes blocks middle) (page_nodes blocks after) (walk xt_scale (page_nodes blocks middle) below) (walk xt_scale (page_nodes blocks after) below) c (placed xt_scale below key new) (frame xt_scale (page_nodes blocks middle) (page_nodes blocks after) below) agree in
    let walked : walk xt_scale (page_nodes blocks after) (suc below) c ++ [] ≡ Key page key ∷ Page page ∷ M =
    append_nil (walk xt_scale (page_nodes blocks after) (suc below) c) ∙ ap (λ node. Key page key ∷ Page page ∷ shows (page_nodes blocks after) below c node) here ∙ ap (λ ms. Key page key ∷ Page page ∷ ms) same in (
      subst (λ ms. CutPart limit before after low (Key page key ∷ Page page ∷ S) ms high freed runs) (sym walked)
          (record {
            rows = cut.rows;
            gone = cut.gone;
            rises = (r.0, cut.rises);
            pages = λ n. (let h = cut.pages n in omega (arith, h));
            keeps = λ n z. (let o = other_page page n (times n M) z in others n o.0 ∙ cut.keeps n o.1);
          }),
      λ e least. page_filled least (page_nodes blocks before) (page_nodes blocks after) page new
          (λ depth line. below_stays least xt_scale order (page_nodes blocks middle) (page_nodes blocks after) below depth c new key high true cut.rises agree (part.1 refl least depth line)) here,
    )

pub page_gone : (blocks limit : ℕ) (before middle after : ℕ → List ℕ) (page : ℕ) (new : Node ℕ Xad) (one freed : List ℕ) (runs : List Pxd)
    → CutsNode blocks limit before middle (page_nodes blocks before page) new false one runs → freed ≡ one ++ page ∷ [] → ((n : ℕ) → after n ≡ middle n) → CutsPage blocks limit before after page false freed runs
unfolding walk
page_gone blocks limit before middle after page new one freed runs cuts push same zero key low high r = absurd r
page_gone blocks limit before middle after page new one freed runs cuts push same (suc below) key low high r =
    let c : Child ℕ = record { key = key; page = page } in
    let S = shows (page_nodes blocks before) below c (page_nodes blocks before page) in
    let once = each_once xt_scale order (page_nodes blocks before) (suc below) c low high r in
    let cut = (cuts below c high r.1 (λ n. let h = once n in omega (arith, h))).0 in (
      record {
        rows = cut.rows;
        gone = cut.gone;
        rises = span low (Key page key ∷ Page page ∷ S) high r;
        pages = λ n. (let h = cut.pages n in let t = taken_last freed one page push n in omega (arith, h, t));
        keeps = λ n z. same n ∙ cut.keeps n refl;
      },
      λ e. absurd cc,
    )
