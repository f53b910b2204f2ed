-- What two pages show that have the parts of a list.
use Rattle.std.proofs.Common.{◌≡◌, ◌≢◌, ◌≤◌, ◌<◌, refl, sym, ap, ◌∙◌, subst, ℕ, suc, ◌+◌, ◌==◌, if◌then◌else◌, Bool, List, [], ◌∷◌, ◌++◌, map, Option, Some, None, Result, Ok, Err, IfOk, arith}
use Rattle.std.specs.List.{flat_map}
use Rattle.std.proofs.lemmas.List.{map-append}
use Rattle.std.proofs.lemmas.List.Concat.{flat_map-append}
use Rattle.jfs_bits.specs.declared.extent.Xad.{Xad}
use Rattle.jfs_tree.specs.Walk.{Child, Node, Leaf, Page, Key, Row, Marks, Rises, rows_of, times, under, walk}
use Rattle.jfs_tree.specs.Edit.{FitsFirst, IsCons, count_in}
use Rattle.jfs_tree.specs.Form.{HasChildren}
use Rattle.jfs_tree.specs.Draft.{shown}
use Rattle.jfs_tree.specs.Call.{nodes}
use Rattle.jfs_tree.specs.declared.draft.Drafted.{Drafted}
use Rattle.jfs_tree.specs.declared.form.Sibling.{Sibling}
use Rattle.jfs_tree.specs.declared.form.TreeError.{TreeError}
use Rattle.jfs_tree.proofs.Between.{append_nil}
use Rattle.jfs_tree.proofs.Frame.{times-append, rows-append}
use Rattle.jfs_tree.proofs.Growing.{apart, has_walk, once_itself, rises_elsewhere}
use Rattle.jfs_tree.proofs.Leaves.{cons_rows, rows_leaf, times_leaf}
use Rattle.jfs_tree.proofs.Rising.{rises_join}
use Rattle.jfs_tree.proofs.Split.{children_part}
use Rattle.jfs_tree.proofs.Steps.{once_here, untouched}
use Rattle.jfs_tree.proofs.Taking.{another, itself, taken_last, two_first, two_last, two_others}
use Rattle.jfs_xtpage.specs.declared.head.XtForm.TheVariants.{Full}
use Rattle.jfs_xtree.specs.Laws.{order}
use Rattle.jfs_xtree.specs.Node.{xt_scale, xt_node, child_of}
use Rattle.jfs_refill.specs.Stored.{Stored}
use Rattle.jfs_refill.specs.Spread.{Spreads, leaf_shown, inner_shown, LeafSpreads, InnerSpreads}
use Rattle.jfs_refill.proofs.Dividing.{some_child}

-- a new page begins between two parts
spread : (low k key n q : ℕ) (a b c : Marks ℕ Xad) (high : Option ℕ) (free left : List ℕ) → Rises xt_scale low (Key n k ∷ Page n ∷ (a ++ b)) high
    → (Rises xt_scale k (a ++ b) high → Rises xt_scale k a (Some key) × Rises xt_scale key c high) → rows_of c ≡ rows_of b → ((i : ℕ) → times i c ≡ times i b)
    → ((i : ℕ) → count_in i free ≡ (if q == i then 1 else 0) + count_in i left)
    → Spreads low (Key n k ∷ Page n ∷ (a ++ b)) (Key n k ∷ Page n ∷ (a ++ (Key q key ∷ Page q ∷ c))) high free left
spread low k key n q a b c high free left r parts rows counts taken =
    let p = parts r.1 in
    record {
      rows = rows-append a (Key q key ∷ Page q ∷ c) ∙ ap (λ es. rows_of a ++ es) rows ∙ sym (rows-append a b);
      rises = (r.0, rises_join xt_scale order k key a (Key q key ∷ Page q ∷ c) high p.0 (order.refl_le key, p.1));
      pages = λ i. let e = times-append i a b in let f = times-append i a (Key q key ∷ Page q ∷ c) in let g = taken i in let h = counts i in omega (arith, e, f, g, h);
    }

-- nothing is taken
unspread : (low : ℕ) (whole : Marks ℕ Xad) (high : Option ℕ) (free left : List ℕ) → Rises xt_scale low whole high → left ≡ free → Spreads low whole whole high free left
unspread low whole high free left r same = record { rows = refl; rises = r; pages = λ n. ap (λ l. times n whole + count_in n l) same }

-- ---- leaves

abbrev rows_at : ℕ → List Xad → Marks ℕ Xad
rows_at n xs = map (Row n) xs

fits_front : (key : ℕ) (all a b : List Xad) → IsCons a → all ≡ a ++ b → FitsFirst xt_scale key all → FitsFirst xt_scale key a
fits_front key all [] b h e f = absurd h
fits_front key all (x ∷ a) b h e f = subst (FitsFirst xt_scale key) e f

two_leaves : (pages : ℕ → Node ℕ Xad) (c : Child ℕ) (q key : ℕ) (front back : List Xad) → FitsFirst xt_scale c.key front → FitsFirst xt_scale key back → pages c.page ≡ Leaf front → pages q ≡ Leaf back
    → flat_map (walk xt_scale pages 1) (c ∷ record { key = key; page = q } ∷ []) ≡ Key c.page c.key ∷ Page c.page ∷ (map (Row c.page) front ++ (Key q key ∷ Page q ∷ map (Row q) back))
two_leaves pages c q key front back h i is_c is_q =
    ap (λ ms. ms ++ (walk xt_scale pages 1 (record { key = key; page = q }) ++ [])) (cons_rows xt_scale pages c front h is_c)
    ∙ ap (λ ms. Key c.page c.key ∷ Page c.page ∷ (map (Row c.page) front ++ ms)) (append_nil (walk xt_scale pages 1 (record { key = key; page = q })) ∙ cons_rows xt_scale pages (record { key = key; page = q }) back i is_q)

pub leaf_spreads : (blocks : ℕ) (list : List Xad) (full : Bool) (bytes : List ℕ) (n : ℕ) (old new : List Drafted) (free left : List ℕ) (more : Option (Sibling ℕ)) → Stored list full bytes n old new free left more → LeafSpreads blocks list bytes n old new free left more
leaf_spreads blocks list full bytes n old new free left None st image es key low high node good fits rises apart_from =
    let r = st.2 in
    let pages = nodes (xt_node Full blocks) new image in
    let c : Child ℕ = record { key = key; page = n } in
    let is : pages n ≡ Leaf list = ap (xt_node Full blocks) (r.puts image n ∙ itself n r.page (shown old image n)) ∙ (r.reads blocks good).leaf es node in
    subst (λ ms. Spreads low (leaf_shown n key list) ms high free left) (sym (append_nil (walk xt_scale pages 1 c) ∙ cons_rows xt_scale pages c list fits is)) (unspread low (leaf_shown n key list) high free left rises st.1)
leaf_spreads blocks list full bytes n old new free left (Some s) st image es key low high node good fits rises apart_from =
    let p = st.2 in
    let r = ((p.divided.reads blocks good).leaf es node).0 in
    let pages = nodes (xt_node Full blocks) new image in
    let c : Child ℕ = record { key = key; page = n } in
    let taken = taken_last free left s.page st.1 in
    let ne = apart n s.page (count_in n free) (count_in n free) (count_in n left) apart_from (omega arith) (taken n) in
    let is_n : pages n ≡ Leaf r.front = ap (xt_node Full blocks) (two_first old new n s.page p.first p.second p.puts ne image) ∙ r.left_is in
    let is_q : pages s.page ≡ Leaf r.back = ap (xt_node Full blocks) (two_last old new n s.page p.first p.second p.puts image) ∙ r.right_is in
    let parts : rows_at n list ≡ rows_at n r.front ++ rows_at n r.back = ap (rows_at n) r.all ∙ map-append (Row n) r.front r.back in
    let whole : leaf_shown n key list ≡ Key n key ∷ Page n ∷ (map (Row n) r.front ++ map (Row n) r.back) = ap (λ (ms : Marks ℕ Xad). Key n key ∷ Page n ∷ ms) parts in
    subst (λ ms. Spreads low (leaf_shown n key list) ms high free left) (sym (two_leaves pages c s.page s.key r.front r.back (fits_front key list r.front r.back r.some r.all fits) r.parts.fits is_n is_q))
    (subst (λ ms. Spreads low ms (Key n key ∷ Page n ∷ (map (Row n) r.front ++ (Key s.page s.key ∷ Page s.page ∷ map (Row s.page) r.back))) high free left) (sym whole)
    (spread low key s.key n s.page (map (Row n) r.front) (map (Row n) r.back) (map (Row s.page) r.back) high free left (subst (λ ms. Rises xt_scale low ms high) whole rises)
    (λ up. let h = r.parts.rises n key high (subst (λ ms. Rises xt_scale key ms high) (sym (map-append (Row n) r.front r.back)) up) in (h.0, rises_elsewhere xt_scale n s.page s.key r.back high h.1))
    (rows_leaf ℕ s.page r.back ∙ sym (rows_leaf ℕ n r.back)) (λ i. times_leaf ℕ i s.page r.back ∙ sym (times_leaf ℕ i n r.back)) taken))

-- ---- inner pages

under_front : (key : ℕ) (a b : List (Child ℕ)) → IsCons a → under key (a ++ b) ≡ under key a ++ b
under_front key [] b h = absurd h
under_front key (x ∷ a) b h = refl

two_inners : (pages : ℕ → Node ℕ Xad) (lower : ℕ) (c : Child ℕ) (q : ℕ) (front : List (Child ℕ)) (r : Child ℕ) (back : List (Child ℕ)) → HasChildren (pages c.page) front → HasChildren (pages q) (r ∷ back)
    → flat_map (walk xt_scale pages (suc (suc lower))) (c ∷ record { key = r.key; page = q } ∷ [])
    ≡ Key c.page c.key ∷ Page c.page ∷ (flat_map (walk xt_scale pages (suc lower)) (under c.key front) ++ (Key q r.key ∷ Page q ∷ flat_map (walk xt_scale pages (suc lower)) (r ∷ back)))
two_inners pages lower c q front r back is_c is_q =
    ap (λ ms. ms ++ (walk xt_scale pages (suc (suc lower)) (record { key = r.key; page = q }) ++ [])) (has_walk xt_scale pages lower c front is_c)
    ∙ ap (λ ms. Key c.page c.key ∷ Page c.page ∷ (flat_map (walk xt_scale pages (suc lower)) (under c.key front) ++ ms))
    (append_nil (walk xt_scale pages (suc (suc lower)) (record { key = r.key; page = q })) ∙ has_walk xt_scale pages lower (record { key = r.key; page = q }) (r ∷ back) is_q)

-- a page below another isn't that one, nor is it free
not_here : (a m t f : ℕ) → ((if a == m then 1 else 0) + t) + f ≤ 1 → 0 < t → m ≢ a
not_here a m t f h l = once_here a m (t + f) (omega (arith, h)) (omega (arith, l))

not_free : (q m t f r x : ℕ) → (x + t) + f ≤ 1 → f ≡ (if q == m then 1 else 0) + r → 0 < t → m ≢ q
not_free q m t f r x h e l = once_here q m t (omega (arith, h, e)) l

pub inner_spreads : (blocks : ℕ) (list : List Xad) (full : Bool) (bytes : List ℕ) (n : ℕ) (old new : List Drafted) (free left : List ℕ) (more : Option (Sibling ℕ)) → Stored list full bytes n old new free left more → InnerSpreads blocks list bytes n old new free left more
inner_spreads blocks list full bytes n old new free left None st image cs lower key low high node good some rises once =
    let r = st.2 in
    let before = nodes (xt_node Full blocks) old image in
    let pages = nodes (xt_node Full blocks) new image in
    let c : Child ℕ = record { key = key; page = n } in
    let all = map child_of list in
    let below = flat_map (walk xt_scale before (suc lower)) (under key all) in
    let is = ap (xt_node Full blocks) (r.puts image n ∙ itself n r.page (shown old image n)) ∙ (r.reads blocks good).inner cs node some in
    let has : HasChildren (pages n) all = record { children = all; is = is; some = some_child list some; same = λ k. refl } in
    let same = untouched xt_scale before pages (suc lower) (under key all)
    (λ m h. ap (xt_node Full blocks) (r.puts image m ∙ another m n r.page (shown old image m) (not_here n m (times m below) (count_in m free) (once m) h))) in
    subst (λ ms. Spreads low (inner_shown before (suc lower) n key list) ms high free left)
    (sym (append_nil (walk xt_scale pages (suc (suc lower)) c) ∙ has_walk xt_scale pages lower c all has ∙ ap (λ (ms : Marks ℕ Xad). Key n key ∷ Page n ∷ ms) same))
    (unspread low (inner_shown before (suc lower) n key list) high free left rises st.1)
inner_spreads blocks list full bytes n old new free left (Some s) st image cs lower key low high node good some rises once =
    let p = st.2 in
    let r = ((p.divided.reads blocks good).inner cs node).0 in
    let before = nodes (xt_node Full blocks) old image in
    let pages = nodes (xt_node Full blocks) new image in
    let c : Child ℕ = record { key = key; page = n } in
    let all = map child_of list in
    let below = flat_map (walk xt_scale before (suc lower)) (under key all) in
    let a = flat_map (walk xt_scale before (suc lower)) (under key r.front) in
    let b = flat_map (walk xt_scale before (suc lower)) (r.first ∷ r.back) in
    let taken = taken_last free left s.page st.1 in
    let ne = apart n s.page (count_in n free) (count_in n free) (count_in n left) (once_itself n (times n below) (count_in n free) (once n)) (omega arith) (taken n) in
    let has_n = subst (λ x. HasChildren x r.front) (sym (ap (xt_node Full blocks) (two_first old new n s.page p.first p.second p.puts ne image))) r.left_is in
    let has_q = subst (λ x. HasChildren x (r.first ∷ r.back)) (sym (ap (xt_node Full blocks) (two_last old new n s.page p.first p.second p.puts image))) r.right_is in
    let parts : below ≡ a ++ b = ap (flat_map (walk xt_scale before (suc lower))) (ap (under key) r.is ∙ under_front key r.front (r.first ∷ r.back) r.some) ∙ flat_map-append (walk xt_scale before (suc lower)) (under key r.front) (r.first ∷ r.back) in
    let kept : (m : ℕ) → 0 < times m below → pages m ≡ before m = λ m h. ap (xt_node Full blocks)
    (two_others old new n s.page p.first p.second p.puts image m (not_here n m (times m below) (count_in m free) (once m) h) (not_free s.page m (times m below) (count_in m free) (count_in m left) _ (once m) (taken m) h)) in
    let within = λ (m : ℕ). ap (times m) parts ∙ times-append m a b in
    let same_a = untouched xt_scale before pages (suc lower) (under key r.front) (λ m h. kept m (let e = within m in omega (arith, e, h))) in
    let same_b = untouched xt_scale before pages (suc lower) (r.first ∷ r.back) (λ m h. kept m (let e = within m in omega (arith, e, h))) in
    let whole = ap (λ (ms : Marks ℕ Xad). Key n key ∷ Page n ∷ ms) parts in
    subst (λ k. Spreads low (inner_shown before (suc lower) n key list) (flat_map (walk xt_scale pages (suc (suc lower))) (c ∷ record { key = k; page = s.page } ∷ [])) high free left) (sym r.key_is)
    (subst (λ ms. Spreads low (inner_shown before (suc lower) n key list) ms high free left)
    (sym (two_inners pages lower c s.page r.front r.first r.back has_n has_q ∙ ap (λ (ms : Marks ℕ Xad). Key n key ∷ Page n ∷ (ms ++ (Key s.page r.first.key ∷ Page s.page ∷ flat_map (walk xt_scale pages (suc lower)) (r.first ∷ r.back)))) same_a
    ∙ ap (λ (ms : Marks ℕ Xad). Key n key ∷ Page n ∷ (a ++ (Key s.page r.first.key ∷ Page s.page ∷ ms))) same_b))
    (subst (λ ms. Spreads low ms (Key n key ∷ Page n ∷ (a ++ (Key s.page r.first.key ∷ Page s.page ∷ b))) high free left) (sym whole)
    (spread low key r.first.key n s.page a b b high free left (subst (λ ms. Rises xt_scale low ms high) whole rises) (children_part xt_scale order before (suc lower) key a r.first r.back high) refl (λ i. refl) taken)))

-- ---- as a call's answer has it

pub leaves_spread : (blocks : ℕ) (list : List Xad) (full : Bool) (bytes : List ℕ) (n : ℕ) (old new : List Drafted) (free left : List ℕ) (r : Result (Option (Sibling ℕ)) TreeError)
    → IfOk r (Stored list full bytes n old new free left) → IfOk r (LeafSpreads blocks list bytes n old new free left)
leaves_spread blocks list full bytes n old new free left (Ok more) st = leaf_spreads blocks list full bytes n old new free left more st
leaves_spread blocks list full bytes n old new free left (Err e) st = tt

pub inners_spread : (blocks : ℕ) (list : List Xad) (full : Bool) (bytes : List ℕ) (n : ℕ) (old new : List Drafted) (free left : List ℕ) (r : Result (Option (Sibling ℕ)) TreeError)
    → IfOk r (Stored list full bytes n old new free left) → IfOk r (InnerSpreads blocks list bytes n old new free left)
inners_spread blocks list full bytes n old new free left (Ok more) st = inner_spreads blocks list full bytes n old new free left more st
inners_spread blocks list full bytes n old new free left (Err e) st = tt
