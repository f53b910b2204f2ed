-- The five ways in which a page takes an entry.
use Rattle.std.proofs.Common.{◌≡◌, ◌≢◌, ◌≤◌, ◌⊎◌, inl, inr, refl, sym, ap, ◌∙◌, subst, ℕ, zero, suc, ◌+◌, true, List, [], ◌∷◌, ◌++◌, map, ◌==◌, if◌then◌else◌, Option, arith, append_assoc}
use Rattle.std.specs.List.{flat_map}
use Rattle.std.proofs.lemmas.List.Concat.{flat_map-append}
use Rattle.jfs_tree.specs.Walk.{Child, Node, Leaf, Inner, Page, Key, Row, Marks, Scale, Rises, IsOrder, rows_of, times, placed, under, body, walk}
use Rattle.jfs_tree.specs.Form.{HasChildren, SplitsRows, SplitsChildren}
use Rattle.jfs_tree.proofs.Keys.{keys_rise, apart_rows}
use Rattle.jfs_tree.specs.Edit.{IsApart, KeysRise, count_in, Added, Ready, Took, bound, own, IsPast, IsCons, EndsAt, FitsFirst, Grew, with_entry}
use Rattle.jfs_tree.proofs.Frame.{times-append, rows-append}
use Rattle.jfs_tree.proofs.Rising.{rises_cut, rises_join}
use Rattle.jfs_tree.proofs.Between.{append_nil}
use Rattle.jfs_tree.proofs.Steps.{times_inner, inner_is, inner_ready}
use Rattle.jfs_tree.proofs.Leaves.{rows_leaf, times_leaf, cons_rows, at_leaf, leaf_took}
use Rattle.jfs_tree.proofs.Split.{AtLevel, took_parted, children_part, children_took}

-- a child, and what leads to it
pub record Route {P E : Type 0} (s : Scale P E) (x : E) (node : Node P E) (child : ℕ) (front : List (Child P)) (t : Child P) (back : List (Child P)) : Type 0 where
  pub is : node ≡ Inner (front ++ t ∷ back)
  pub to : t.page ≡ child
  pub past : IsPast s x back
  pub above : (front ≡ []) ⊎ (s.le t.key (s.from x) ≡ true)

pub own_page : {P : Type 0} (key : P) (front : List (Child P)) (t : Child P) → (own key front t).page ≡ t.page
own_page key [] t = refl
own_page key (f ∷ fs) t = refl

pub own_key : {P E : Type 0} (s : Scale P E) (x : E) (key : P) (front : List (Child P)) (t : Child P)
    → s.le key (s.from x) ≡ true → ((front ≡ []) ⊎ (s.le t.key (s.from x) ≡ true)) → s.le (own key front t).key (s.from x) ≡ true
own_key s x key [] t h c = h
own_key s x key (f ∷ fs) t h (inl e) = cc
own_key s x key (f ∷ fs) t h (inr e) = e

-- the child's fact, of the child as its page names it
pub at_child : {P E : Type 0} (s : Scale P E) (x : E) (before after : ℕ → Node P E) (lower child : ℕ) (more : List (Child P)) (free left : List ℕ) (key : P) (front : List (Child P)) (t : Child P)
    → t.page ≡ child → Grew s x before after (suc lower) child more free left → Grew s x before after (suc lower) (own key front t).page more free left
at_child s x before after lower child more free left key front t to g = subst (λ p. Grew s x before after (suc lower) p more free left) (sym (own_page key front t ∙ to)) g

pub at_level : {P E : Type 0} (s : Scale P E) (x : E) (before middle after : ℕ → Node P E) (lower page child : ℕ) (more : List (Child P)) (free between left : List ℕ) (key : P) (front : List (Child P)) (t : Child P) (back : List (Child P))
    → Route s x (before page) child front t back → Grew s x before middle (suc lower) child more free between
    → ((n : ℕ) → n ≢ page → count_in n between ≡ count_in n left → after n ≡ middle n) → ((n : ℕ) → count_in n left ≤ count_in n between)
    → AtLevel s before middle after lower (record { key = key; page = page }) front t back free between left
at_level s x before middle after lower page child more free between left key front t back route grew here takes =
    let g = at_child s x before middle lower child more free between key front t route.to grew in
    record { old_page = route.is; kept = g.keeps (own key front t).key; here = here; takes = takes; took = grew.takes }

-- an inner page's children, all of them, after one took the entry
level_took : {P E : Type 0} (s : Scale P E) → IsOrder s → (x : E) (before middle after : ℕ → Node P E) (lower page child : ℕ) (more : List (Child P)) (free between left : List ℕ) (key : P) (front : List (Child P)) (t : Child P) (back : List (Child P)) (low : P) (high : Option P)
    → (route : Route s x (before page) child front t back) → (grew : Grew s x before middle (suc lower) child more free between)
    → AtLevel s before middle after lower (record { key = key; page = page }) front t back free between left
    → Ready s x key low (walk s before (suc (suc lower)) (record { key = key; page = page })) high free
    → Took s x low (walk s before (suc (suc lower)) (record { key = key; page = page })) (Key page key ∷ Page page ∷ flat_map (walk s after (suc lower)) (under key (front ++ t ∷ (more ++ back)))) high free between
level_took s o x before middle after lower page child more free between left key front t back low high route grew at r =
    let c : Child _ = record { key = key; page = page } in
    let u = own key front t in
    let g = at_child s x before middle lower child more free between key front t route.to grew in
    let b = inner_ready s o x before lower c front t back low high free route.is r (own_key s x key front t r.above route.above) route.past in
    children_took s o x before middle after lower c front t more back low key high free between left at r b
    (g.grows u.key b.mid (bound (flat_map (walk s before (suc lower)) back) high) b.part)

-- so the keys of these children rise
pub level_keys : {P E : Type 0} (s : Scale P E) → IsOrder s → (x : E) (before middle : ℕ → Node P E) (lower page child : ℕ) (more : List (Child P)) (free between : List ℕ) (key : P) (front : List (Child P)) (t : Child P) (back : List (Child P)) (low : P) (high : Option P)
    → Route s x (before page) child front t back → Grew s x before middle (suc lower) child more free between
    → Ready s x key low (walk s before (suc (suc lower)) (record { key = key; page = page })) high free → KeysRise s (front ++ t ∷ (more ++ back))
level_keys s o x before middle lower page child more free between key front t back low high route grew r =
    keys_rise s o middle (suc lower) key key (front ++ t ∷ (more ++ back)) high
    (level_took s o x before middle middle lower page child more free between between key front t back low high route grew
    (at_level s x before middle middle lower page child more free between between key front t back route grew (λ n ne e. refl) (λ n. omega arith)) r).rises.1

not_page : (page n rest : ℕ) → (if page == n then 1 else 0) + rest ≡ 0 → n ≢ page
not_page page n rest h e = grind arith

inner_keeps : {P E : Type 0} (s : Scale P E) (x : E) (before middle after : ℕ → Node P E) (lower page child : ℕ) (more : List (Child P)) (free between left : List ℕ) (front : List (Child P)) (t : Child P) (back : List (Child P))
    → (route : Route s x (before page) child front t back)
    → ((key : P) → AtLevel s before middle after lower (record { key = key; page = page }) front t back free between left)
    → (key : P) (n : ℕ) → times n (walk s before (suc (suc lower)) (record { key = key; page = page })) ≡ 0 → count_in n free ≡ count_in n left → after n ≡ before n
inner_keeps s x before middle after lower page child more free between left front t back route at key n h e =
    let l = at key in
    let w = times_inner s before lower (record { key = key; page = page }) front t back n route.is in
    let i = l.takes n in
    let j = l.took n in
    l.here n (not_page page n _ (sym w ∙ h)) (omega (arith, e, i, j)) ∙ l.kept n (omega (arith, w, h)) (omega (arith, e, i, j))

cons_walk : {P E : Type 0} (s : Scale P E) (nodes : ℕ → Node P E) (lower : ℕ) (c : Child P) (cs : List (Child P))
    → IsCons cs → nodes c.page ≡ Inner cs → walk s nodes (suc (suc lower)) c ≡ Key c.page c.key ∷ Page c.page ∷ flat_map (walk s nodes (suc lower)) (under c.key cs)
unfolding walk
cons_walk s nodes lower c [] h is = absurd h
cons_walk s nodes lower c (f ∷ fs) h is = ap (λ node. Key c.page c.key ∷ Page c.page ∷ body (walk s nodes (suc lower)) c (placed s (suc lower) c.key node)) is

-- an inner page with these children
pub has_walk : {P E : Type 0} (s : Scale P E) (nodes : ℕ → Node P E) (lower : ℕ) (c : Child P) (all : List (Child P))
    → HasChildren (nodes c.page) all → walk s nodes (suc (suc lower)) c ≡ Key c.page c.key ∷ Page c.page ∷ flat_map (walk s nodes (suc lower)) (under c.key all)
has_walk s nodes lower c all h = cons_walk s nodes lower c h.children h.some h.is ∙ ap (λ cs. Key c.page c.key ∷ Page c.page ∷ flat_map (walk s nodes (suc lower)) cs) (h.same c.key)

-- 1. An inner page takes the new children of its child.
pub inner_kept : {P E : Type 0} (s : Scale P E) → IsOrder s → (x : E) (before middle after : ℕ → Node P E) (lower page child : ℕ) (more : List (Child P)) (free left : List ℕ) (front : List (Child P)) (t : Child P) (back : List (Child P))
    → Route s x (before page) child front t back → Grew s x before middle (suc lower) child more free left
    → (KeysRise s (front ++ t ∷ (more ++ back)) → HasChildren (after page) (front ++ t ∷ (more ++ back))) → ((n : ℕ) → n ≢ page → after n ≡ middle n)
    → Grew s x before after (suc (suc lower)) page [] free left
inner_kept {P} s o x before middle after lower page child more free left front t back route grew is others =
    let at : (key : P) → AtLevel s before middle after lower (record { key = key; page = page }) front t back free left left =
    λ key. at_level s x before middle after lower page child more free left left key front t back route grew (λ n ne e. others n ne) (λ n. omega arith) in
    record {
      ends = (front, t, back, route.is, subst (EndsAt before (suc lower)) (sym route.to) grew.ends);
      grows = λ key low high r.
          let c : Child P = record { key = key; page = page } in
          let took = level_took s o x before middle after lower page child more free left left key front t back low high route grew (at key) r in
          let has = is (keys_rise s o after (suc lower) key key (front ++ t ∷ (more ++ back)) high took.rises.1) in
          subst (λ ms. Took s x low (walk s before (suc (suc lower)) c) ms high free left)
          (sym (append_nil (walk s after (suc (suc lower)) c) ∙ has_walk s after lower c (front ++ t ∷ (more ++ back)) has)) took;
      keeps = inner_keeps s x before middle after lower page child more free left left front t back route at;
      takes = grew.takes;
    }

pub one_more : (n t a b f w : ℕ) → w ≡ (if n == n then 1 else 0) + (a + (t + b)) → w + f ≤ 1 → (t ≡ 0) × (f ≡ 0)
one_more n t a b f w e h = (grind arith, grind arith)

-- 2. An inner page whose child stands alone stays as it is.
pub inner_same : {P E : Type 0} (s : Scale P E) → IsOrder s → (x : E) (before after : ℕ → Node P E) (lower page child : ℕ) (free left : List ℕ) (front : List (Child P)) (t : Child P) (back : List (Child P))
    → Route s x (before page) child front t back → Grew s x before after (suc lower) child [] free left
    → Grew s x before after (suc (suc lower)) page [] free left
inner_same {P} s o x before after lower page child free left front t back route grew =
    let at : (key : P) → AtLevel s before after after lower (record { key = key; page = page }) front t back free left left =
    λ key. at_level s x before after after lower page child [] free left left key front t back route grew (λ n ne e. refl) (λ n. omega arith) in
    record {
      ends = (front, t, back, route.is, subst (EndsAt before (suc lower)) (sym route.to) grew.ends);
      grows = λ key low high r.
          let c : Child _ = record { key = key; page = page } in
          let e = one_more page (times page (walk s before (suc lower) (own key front t))) _ _ (count_in page free) _ (times_inner s before lower c front t back page route.is) (r.once page) in
          let j = grew.takes page in
          let stays = (at key).kept page e.0 (let f = e.1 in omega (arith, f, j)) in
          subst (λ ms. Took s x low (walk s before (suc (suc lower)) c) ms high free left)
          (sym (append_nil (walk s after (suc (suc lower)) c) ∙ inner_is s after lower c front t back (stays ∙ route.is)))
          (level_took s o x before after after lower page child [] free left left key front t back low high route grew (at key) r);
      keeps = inner_keeps s x before after after lower page child [] free left left front t back route at;
      takes = grew.takes;
    }

under_append : {P : Type 0} (key : P) (front back : List (Child P)) → IsCons front → under key (front ++ back) ≡ under key front ++ back
under_append key [] back h = absurd h
under_append key (f ∷ fs) back h = refl

-- what two pages show that share the children
two_walks : {P E : Type 0} (s : Scale P E) (nodes : ℕ → Node P E) (lower : ℕ) (c : Child P) (q : ℕ) (front : List (Child P)) (r : Child P) (rs : List (Child P))
    → HasChildren (nodes c.page) front → HasChildren (nodes q) (r ∷ rs)
    → flat_map (walk s nodes (suc (suc lower))) (c ∷ record { key = r.key; page = q } ∷ [])
    ≡ Key c.page c.key ∷ Page c.page ∷ (flat_map (walk s nodes (suc lower)) (under c.key front) ++ (Key q r.key ∷ Page q ∷ flat_map (walk s nodes (suc lower)) (r ∷ rs)))
two_walks s nodes lower c q front r rs is_c is_q =
    ap (λ ms. ms ++ (walk s nodes (suc (suc lower)) (record { key = r.key; page = q }) ++ [])) (has_walk s nodes lower c front is_c)
    ∙ ap (λ ms. Key c.page c.key ∷ Page c.page ∷ (flat_map (walk s nodes (suc lower)) (under c.key front) ++ ms))
    (append_nil (walk s nodes (suc (suc lower)) (record { key = r.key; page = q })) ∙ has_walk s nodes lower (record { key = r.key; page = q }) (r ∷ rs) is_q)

fewer : (l m i : ℕ) → m ≡ i + l → l ≤ m
fewer l m i h = omega (arith, h)

pub not_taken : (q n l m : ℕ) → m ≡ (if q == n then 1 else 0) + l → m ≡ l → n ≢ q
not_taken q n l m h e f = grind arith

pub once_itself : (n rest f : ℕ) → ((if n == n then 1 else 0) + rest) + f ≤ 1 → f ≡ 0
once_itself n rest f h = grind arith

pub own_once : {P E : Type 0} (s : Scale P E) (nodes : ℕ → Node P E) (lower page : ℕ) (key : P) (f : ℕ) → times page (walk s nodes (suc lower) (record { key = key; page = page })) + f ≤ 1 → f ≡ 0
unfolding walk
own_once s nodes lower page key f h = once_itself page _ f h

-- a page of the tree is not one that was free
pub apart : (page q free between left : ℕ) → free ≡ 0 → between ≤ free → between ≡ (if q == page then 1 else 0) + left → page ≢ q
apart page q free between left a b c e = grind arith

-- 3. An inner page is split at a child, whose key goes up.
pub inner_parted : {P E : Type 0} (s : Scale P E) → IsOrder s → (x : E) (before middle after : ℕ → Node P E) (lower page child q : ℕ) (more : List (Child P)) (free between left : List ℕ) (front : List (Child P)) (t : Child P) (back : List (Child P)) (a b : Node P E) (up : P)
    → Route s x (before page) child front t back → Grew s x before middle (suc lower) child more free between
    → ((n : ℕ) → count_in n between ≡ (if q == n then 1 else 0) + count_in n left)
    → (KeysRise s (front ++ t ∷ (more ++ back)) → SplitsChildren (front ++ t ∷ (more ++ back)) a b up)
    → (page ≢ q → after page ≡ a) → after q ≡ b → ((n : ℕ) → n ≢ page → n ≢ q → after n ≡ middle n)
    → Grew s x before after (suc (suc lower)) page (record { key = up; page = q } ∷ []) free left
inner_parted {P} s o x before middle after lower page child q more free between left front t back a b up route grew taken splits is_page is_q others =
    let at : (key : P) → AtLevel s before middle after lower (record { key = key; page = page }) front t back free between left =
    λ key. at_level s x before middle after lower page child more free between left key front t back route grew
    (λ n ne e. others n ne (not_taken q n (count_in n left) (count_in n between) (taken n) e)) (λ n. fewer _ _ _ (taken n)) in
    record {
      ends = (front, t, back, route.is, subst (EndsAt before (suc lower)) (sym route.to) grew.ends);
      grows = λ key low high ready.
          let c : Child P = record { key = key; page = page } in
          let ne = apart page q (count_in page free) (count_in page between) (count_in page left) (own_once s before (suc lower) page key (count_in page free) (ready.once page)) (grew.takes page) (taken page) in
          let took = level_took s o x before middle after lower page child more free between left key front t back low high route grew (at key) ready in
          let p = splits (keys_rise s o after (suc lower) key key (front ++ t ∷ (more ++ back)) high took.rises.1) in
          let all = ap (flat_map (walk s after (suc lower))) (ap (under key) p.is ∙ under_append key p.front (p.first ∷ p.back) p.some) ∙ flat_map-append (walk s after (suc lower)) (under key p.front) (p.first ∷ p.back) in
          subst (λ k. Took s x low (walk s before (suc (suc lower)) c) (flat_map (walk s after (suc (suc lower))) (c ∷ record { key = k; page = q } ∷ [])) high free left) (sym p.key_is)
          (subst (λ ms. Took s x low (walk s before (suc (suc lower)) c) ms high free left)
          (sym (two_walks s after lower c q p.front p.first p.back (subst (λ n. HasChildren n p.front) (sym (is_page ne)) p.left_is) (subst (λ n. HasChildren n (p.first ∷ p.back)) (sym is_q) p.right_is)))
          (took_parted s o x low key p.first.key page page q (walk s before (suc (suc lower)) c) (flat_map (walk s after (suc lower)) (under key p.front)) (flat_map (walk s after (suc lower)) (p.first ∷ p.back)) high free between left
          (children_part s o after (suc lower) key (flat_map (walk s after (suc lower)) (under key p.front)) p.first p.back high) taken
          (subst (λ ms. Took s x low (walk s before (suc (suc lower)) c) (Key page key ∷ Page page ∷ ms) high free between) all took)));
      keeps = inner_keeps s x before middle after lower page child more free between left front t back route at;
      takes = λ n. let h = grew.takes n in let i = fewer _ _ _ (taken n) in omega (arith, h, i);
    }

pub leaf_other : {P E : Type 0} (s : Scale P E) (before : ℕ → Node P E) (lower page n : ℕ) (key : P) → times n (walk s before (suc lower) (record { key = key; page = page })) ≡ 0 → n ≢ page
unfolding walk
leaf_other s before lower page n key h = not_page page n _ h

-- 4. A leaf takes the entry.
pub leaf_kept : {P E : Type 0} (s : Scale P E) → IsOrder s → (x : E) (before after : ℕ → Node P E) (page : ℕ) (es : List E) (free : List ℕ)
    → before page ≡ Leaf es → (IsApart s x es → after page ≡ Leaf (with_entry s x es)) → ((n : ℕ) → n ≢ page → after n ≡ before n)
    → Grew s x before after (suc zero) page [] free free
leaf_kept {P} s o x before after page es free was is others = record {
  ends = (es, was);
  grows = λ key low high r.
      let c : Child P = record { key = key; page = page } in
      let l = at_leaf s o x before c es low high free was r in
      subst (λ ms. Took s x low (walk s before (suc zero) c) ms high free free) (sym (append_nil (walk s after (suc zero) c)))
      (leaf_took s o x before after c es low high free was (is (apart_rows s x page es l.ready.clear.1)) r);
  keeps = λ key n h e. others n (leaf_other s before zero page n key h);
  takes = λ n. omega arith;
}

-- entries are the same on whichever page they stand
pub rises_elsewhere : {P E : Type 0} (s : Scale P E) (n m : ℕ) (low : P) (es : List E) (high : Option P) → Rises s low (map (Row n) es) high → Rises s low (map (Row m) es) high
rises_elsewhere s n m low [] high h = h
rises_elsewhere s n m low (e ∷ es) high h = (h.0, rises_elsewhere s n m (s.to e) es high h.1)

map_append : {A B : Type 0} (f : A → B) (a b : List A) → map f (a ++ b) ≡ map f a ++ map f b
map_append f [] b = refl
map_append f (x ∷ a) b = ap (λ t. f x ∷ t) (map_append f a b)

same_rows : {P E : Type 0} (n m : ℕ) (a : Marks P E) (b : List E) → rows_of (a ++ map (Row n) b) ≡ rows_of (a ++ map (Row m) b)
same_rows {P} n m a b = rows-append a (map (Row n) b) ∙ ap (λ t. rows_of a ++ t) (rows_leaf P n b ∙ sym (rows_leaf P m b)) ∙ sym (rows-append a (map (Row m) b))

same_times : {P E : Type 0} (i n m : ℕ) (a : Marks P E) (b : List E) → times i (a ++ map (Row n) b) ≡ times i (a ++ map (Row m) b)
same_times {P} i n m a b =
    let e = times-append i a (map (Row n) b) in let f = times-append i a (map (Row m) b) in let g = times_leaf P i n b in let h = times_leaf P i m b in omega (arith, e, f, g, h)

took_elsewhere : {P E : Type 0} (s : Scale P E) → IsOrder s → (x : E) (low : P) (n m : ℕ) (old a : Marks P E) (b : List E) (high : Option P) (free left : List ℕ)
    → Took s x low old (a ++ map (Row n) b) high free left → Took s x low old (a ++ map (Row m) b) high free left
took_elsewhere s o x low n m old a b high free left t = record {
  rows = subst (λ r. Added x (rows_of old) r) (same_rows n m a b) t.rows;
  rises = let c = rises_cut s o low a (map (Row n) b) high t.rises in rises_join s o low c.0 a (map (Row m) b) high c.1 (rises_elsewhere s n m c.0 b high c.2);
  pages = λ i. let h = t.pages i in let e = same_times i n m a b in omega (arith, h, e);
}

itself : {X : Type 0} (n : ℕ) (a b : X) → (if n == n then a else b) ≡ a
itself n a b = grind arith

two_leaves : {P E : Type 0} (s : Scale P E) (nodes : ℕ → Node P E) (c : Child P) (q : ℕ) (key : P) (front back : List E)
    → FitsFirst s c.key front → FitsFirst s key back → nodes c.page ≡ Leaf front → nodes q ≡ Leaf back
    → flat_map (walk s nodes (suc zero)) (c ∷ record { key = key; page = q } ∷ [])
    ≡ (Key c.page c.key ∷ Page c.page ∷ (map (Row c.page) front ++ (Key q key ∷ Page q ∷ []))) ++ map (Row q) back
two_leaves s nodes c q key front back h i is_c is_q =
    ap (λ ms. ms ++ (walk s nodes (suc zero) (record { key = key; page = q }) ++ [])) (cons_rows s nodes c front h is_c)
    ∙ ap (λ ms. Key c.page c.key ∷ Page c.page ∷ (map (Row c.page) front ++ ms))
    (append_nil (walk s nodes (suc zero) (record { key = key; page = q })) ∙ cons_rows s nodes (record { key = key; page = q }) back i is_q)
    ∙ ap (λ ms. Key c.page c.key ∷ Page c.page ∷ ms) (sym (append_assoc (map (Row c.page) front) (Key q key ∷ Page q ∷ []) (map (Row q) back)))

fits_front : {P E : Type 0} (s : Scale P E) (key : P) (a b : List E) → IsCons a → FitsFirst s key (a ++ b) → FitsFirst s key a
fits_front s key [] b h f = absurd h
fits_front s key (e ∷ a) b h f = f

-- 5. A leaf is split.
pub leaf_parted : {P E : Type 0} (s : Scale P E) → IsOrder s → (x : E) (before after : ℕ → Node P E) (page q : ℕ) (es : List E) (a b : Node P E) (key : P) (free left : List ℕ)
    → before page ≡ Leaf es → (IsApart s x es → SplitsRows s (with_entry s x es) a b key)
    → ((n : ℕ) → count_in n free ≡ (if q == n then 1 else 0) + count_in n left)
    → (page ≢ q → after page ≡ a) → after q ≡ b → ((n : ℕ) → n ≢ page → n ≢ q → after n ≡ before n)
    → Grew s x before after (suc zero) page (record { key = key; page = q } ∷ []) free left
leaf_parted {P} {E} s o x before after page q es a b key free left was splits taken is_page is_q others = record {
  ends = (es, was);
  grows = λ own low high ready.
      let c : Child P = record { key = own; page = page } in
      let ne = apart page q (count_in page free) (count_in page free) (count_in page left) (own_once s before zero page own (count_in page free) (ready.once page)) (omega arith) (taken page) in
      let l = at_leaf s o x before c es low high free was ready in
      let p = splits (apart_rows s x page es l.ready.clear.1) in
      let whole : ℕ → Node P E = λ n. if n == page then Leaf (with_entry s x es) else before n in
      let is : whole page ≡ Leaf (p.front ++ p.back) = itself page (Leaf (with_entry s x es)) (before page) ∙ ap Leaf p.all in
      let t = leaf_took s o x before whole c es low high free was (itself page (Leaf (with_entry s x es)) (before page)) ready in
      let fits = subst (FitsFirst s own) p.all l.fits in
      let shown = cons_rows s whole c (p.front ++ p.back) fits is ∙ ap (λ ms. Key page own ∷ Page page ∷ ms) (map_append (Row page) p.front p.back) in
      let u = took_parted s o x low own key page page q (walk s before (suc zero) c) (map (Row page) p.front) (map (Row page) p.back) high free free left
      (λ r. p.parts.rises page own high (subst (λ ms. Rises s own ms high) (sym (map_append (Row page) p.front p.back)) r)) taken
      (subst (λ ms. Took s x low (walk s before (suc zero) c) ms high free free) shown t) in
      subst (λ ms. Took s x low (walk s before (suc zero) c) ms high free left)
      (sym (two_leaves s after c q key p.front p.back (fits_front s own p.front p.back p.some fits) p.parts.fits (is_page ne ∙ p.left_is) (is_q ∙ p.right_is)))
      (took_elsewhere s o x low page q (walk s before (suc zero) c) (Key page own ∷ Page page ∷ (map (Row page) p.front ++ (Key q key ∷ Page q ∷ []))) p.back high free left
      (subst (λ ms. Took s x low (walk s before (suc zero) c) (Key page own ∷ Page page ∷ ms) high free left) (sym (append_assoc (map (Row page) p.front) (Key q key ∷ Page q ∷ []) (map (Row page) p.back))) u));
  keeps = λ own n h e. others n (leaf_other s before zero page n own h) (not_taken q n (count_in n left) (count_in n free) (taken n) e);
  takes = λ n. fewer _ _ _ (taken n);
}
