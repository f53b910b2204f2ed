-- A root whose tree takes an entry.
use Rattle.std.proofs.Common.{◌≡◌, ◌≢◌, ◌≤◌, ◌⊎◌, inl, inr, refl, sym, ap, ◌∙◌, subst, ℕ, zero, suc, ◌+◌, Bool, true, false, List, [], ◌∷◌, ◌++◌, ◌==◌, if◌then◌else◌, Option, None, Ok, arith}
use Rattle.std.specs.List.{flat_map}
use Rattle.jfs_tree.specs.Walk.{Child, Node, Leaf, Page, Key, Marks, Scale, Rises, IsOrder, rows_of, times, under, walk}
use Rattle.jfs_tree.specs.Spells.{no_page, with_root, top, tree_of, spells}
use Rattle.jfs_tree.specs.Edit.{IsApart, KeysRise, Ready, Took, Grew, Added, count_in, bound, own, with_entry}
use Rattle.jfs_tree.specs.Form.{AllBelow, HasChildren}
use Rattle.jfs_tree.specs.Root.{Adds, IsSpare, Settled}
use Rattle.jfs_tree.proofs.Frame.{frame}
use Rattle.jfs_tree.proofs.Keys.{keys_rise}
use Rattle.jfs_tree.proofs.Steps.{times_inner, inner_ready}
use Rattle.jfs_tree.proofs.Between.{Between}
use Rattle.jfs_tree.proofs.Split.{AtLevel, children_took}
use Rattle.jfs_tree.proofs.Leaves.{cons_rows, leaf_took}
use Rattle.jfs_tree.proofs.Found.{leaf_rows}
use Rattle.jfs_tree.proofs.Finding.{leaf_level}
use Rattle.jfs_tree.proofs.Spelled.{stands}
use Rattle.jfs_tree.proofs.Growing.{Route, at_child, has_walk, own_key}
use Rattle.jfs_tree.proofs.Roots.{root_moves}
use Rattle.jfs_tree.proofs.Tops.{off_one, off_root, root_else, page_or, count_below, top_adds, top_ready}
use Rattle.jfs_tree.proofs.Adding.{zero_walk}

pub same_root : {P E : Type 0} (root : Node P E) (a b : ℕ → Node P E) (n : ℕ) → n ≡ no_page → with_root root a n ≡ with_root root b n
same_root root a b n e = subst (λ m. with_root root a m ≡ with_root root b m) (sym e) refl

none_left : (w a t b f : ℕ) → w ≡ (if no_page == no_page then 1 else 0) + (a + (t + b)) → w + f ≤ 1 → (t ≡ 0) × (f ≡ 0)
none_left w a t b f e h = (omega (arith, e, h), omega (arith, e, h))

-- the part of a root below one of its children is ready, wherever the root stands
pub root_part : {P E : Type 0} (s : Scale P E) → IsOrder s → (x : E) (root : Node P E) (old : ℕ → Node P E) (lower child : ℕ) (free : List ℕ) (front : List (Child P)) (t : Child P) (back : List (Child P))
    → Route s x root child front t back → Ready s x s.least s.least (walk s (with_root root old) (suc (suc lower)) (top s)) None free
    → (mid : P) × (high : Option P) × Ready s x (own s.least front t).key mid (walk s old (suc lower) (own s.least front t)) high free
root_part {P} {E} s o x root old lower child free front t back route ready =
    let c : Child P = top s in
    let before : ℕ → Node P E = with_root root old in
    let u = own c.key front t in
    let T = walk s before (suc lower) u in
    let b = inner_ready s o x before lower c front t back s.least None free route.is ready (own_key s x c.key front t ready.above route.above) route.past in
    let z = none_left (times no_page (walk s before (suc (suc lower)) c)) (times no_page (flat_map (walk s before (suc lower)) (under c.key front))) (times no_page T) (times no_page (flat_map (walk s before (suc lower)) back)) (count_in no_page free)
    (times_inner s before lower c front t back no_page route.is) (ready.once no_page) in
    let was : walk s old (suc lower) u ≡ T = off_one s before old (suc lower) u (λ n ne. sym (root_else root old n ne)) z.0 in
    let high = bound (flat_map (walk s before (suc lower)) back) None in
    (b.mid, high, subst (λ ms. Ready s x u.key b.mid ms high free) (sym was) b.part)

-- a root with a child that took the entry, as a page of its tree
pub record RootLevel {P E : Type 0} (s : Scale P E) (x : E) (root taken : Node P E) (old mid : ℕ → Node P E) (lower : ℕ) (more : List (Child P)) (free between : List ℕ) (front : List (Child P)) (t : Child P) (back : List (Child P)) : Type 0 where
  pub b : Between s x (own s.least front t).key s.least (flat_map (walk s (with_root root old) (suc lower)) (under s.least front)) (walk s (with_root root old) (suc lower) (own s.least front t)) (flat_map (walk s (with_root root old) (suc lower)) back) None free
  pub part : Ready s x (own s.least front t).key b.mid (walk s old (suc lower) (own s.least front t)) (bound (flat_map (walk s (with_root root old) (suc lower)) back) None) free
  pub grew : Took s x b.mid (walk s old (suc lower) (own s.least front t)) (flat_map (walk s mid (suc lower)) (own s.least front t ∷ more)) (bound (flat_map (walk s (with_root root old) (suc lower)) back) None) free between
  pub took : Took s x b.mid (walk s (with_root root old) (suc lower) (own s.least front t)) (flat_map (walk s (with_root root mid) (suc lower)) (own s.least front t ∷ more)) (bound (flat_map (walk s (with_root root old) (suc lower)) back) None) free between
  pub at : AtLevel s (with_root root old) (with_root root mid) (with_root taken mid) lower (top s) front t back free between between
  pub off_old : times no_page (walk s (with_root root old) (suc lower) (own s.least front t)) ≡ 0
  pub off_new : times no_page (flat_map (walk s mid (suc lower)) (own s.least front t ∷ more)) ≡ 0

pub root_at : {P E : Type 0} (s : Scale P E) → IsOrder s → (x : E) (root taken : Node P E) (old mid : ℕ → Node P E) (lower child : ℕ) (more : List (Child P)) (free between : List ℕ) (front : List (Child P)) (t : Child P) (back : List (Child P))
    → Route s x root child front t back → Grew s x old mid (suc lower) child more free between
    → Ready s x s.least s.least (walk s (with_root root old) (suc (suc lower)) (top s)) None free
    → RootLevel s x root taken old mid lower more free between front t back
root_at {P} {E} s o x root taken old mid lower child more free between front t back route grew ready =
    let c : Child P = top s in
    let before : ℕ → Node P E = with_root root old in
    let middle : ℕ → Node P E = with_root root mid in
    let u = own c.key front t in
    let T = walk s before (suc lower) u in
    let b = inner_ready s o x before lower c front t back s.least None free route.is ready (own_key s x c.key front t ready.above route.above) route.past in
    let z = none_left (times no_page (walk s before (suc (suc lower)) c)) (times no_page (flat_map (walk s before (suc lower)) (under c.key front))) (times no_page T) (times no_page (flat_map (walk s before (suc lower)) back)) (count_in no_page free)
    (times_inner s before lower c front t back no_page route.is) (ready.once no_page) in
    let was : walk s old (suc lower) u ≡ T = off_one s before old (suc lower) u (λ n ne. sym (root_else root old n ne)) z.0 in
    let g = at_child s x old mid lower child more free between c.key front t route.to grew in
    let high = bound (flat_map (walk s before (suc lower)) back) None in
    let ready_part : Ready s x u.key b.mid (walk s old (suc lower) u) high free = subst (λ ms. Ready s x u.key b.mid ms high free) (sym was) b.part in
    let part = g.grows u.key b.mid high ready_part in
    let new = flat_map (walk s mid (suc lower)) (u ∷ more) in
    let none : times no_page new ≡ 0 = let p = part.pages no_page in let e = ap (times no_page) was in let f = z.0 in let h = z.1 in omega (arith, p, e, f, h) in
    let is : flat_map (walk s middle (suc lower)) (u ∷ more) ≡ new = off_root s mid middle (suc lower) (u ∷ more) (λ n ne. root_else root mid n ne) none in
    let took = subst (λ ms. Took s x b.mid T ms high free between) (sym is) (subst (λ ms. Took s x b.mid ms new high free between) was part) in
    let kept : (n : ℕ) → times n T ≡ 0 → count_in n free ≡ count_in n between → middle n ≡ before n = λ n h e. elim (page_or n) [
      | inl i ↦ same_root root mid old n i
      | inr ne ↦ root_else root mid n ne ∙ g.keeps u.key n (ap (times n) was ∙ h) e ∙ sym (root_else root old n ne)
    ] in
    let at : AtLevel s before middle (with_root taken mid) lower c front t back free between between = record {
      old_page = route.is;
      kept = kept;
      here = λ n ne e. root_else taken mid n ne ∙ sym (root_else root mid n ne);
      takes = λ n. omega arith;
      took = grew.takes;
    } in
    record { b = b; part = ready_part; grew = part; took = took; at = at; off_old = z.0; off_new = none }

-- the children that it is to have
root_level : {P E : Type 0} (s : Scale P E) → IsOrder s → (x : E) (root taken : Node P E) (old mid : ℕ → Node P E) (lower child : ℕ) (more : List (Child P)) (free between : List ℕ) (front : List (Child P)) (t : Child P) (back : List (Child P))
    → Route s x root child front t back → Grew s x old mid (suc lower) child more free between
    → Ready s x s.least s.least (walk s (with_root root old) (suc (suc lower)) (top s)) None free
    → Took s x s.least (walk s (with_root root old) (suc (suc lower)) (top s)) (Key no_page s.least ∷ Page no_page ∷ flat_map (walk s (with_root taken mid) (suc lower)) (under s.least (front ++ t ∷ (more ++ back)))) None free between
root_level s o x root taken old mid lower child more free between front t back route grew ready =
    let l = root_at s o x root taken old mid lower child more free between front t back route grew ready in
    children_took s o x (with_root root old) (with_root root mid) (with_root taken mid) lower (top s) front t more back s.least s.least None free between between l.at ready l.b l.took

pub root_keys : {P E : Type 0} (s : Scale P E) → IsOrder s → (x : E) (root : Node P E) (old mid : ℕ → Node P E) (lower child : ℕ) (more : List (Child P)) (free between : List ℕ) (front : List (Child P)) (t : Child P) (back : List (Child P))
    → Route s x root child front t back → Grew s x old mid (suc lower) child more free between
    → Ready s x s.least s.least (walk s (with_root root old) (suc (suc lower)) (top s)) None free → KeysRise s (front ++ t ∷ (more ++ back))
root_keys s o x root old mid lower child more free between front t back route grew ready =
    keys_rise s o (with_root root mid) (suc lower) s.least s.least (front ++ t ∷ (more ++ back)) None (root_level s o x root root old mid lower child more free between front t back route grew ready).rises.1

pub root_took : {P E : Type 0} (s : Scale P E) → IsOrder s → (x : E) (root taken : Node P E) (old mid : ℕ → Node P E) (lower child : ℕ) (more : List (Child P)) (free between : List ℕ) (front : List (Child P)) (t : Child P) (back : List (Child P))
    → Route s x root child front t back → Grew s x old mid (suc lower) child more free between
    → Ready s x s.least s.least (walk s (with_root root old) (suc (suc lower)) (top s)) None free → HasChildren taken (front ++ t ∷ (more ++ back))
    → Took s x s.least (walk s (with_root root old) (suc (suc lower)) (top s)) (walk s (with_root taken mid) (suc (suc lower)) (top s)) None free between
root_took s o x root taken old mid lower child more free between front t back route grew ready has =
    subst (λ ms. Took s x s.least (walk s (with_root root old) (suc (suc lower)) (top s)) ms None free between) (sym (has_walk s (with_root taken mid) lower (top s) (front ++ t ∷ (more ++ back)) has))
    (root_level s o x root taken old mid lower child more free between front t back route grew ready)

pub same_all : {P E : Type 0} (s : Scale P E) (a b : Node P E) (old new : ℕ → Node P E) (levels : ℕ) → a ≡ b → ((n : ℕ) → new n ≡ old n) → walk s (with_root a new) levels (top s) ≡ walk s (with_root b old) levels (top s)
same_all s a b old new levels e same =
    frame s (with_root b old) (with_root a new) levels (top s) (λ n p. ap (λ r. with_root r new n) e ∙ ap (λ m. if n == no_page then b else m) (same n))

not_q : (q n l m f : ℕ) → m ≡ (if q == n then 1 else 0) + l → m ≤ f → f ≡ l → n ≢ q
not_q q n l m f h i e = grind arith

fewer_or : (q n l m : ℕ) → m ≡ (if q == n then 1 else 0) + l → l ≤ m
fewer_or q n l m h = omega (arith, h)

same_counts : (l m f : ℕ) → l ≤ m → m ≤ f → f ≡ l → f ≡ m
same_counts l m f h i e = omega (arith, h, i, e)

q_in : (q b f l : ℕ) → b ≡ (if q == q then 1 else 0) + l → b ≤ f → f ≡ 0 → ⊥
q_in q b f l h i e = grind arith

-- What was to stand at the root stands there or below it, and the tree has the entry.
pub settled_adds : {P E : Type 0} (s : Scale P E) → IsOrder s → (x : E) (es : List E) (old mid new : ℕ → Node P E) (root taken after : Node P E) (ms : Marks P E) (levels blocks : ℕ) (free between left : List ℕ)
    → tree_of s old root ≡ ms → rows_of ms ≡ es
    → levels ≤ 8 → AllBelow blocks free → AllBelow blocks left → blocks ≤ no_page
    → ((n : ℕ) → times n ms + count_in n free ≤ 1) → ((n : ℕ) → count_in n between ≤ count_in n free)
    → Took s x s.least ms (walk s (with_root taken mid) levels (top s)) None free between
    → ((n : ℕ) → (n ≡ no_page) ⊎ (times n ms ≡ 0) → count_in n free ≡ count_in n between → mid n ≡ old n)
    → Settled s levels taken mid new after between left → Adds s x es old new root after free left
settled_adds {P} {E} s o x es old mid new root taken after ms levels blocks free between left is rows most below_free below_left within once fewer took keeps (inl (same, pages, counts)) =
    top_adds s o x es old new root after ms levels blocks free left is rows most below_free below_left within
    (record {
      rows = subst (λ now. Added x (rows_of ms) (rows_of now)) (sym (same_all s after taken mid new levels same pages)) took.rows;
      rises = subst (λ ms. Rises s s.least ms None) (sym (same_all s after taken mid new levels same pages)) took.rises;
      pages = λ n. let h = took.pages n in let e = ap (times n) (same_all s after taken mid new levels same pages) in let f = counts n in omega (arith, h, e, f);
    })
    (λ n h e. pages n ∙ keeps n h (e ∙ sym (counts n)))
settled_adds {P} {E} s o x es old mid new root taken after ms zero blocks free between left is rows most below_free below_left within once fewer took keeps (inr (q, deep, above, here, pages, counts)) = absurd (zero_walk s (with_root taken mid) (top s) s.least None took.rises)
settled_adds {P} {E} s o x es old mid new root taken after ms (suc lower) blocks free between left is rows most below_free below_left within once fewer took keeps (inr (q, deep, above, here, pages, counts)) =
    let q_off : q ≢ no_page = λ e. q_in q (count_in q between) (count_in q free) (count_in q left) (counts q) (fewer q) (ap (λ m. count_in m free) e ∙ count_below blocks no_page free below_free within) in
    let m = root_moves s o (with_root taken mid) (with_root after new) lower no_page q s.least s.least s.least None between left above
    (root_else after new q q_off ∙ here)
    (λ n nr nq. root_else after new n nr ∙ pages n nq ∙ sym (root_else taken mid n nr))
    (λ n. let h = took.pages n in let k = once n in omega (arith, h, k)) counts took.rises in
    top_adds s o x es old new root after ms (suc (suc lower)) blocks free left is rows deep below_free below_left within
    (record {
      rows = subst (λ r. Added x (rows_of ms) r) (sym m.1) took.rows;
      rises = m.0;
      pages = λ n. let h = took.pages n in let e = m.2 n in omega (arith, h, e);
    })
    (λ n h e. pages n (not_q q n (count_in n left) (count_in n between) (count_in n free) (counts n) (fewer n) e)
    ∙ keeps n h (same_counts (count_in n left) (count_in n between) (count_in n free) (fewer_or q n (count_in n left) (count_in n between) (counts n)) (fewer n) e))

-- ---- what the calls say

abbrev as_leaf : (P : Type 0) {E : Type 0} → List E → Node P E
as_leaf P es = Leaf es

leaf_is : (P : Type 0) {E : Type 0} (a b : List E) → as_leaf P a ≡ as_leaf P b → a ≡ b
leaf_is P a b h = cc

empty_took : {P E : Type 0} (s : Scale P E) → IsOrder s → (x : E) (old : ℕ → Node P E) (free : List ℕ)
    → Took s x s.least (Page no_page ∷ []) (walk s (with_root (Leaf (x ∷ [])) old) (suc zero) (top s)) None free free
empty_took s o x old free =
    let is = cons_rows s (with_root (Leaf (x ∷ [])) old) (top s) (x ∷ []) (o.fits_least x) refl in
    subst (λ ms. Took s x s.least (Page no_page ∷ []) ms None free free) (sym is) (record {
      rows = record { front = []; back = []; before = refl; after = refl };
      rises = (o.refl_le s.least, (o.least_le (s.from x), tt));
      pages = λ n. refl;
    })

abbrev bit_of : Bool → ℕ
bit_of b = if b then 1 else 0

at_most : (b : Bool) → bit_of b ≤ 1
at_most true = omega arith
at_most false = omega arith

no_bit : (m : ℕ) → m ≢ no_page → bit_of (no_page == m) ≡ 0
no_bit m ne = grind (arith, ne)

empty_once : (n f : ℕ) → f ≤ 1 → (n ≡ no_page → f ≡ 0) → (bit_of (no_page == n) + 0) + f ≤ 1
empty_once n f h e = elim (page_or n) [
  | inl i ↦ let z = e i in let g = at_most (no_page == n) in omega (arith, z, g)
  | inr ne ↦ let z = no_bit n ne in omega (arith, z, h)
]

pub here_adds : {P E : Type 0} (s : Scale P E) → IsOrder s → (x : E) (es rest : List E) (old new : ℕ → Node P E) (root after : Node P E) (blocks : ℕ) (free left : List ℕ)
    → AllBelow blocks free → AllBelow blocks left → blocks ≤ no_page → root ≡ Leaf rest
    → (IsApart s x rest → Settled s 1 (Leaf (with_entry s x rest)) old new after free left)
    → spells s old root ≡ Ok es → IsApart s x es → IsSpare s old root free → Adds s x es old new root after free left
here_adds {P} {E} s o x es rest old new root after blocks free left below_free below_left within is settled spelled apart spare =
    elim (stands s old root es spelled) [
      | inl e ↦
          let nil : rest ≡ [] = leaf_is P rest [] (sym is ∙ e.0) in
          settled_adds s o x es old old new root (Leaf (x ∷ [])) after (Page no_page ∷ []) 1 blocks free free left (ap (tree_of s old) e.0) (sym e.1) (omega arith) below_free below_left within
          (λ n. empty_once n (count_in n free) (spare.once n) (λ i. ap (λ m. count_in m free) i ∙ count_below blocks no_page free below_free within)) (λ n. omega arith)
          (empty_took s o x old free) (λ n h i. refl)
          (subst (λ r. Settled s 1 (Leaf (with_entry s x r)) old new after free left) nil (settled (subst (IsApart s x) (e.1 ∙ sym nil) apart)))
      | inr st ↦
          let level = leaf_level s (with_root root old) st.levels (top s) rest s.least None is st.rises in
          let rises = subst (λ l. Rises s s.least (walk s (with_root root old) l (top s)) None) level st.rises in
          let ms = walk s (with_root root old) (suc zero) (top s) in
          let tree : tree_of s old root ≡ ms = st.is ∙ ap (λ l. walk s (with_root root old) l (top s)) level in
          let rows : rows_of ms ≡ es = ap (λ l. rows_of (walk s (with_root root old) l (top s))) (sym level) ∙ st.rows in
          let same : es ≡ rest = sym rows ∙ leaf_rows s (with_root root old) (top s) rest s.least None is rises in
          let ready = top_ready s o x old root (suc zero) blocks free tree rises (subst (IsApart s x) (sym rows) apart) spare below_free within in
          settled_adds s o x es old old new root (Leaf (with_entry s x rest)) after ms 1 blocks free free left tree rows (omega arith) below_free below_left within ready.once (λ n. omega arith)
          (leaf_took s o x (with_root root old) (with_root (Leaf (with_entry s x rest)) old) (top s) rest s.least None free is refl ready) (λ n h i. refl)
          (settled (subst (IsApart s x) same apart))
    ]
