-- Marks that rise, one part behind another, and the pages in them.
use Rattle.std.proofs.Common.{◌≡◌, ◌≤◌, ◌<◌, ◌⊎◌, inl, inr, refl, sym, ap, ◌∙◌, subst, ℕ, zero, suc, ◌+◌, ◌-◌, ◌==◌, Bool, true, false, ◌||◌, if◌then◌else◌, List, [], ◌∷◌, ◌++◌, map, Option, Some, None, Result, Ok, Err, arith}
use Rattle.std.specs.Prelude.{nat_le}
use Rattle.std.specs.List.{flat_map}
use Rattle.std.proofs.lemmas.Bool.{leb-true, le-leb, eqb-true}
use Rattle.std.proofs.lemmas.Bool.Decides.{nat_tests}
use Rattle.jfs_bits.specs.declared.extent.Xad.{Xad}
use Rattle.jfs_bits.specs.declared.rule.Rule.{Rule}
use Rattle.jfs_bits.specs.declared.rule.Rule.TheVariants as rules
use Rattle.jfs_tree.specs.Walk.{Child, Node, Leaf, Inner, Broken, Page, Key, Row, Fault, Marks, Rises, rows_of, times, placed, under, body, walk}
use Rattle.jfs_tree.specs.Spells.{judge, with_row}
use Rattle.jfs_tree.specs.Edit.{count_in}
use Rattle.jfs_tree.specs.declared.form.TreeError.{TreeError}
use Rattle.jfs_tree.specs.declared.form.TreeError.TheVariants.{View, Bad, Memory}
use Rattle.jfs_tree.proofs.Frame.{times-append}
use Rattle.jfs_tree.proofs.Judge.{judges}
use Rattle.jfs_tree.proofs.Keys.{rises_up}
use Rattle.jfs_tree.proofs.Leaves.{times_leaf}
use Rattle.jfs_tree.proofs.Once.{each_once}
use Rattle.jfs_tree.proofs.Rising.{rises_higher, rises_cut}
use Rattle.jfs_xtpage.specs.Page.{entries_of, entries_from, entry_of, count_of, end_of, rises_from}
use Rattle.jfs_xtree.specs.Laws.{order, ends_after}
use Rattle.jfs_xtree.specs.Node.{xt_scale}
use Rattle.jfs_xtree.specs.CutParts.{StopsAt, StartsBelow, Starts, Spread, pages_in, place_after}
use Rattle.jfs_xtree.proofs.Pages.{rises_less, rises_more}

-- ---- one part behind another

pub after-append : (low : ℕ) (a b : Marks ℕ Xad) → place_after low (a ++ b) ≡ place_after (place_after low a) b
after-append low [] b = refl
after-append low (Page n ∷ a) b = after-append low a b
after-append low (Key n k ∷ a) b = after-append k a b
after-append low (Row n e ∷ a) b = after-append (end_of e) a b
after-append low (Fault n r ∷ a) b = after-append low a b

pub pages-append : (a b : Marks ℕ Xad) → pages_in (a ++ b) ≡ pages_in a ++ pages_in b
pages-append [] b = refl
pages-append (Page n ∷ a) b = ap (λ ns. n ∷ ns) (pages-append a b)
pages-append (Key n k ∷ a) b = pages-append a b
pages-append (Row n e ∷ a) b = pages-append a b
pages-append (Fault n r ∷ a) b = pages-append a b

pub if_so : {A : Type 0} (b : Bool) (x y : A) → b ≡ true → (if b then x else y) ≡ x
if_so true x y h = refl
if_so false x y h = cc

pub if_not : {A : Type 0} (b : Bool) (x y : A) → b ≡ false → (if b then x else y) ≡ y
if_not true x y h = cc
if_not false x y h = refl

judged_behind : (low : ℕ) (a b : Marks ℕ Xad) (high : Option ℕ) (f : ℕ × Rule) → Rises xt_scale low a high → judge xt_scale (place_after low a) b ≡ Err f → judge xt_scale low (a ++ b) ≡ Err f
judged_behind low [] b high f r j = j
judged_behind low (Page n ∷ a) b high f r j = judged_behind low a b high f r j
judged_behind low (Key n k ∷ a) b high f r j = if_so (nat_le low k) (judge xt_scale k (a ++ b)) (Err (n, rules.Order)) r.0 ∙ judged_behind k a b high f r.1 j
judged_behind low (Row n e ∷ a) b high f r j =
    if_so (nat_le low e.offset) (with_row e (judge xt_scale (end_of e) (a ++ b))) (Err (n, rules.Order)) r.0 ∙ ap (with_row e) (judged_behind (end_of e) a b high f r.1 j)
judged_behind low (Fault n g ∷ a) b high f r j = absurd r

row_stops : (e : Xad) (j : Result (List Xad) (ℕ × Rule)) (f : ℕ × Rule) → with_row e j ≡ Err f → j ≡ Err f
row_stops e (Ok es) f h = absurd (no_list (e ∷ es) f h)
  where
    no_list : (xs : List Xad) (f : ℕ × Rule) → Ok xs ≡ Err f → ⊥
    no_list xs f h = cc
row_stops e (Err g) f h = h

judged_before : (low : ℕ) (a b : Marks ℕ Xad) (f : ℕ × Rule) → judge xt_scale low a ≡ Err f → judge xt_scale low (a ++ b) ≡ Err f
judged_before low [] b f j = absurd (no_list f j)
  where
    no_list : (f : ℕ × Rule) → judge xt_scale low [] ≡ Err f → ⊥
    no_list f h = cc
judged_before low (Page n ∷ a) b f j = judged_before low a b f j
judged_before low (Key n k ∷ a) b f j = by (nat_le low k) (judged_before k a b f) j
  where
    by : (t : Bool) → (judge xt_scale k a ≡ Err f → judge xt_scale k (a ++ b) ≡ Err f) → (if t then judge xt_scale k a else Err (n, rules.Order)) ≡ Err f → (if t then judge xt_scale k (a ++ b) else Err (n, rules.Order)) ≡ Err f
    by true go h = go h
    by false go h = h
judged_before low (Row n e ∷ a) b f j = by (nat_le low e.offset) (judged_before (end_of e) a b f) j
  where
    by : (t : Bool) → (judge xt_scale (end_of e) a ≡ Err f → judge xt_scale (end_of e) (a ++ b) ≡ Err f)
        → (if t then with_row e (judge xt_scale (end_of e) a) else Err (n, rules.Order)) ≡ Err f → (if t then with_row e (judge xt_scale (end_of e) (a ++ b)) else Err (n, rules.Order)) ≡ Err f
    by true go h = ap (with_row e) (go (row_stops e (judge xt_scale (end_of e) a) f h))
    by false go h = h
judged_before low (Fault n g ∷ a) b f j = j

pub stops_behind : (low mid : ℕ) (a b : Marks ℕ Xad) (high : Option ℕ) (e : TreeError) → Rises xt_scale low a high → mid ≡ place_after low a → StopsAt mid b e → StopsAt low (a ++ b) e
stops_behind low mid a b high (View e) r end s = tt
stops_behind low mid a b high (Bad page rule) r end s = judged_behind low a b high (page, rule) r (subst (λ m. judge xt_scale m b ≡ Err (page, rule)) end s)
stops_behind low mid a b high Memory r end s = tt

pub stops_before : (low : ℕ) (a b : Marks ℕ Xad) (e : TreeError) → StopsAt low a e → StopsAt low (a ++ b) e
stops_before low a b (View e) s = tt
stops_before low a b (Bad page rule) s = judged_before low a b (page, rule) s
stops_before low a b Memory s = tt

-- a key that rises
pub stops_key : (low k n : ℕ) (ms : Marks ℕ Xad) (e : TreeError) → low ≤ k → StopsAt k ms e → StopsAt low (Key n k ∷ ms) e
stops_key low k n ms (View e) l s = tt
stops_key low k n ms (Bad page rule) l s = if_so (nat_le low k) (judge xt_scale k ms) (Err (n, rules.Order)) (le-leb low k l) ∙ s
stops_key low k n ms Memory l s = tt

pub key_stops : (k n : ℕ) (ms : Marks ℕ Xad) (e : TreeError) → StopsAt k (Key n k ∷ ms) e → StopsAt k ms e
key_stops k n ms (View e) s = tt
key_stops k n ms (Bad page rule) s = sym (if_so (nat_le k k) (judge xt_scale k ms) (Err (n, rules.Order)) (le-leb k k (omega arith))) ∙ s
key_stops k n ms Memory s = tt

-- what rises breaks no rule
pub rises_judged : (low : ℕ) (ms : Marks ℕ Xad) (high : ℕ) → Rises xt_scale low ms (Some high) → judge xt_scale low ms ≡ Ok (rows_of ms)
rises_judged low ms high r = judges xt_scale low ms (rises_higher xt_scale order low ms high None tt r)

pub not_judged : (low : ℕ) (ms : Marks ℕ Xad) (f : ℕ × Rule) → Rises xt_scale low ms None → judge xt_scale low ms ≡ Err f → ⊥
not_judged low ms f r j = no_list (rows_of ms) f (sym (judges xt_scale low ms r) ∙ j)
  where
    no_list : (xs : List Xad) (f : ℕ × Rule) → Ok xs ≡ Err f → ⊥
    no_list xs f h = cc

-- ---- the extents of a leaf

pub leaf_rises : (low n : ℕ) (es : List Xad) → rises_from low es ≡ true → Rises xt_scale low (map (Row n) es) (Some (place_after low (map (Row n) es)))
leaf_rises low n [] r = le-leb low low (omega arith)
leaf_rises low n (e ∷ es) r = let t = rises_less low e es r in (le-leb low e.offset t.0, leaf_rises (end_of e) n es t.1)

fits_low : (key offset : ℕ) → (key == 0 || key == offset) ≡ true → key ≤ offset
fits_low key offset e = grind (arith, nat_tests)

pub rises_key : (key : ℕ) (e : Xad) (es : List Xad) → xt_scale.fits key e ≡ true → rises_from 0 (e ∷ es) ≡ true → rises_from key (e ∷ es) ≡ true
rises_key key e es f r = let t = rises_less 0 e es r in rises_more key e es (fits_low key e.offset f) t.1

leaf_after : (low page : ℕ) (bytes : List ℕ) (p n i : ℕ) → i ≡ p + n → place_after low (map (Row page) (entries_from bytes p (suc n))) ≡ end_of (entry_of bytes i)
leaf_after low page bytes p zero i e = ap (λ j. end_of (entry_of bytes j)) (let h : p ≡ i = omega (arith, e) in h)
leaf_after low page bytes p (suc n) i e = leaf_after (end_of (entry_of bytes p)) page bytes (suc p) n i (omega (arith, e))

-- behind its last extent
pub leaf_ends : (low page : ℕ) (bytes : List ℕ) (i : ℕ) → i ≡ count_of bytes - 1 → 0 < count_of bytes → end_of (entry_of bytes i) ≡ place_after low (map (Row page) (entries_of bytes))
leaf_ends low page bytes i e l =
    sym (leaf_after low page bytes 0 i i (omega arith)) ∙ ap (λ n. place_after low (map (Row page) (entries_from bytes 0 n))) (let h : suc i ≡ count_of bytes = omega (arith, e, l) in h)

-- ---- pages by counting

pub count-append : (n : ℕ) (a b : List ℕ) → count_in n (a ++ b) ≡ count_in n a + count_in n b
count-append n [] b = omega arith
count-append n (m ∷ a) b = let h = count-append n a b in omega (arith, h)

pub count_pages : (n : ℕ) (ms : Marks ℕ Xad) → count_in n (pages_in ms) ≡ times n ms
count_pages n [] = refl
count_pages n (Page m ∷ ms) = ap (λ k. (if m == n then 1 else 0) + k) (count_pages n ms)
count_pages n (Key m k ∷ ms) = count_pages n ms
count_pages n (Row m e ∷ ms) = count_pages n ms
count_pages n (Fault m r ∷ ms) = count_pages n ms

zero_or : (n : ℕ) → (n ≡ 0) ⊎ (0 < n)
zero_or zero = inl refl
zero_or (suc n) = inr (omega arith)

-- ---- the first extent below a page

starts_same : (nodes : ℕ → Node ℕ Xad) (l m : ℕ) (node : Node ℕ Xad) (x y : Xad) → ((p : ℕ) → Starts nodes l p x → Starts nodes m p y → (l ≡ m) × (x ≡ y))
    → StartsBelow (Starts nodes l) l node x → StartsBelow (Starts nodes m) m node y → (l ≡ m) × (x ≡ y)
starts_same nodes l m (Leaf []) x y h a b = absurd a
starts_same nodes l m (Leaf (e ∷ es)) x y h a b = (a.0 ∙ sym b.0, a.1 ∙ sym b.1)
starts_same nodes l m (Inner []) x y h a b = absurd a
starts_same nodes l m (Inner (c ∷ cs)) x y h a b = h c.page a b
starts_same nodes l m (Broken rule) x y h a b = absurd a

-- it is one, on one level
pub starts_once : (nodes : ℕ → Node ℕ Xad) (l m page : ℕ) (x y : Xad) → Starts nodes l page x → Starts nodes m page y → (l ≡ m) × (x ≡ y)
starts_once nodes zero m page x y a b = absurd a
starts_once nodes (suc l) zero page x y a b = absurd b
starts_once nodes (suc l) (suc m) page x y a b =
    let t = starts_same nodes l m (nodes page) x y (λ p. starts_once nodes l m p x y) a b in (ap (λ n. suc n) t.0, t.1)

start_node : (nodes : ℕ → Node ℕ Xad) (below : ℕ) (c : Child ℕ) (low high : ℕ) (node : Node ℕ Xad) → low ≤ c.key
    → ((d : Child ℕ) (from to : ℕ) → Rises xt_scale from (walk xt_scale nodes below d) (Some to) → (x : Xad) × Starts nodes below d.page x × (from ≤ x.offset) × (end_of x ≤ to))
    → Rises xt_scale c.key (body (walk xt_scale nodes below) c (placed xt_scale below c.key node)) (Some high) → (x : Xad) × StartsBelow (Starts nodes below) below node x × (low ≤ x.offset) × (end_of x ≤ high)
start_node nodes zero c low high (Leaf []) l h r = absurd r
start_node nodes zero c low high (Leaf (e ∷ es)) l h r = by (xt_scale.fits c.key e) r
  where
    by : (b : Bool) → Rises xt_scale c.key (body (walk xt_scale nodes zero) c (if b then Leaf (e ∷ es) else Broken rules.Order)) (Some high)
        → (x : Xad) × StartsBelow (Starts nodes zero) zero (Leaf (e ∷ es)) x × (low ≤ x.offset) × (end_of x ≤ high)
    by true r =
        let a = leb-true c.key e.offset r.0 in let b = leb-true (end_of e) high (rises_up xt_scale order (end_of e) (map (Row c.page) es) high r.1) in
        (e, (refl, refl), omega (arith, a, l), b)
    by false r = absurd r
start_node nodes zero c low high (Inner cs) l h r = absurd r
start_node nodes zero c low high (Broken rule) l h r = absurd r
start_node nodes (suc b) c low high (Leaf es) l h r = absurd r
start_node nodes (suc b) c low high (Inner []) l h r = absurd r
start_node nodes (suc b) c low high (Inner (d ∷ ds)) l h r =
    let f = walk xt_scale nodes (suc b) in
    let t = rises_cut xt_scale order c.key (f (record { key = c.key; page = d.page })) (flat_map f ds) (Some high) r in
    let s = h (record { key = c.key; page = d.page }) c.key t.0 t.1 in
    let u = leb-true t.0 high (rises_up xt_scale order t.0 (flat_map f ds) high t.2) in
    let a = s.2 in let b = s.3 in
    (s.0, s.1, omega (arith, a, l), omega (arith, b, u))
start_node nodes (suc b) c low high (Broken rule) l h r = absurd r

pub start_of : (nodes : ℕ → Node ℕ Xad) (levels : ℕ) (c : Child ℕ) (low high : ℕ) → Rises xt_scale low (walk xt_scale nodes levels c) (Some high) → (x : Xad) × Starts nodes levels c.page x × (low ≤ x.offset) × (end_of x ≤ high)
unfolding walk
start_of nodes zero c low high r = absurd r
start_of nodes (suc below) c low high r = start_node nodes below c low high (nodes c.page) (leb-true low c.key r.0) (start_of nodes below) r.1

-- ---- the pages in what rises

abbrev Within : (ℕ → Node ℕ Xad) → ℕ → ℕ → ℕ → Type 0
Within nodes n low high = (levels : ℕ) × (x : Xad) × Starts nodes levels n x × (low ≤ x.offset) × (end_of x ≤ high)

wider : (nodes : ℕ → Node ℕ Xad) (n low mid top high : ℕ) → low ≤ mid → top ≤ high → Within nodes n mid top → Within nodes n low high
wider nodes n low mid top high l h w = let a = w.3 in let b = w.4 in (w.0, w.1, w.2, omega (arith, a, l), omega (arith, b, h))

within_list : (nodes : ℕ → Node ℕ Xad) (f : Child ℕ → Marks ℕ Xad) (n : ℕ) → ((d : Child ℕ) (from to : ℕ) → Rises xt_scale from (f d) (Some to) → 0 < times n (f d) → Within nodes n from to)
    → (cs : List (Child ℕ)) (low high : ℕ) → Rises xt_scale low (flat_map f cs) (Some high) → 0 < times n (flat_map f cs) → Within nodes n low high
within_list nodes f n h [] low high r t = absurd (let z = t in omega (arith, z))
within_list nodes f n h (c ∷ cs) low high r t =
    let p = rises_cut xt_scale order low (f c) (flat_map f cs) (Some high) r in
    let u = leb-true low p.0 (rises_up xt_scale order low (f c) p.0 p.1) in
    let v = leb-true p.0 high (rises_up xt_scale order p.0 (flat_map f cs) high p.2) in
    elim (zero_or (times n (f c))) [
      | inl z ↦ wider nodes n low p.0 high high u (omega arith) (within_list nodes f n h cs p.0 high p.2 (let e = times-append n (f c) (flat_map f cs) in omega (arith, e, z, t)))
      | inr s ↦ wider nodes n low low p.0 high (omega arith) v (h c low p.0 p.1 s)
    ]

within_node : (nodes : ℕ → Node ℕ Xad) (f : Child ℕ → Marks ℕ Xad) (n : ℕ) → ((d : Child ℕ) (from to : ℕ) → Rises xt_scale from (f d) (Some to) → 0 < times n (f d) → Within nodes n from to)
    → (c : Child ℕ) (node : Node ℕ Xad) (high : ℕ) → Rises xt_scale c.key (body f c node) (Some high) → 0 < times n (body f c node) → Within nodes n c.key high
within_node nodes f n h c (Leaf es) high r t = absurd (let z = times_leaf ℕ n c.page es in omega (arith, z, t))
within_node nodes f n h c (Inner cs) high r t = within_list nodes f n h (under c.key cs) c.key high r t
within_node nodes f n h c (Broken rule) high r t = absurd r

here_or : (A : Type 0) (page n rest : ℕ) → (page ≡ n → A) → (0 < rest → A) → 0 < (if page == n then 1 else 0) + rest → A
here_or A page n rest f g = by (page == n) refl
  where
    by : (b : Bool) → (page == n) ≡ b → 0 < (if b then 1 else 0) + rest → A
    by true e t = f (eqb-true page n e)
    by false e t = g (omega (arith, t))

within_walk : (nodes : ℕ → Node ℕ Xad) (levels : ℕ) (n : ℕ) (c : Child ℕ) (low high : ℕ) → Rises xt_scale low (walk xt_scale nodes levels c) (Some high) → 0 < times n (walk xt_scale nodes levels c) → Within nodes n low high
unfolding walk
within_walk nodes zero n c low high r t = absurd r
within_walk nodes (suc below) n c low high r t =
    let s = start_of nodes (suc below) c low high r in
    let B = body (walk xt_scale nodes below) c (placed xt_scale below c.key (nodes c.page)) in
    here_or (Within nodes n low high) c.page n (times n B) (λ e. (suc below, s.0, subst (λ p. Starts nodes (suc below) p s.0) e s.1, s.2, s.3))
    (λ p. wider nodes n low c.key high high (leb-true low c.key r.0) (omega arith) (within_node nodes (walk xt_scale nodes below) n (λ d from to. within_walk nodes below n d from to) c (placed xt_scale below c.key (nodes c.page)) high r.1 p)) t

pub spread_walk : (nodes : ℕ → Node ℕ Xad) (levels : ℕ) (c : Child ℕ) (low high : ℕ) → Rises xt_scale low (walk xt_scale nodes levels c) (Some high) → Spread nodes low high (λ n. times n (walk xt_scale nodes levels c))
spread_walk nodes levels c low high r n = (each_once xt_scale order nodes levels c low (Some high) r n, λ t. within_walk nodes levels n c low high r t)

pub spread_none : (nodes : ℕ → Node ℕ Xad) (low high : ℕ) (f : ℕ → ℕ) → ((n : ℕ) → f n ≡ 0) → Spread nodes low high f
spread_none nodes low high f z n = let e = z n in (omega (arith, e), λ t. absurd (omega (arith, e, t)))

pub spread_same : (nodes : ℕ → Node ℕ Xad) (low high : ℕ) (f g : ℕ → ℕ) → ((n : ℕ) → g n ≡ f n) → Spread nodes low high f → Spread nodes low high g
spread_same nodes low high f g same s n = let e = same n in let o = (s n).0 in (omega (arith, e, o), λ t. (s n).1 (omega (arith, e, t)))

pub spread_wider : (nodes : ℕ → Node ℕ Xad) (low mid high : ℕ) (f : ℕ → ℕ) → low ≤ mid → Spread nodes mid high f → Spread nodes low high f
spread_wider nodes low mid high f l s n = ((s n).0, λ t. wider nodes n low mid high high l (omega arith) ((s n).1 t))

-- a page stands on one side alone
apart : (nodes : ℕ → Node ℕ Xad) (n low mid high : ℕ) → Within nodes n low mid → Within nodes n mid high → ⊥
apart nodes n low mid high a b =
    let e = ap (λ (x : Xad). x.offset) (starts_once nodes a.0 b.0 n a.1 b.1 a.2 b.2).1 in
    let w = ends_after a.1 in let p = a.4 in let q = b.3 in omega (arith, e, w, p, q)

pub spread_join : (nodes : ℕ → Node ℕ Xad) (low mid high : ℕ) (f g h : ℕ → ℕ) → low ≤ mid → mid ≤ high → Spread nodes low mid f → Spread nodes mid high g → ((n : ℕ) → h n ≡ f n + g n) → Spread nodes low high h
spread_join nodes low mid high f g h l m a b sum n =
    let e = sum n in (
      elim (zero_or (f n)) [
        | inl z ↦ let o = (b n).0 in omega (arith, e, z, o)
        | inr s ↦ elim (zero_or (g n)) [
          | inl z ↦ let o = (a n).0 in omega (arith, e, z, o)
          | inr t ↦ absurd (apart nodes n low mid high ((a n).1 s) ((b n).1 t))
        ]
      ],
      λ p. elim (zero_or (f n)) [
        | inl z ↦ wider nodes n low mid high high l (omega arith) ((b n).1 (omega (arith, e, z, p)))
        | inr s ↦ wider nodes n low low mid high (omega arith) m ((a n).1 s)
      ],
    )

pub spread_list : (nodes : ℕ → Node ℕ Xad) (levels : ℕ) (cs : List (Child ℕ)) (low high : ℕ) → Rises xt_scale low (flat_map (walk xt_scale nodes levels) cs) (Some high) → Spread nodes low high (λ n. times n (flat_map (walk xt_scale nodes levels) cs))
spread_list nodes levels [] low high r = spread_none nodes low high (λ n. 0) (λ n. refl)
spread_list nodes levels (c ∷ cs) low high r =
    let f = walk xt_scale nodes levels in
    let p = rises_cut xt_scale order low (f c) (flat_map f cs) (Some high) r in
    spread_join nodes low p.0 high (λ n. times n (f c)) (λ n. times n (flat_map f cs)) (λ n. times n (f c ++ flat_map f cs)) (leb-true low p.0 (rises_up xt_scale order low (f c) p.0 p.1)) (leb-true p.0 high (rises_up xt_scale order p.0 (flat_map f cs) high p.2))
    (spread_walk nodes levels c low p.0 p.1) (spread_list nodes levels cs p.0 high p.2) (λ n. times-append n (f c) (flat_map f cs))
