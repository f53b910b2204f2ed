-- The pages of a tree are a closed set: with a page, all that it names.
use Rattle.std.proofs.Common.{◌≡◌, ◌<◌, ◌≤◌, ◌⊎◌, inl, inr, refl, sym, ap, ◌∙◌, subst, ℕ, zero, suc, ◌+◌, ◌==◌, if◌then◌else◌, Bool, true, false, List, [], ◌∷◌, map, Option, Some, None, Ok, arith}
use Rattle.std.specs.Prelude.{nat_lt, slice_get}
use Rattle.std.specs.List.{flat_map}
use Rattle.std.proofs.lemmas.Bool.Decides.{nat_tests}
use Rattle.std.proofs.lemmas.Bool.{true≢false, cases_eq, cases_lt, eq-eqb, ne_eqb}
use Rattle.jfs_bits.specs.declared.rule.Rule.TheVariants as rules
use Rattle.jfs_tree.specs.Walk.{Child, Node, Leaf, Inner, Broken, Page, Row, Marks, Scale, IsOrder, Rises, times, placed, under, body, walk}
use Rattle.jfs_tree.specs.Spells.{no_page, with_root, top, tree_of, spells, footprint}
use Rattle.jfs_tree.specs.Fresh.{AllPages, HasPages}
use Rattle.jfs_tree.specs.Linking.{IsChild, IsClosed}
use Rattle.jfs_tree.proofs.Frame.{times-append}
use Rattle.jfs_tree.proofs.Rising.{rises_cut}
use Rattle.jfs_tree.proofs.Spelled.{stands}

-- ---- below a page

no_rows : (P : Type 0) {E : Type 0} (n p : ℕ) (es : List E) → times {P = P} n (map (Row p) es) ≡ 0
no_rows P n p [] = refl
no_rows P n p (e ∷ es) = no_rows P n p es

-- a part that is met below one of these children makes another one be met there
kids_met : {P E : Type 0} (s : Scale P E) → IsOrder s → (m n : ℕ) (f : Child P → Marks P E) (cs : List (Child P)) (low : P) (high : Option P) → Rises s low (flat_map f cs) high → 0 < times m (flat_map f cs)
    → ((d : Child P) (low : P) (high : Option P) → Rises s low (f d) high → 0 < times m (f d) → 0 < times n (f d)) → 0 < times n (flat_map f cs)
kids_met s o m n f [] low high r t h = absurd (omega (arith, t))
kids_met s o m n f (c ∷ cs) low high r t h =
    let k = rises_cut s o low (f c) (flat_map f cs) high r in
    let a = times-append m (f c) (flat_map f cs) in
    let b = times-append n (f c) (flat_map f cs) in
    elim (cases_lt 0 (times m (f c))) [
      | inl l ↦ (let i = h c low (Some k.0) k.1 l in omega (arith, b, i))
      | inr l ↦ (let i = kids_met s o m n f cs k.0 high k.2 (omega (arith, a, l, t)) h in omega (arith, b, i))
    ]

-- each child is met
child_met : {P E : Type 0} (s : Scale P E) → IsOrder s → (f : Child P → Marks P E) (cs : List (Child P)) (i : ℕ) (c : Child P) (low : P) (high : Option P) → Rises s low (flat_map f cs) high → slice_get cs i ≡ Some c
    → ((d : Child P) (low : P) (high : Option P) → Rises s low (f d) high → 0 < times d.page (f d)) → 0 < times c.page (flat_map f cs)
child_met s o f [] i c low high r is h = absurd cc
child_met {P} s o f (d ∷ ds) zero c low high r is h =
    let k = rises_cut s o low (f d) (flat_map f ds) high r in
    let b = times-append c.page (f d) (flat_map f ds) in
    let i = subst (λ e. 0 < times e.page (f d)) (some_same d c is) (h d low (Some k.0) k.1) in omega (arith, b, i)
  where
    some_same : (a b : Child P) → Some a ≡ Some b → a ≡ b
    some_same a b e = cc
child_met s o f (d ∷ ds) (suc i) c low high r is h =
    let k = rises_cut s o low (f d) (flat_map f ds) high r in
    let b = times-append c.page (f d) (flat_map f ds) in
    let t = child_met s o f ds i c k.0 high k.2 is h in omega (arith, b, t)

-- the key of the first one is another, and its page the same
under_get : {P : Type 0} (key : P) (cs : List (Child P)) (i : ℕ) (c : Child P) → slice_get cs i ≡ Some c → (d : Child P) × (slice_get (under key cs) i ≡ Some d) × (d.page ≡ c.page)
under_get key [] i c is = absurd cc
under_get {P} key (d ∷ ds) zero c is = (record { key = key; page = d.page }, refl, ap (λ (e : Child P). e.page) (some_same d c is))
  where
    some_same : (a b : Child P) → Some a ≡ Some b → a ≡ b
    some_same a b e = cc
under_get key (d ∷ ds) (suc i) c is = (c, is, refl)

itself_met : {P E : Type 0} (n p : ℕ) (ms : Marks P E) → p ≡ n → 0 < times n (Page p ∷ ms)
itself_met n p ms is = subst (λ b. 0 < (if b then 1 else 0) + times n ms) (sym (eq-eqb p n is)) (omega arith)

walk_itself : {P E : Type 0} (s : Scale P E) (nodes : ℕ → Node P E) (levels : ℕ) (c : Child P) (low : P) (high : Option P) → Rises s low (walk s nodes levels c) high → 0 < times c.page (walk s nodes levels c)
unfolding walk
walk_itself s nodes zero c low high r = absurd r
walk_itself s nodes (suc below) c low high r = itself_met c.page c.page (body (walk s nodes below) c (placed s below c.key (nodes c.page))) refl

-- what a page names is met below it
body_child : {P E : Type 0} (s : Scale P E) → IsOrder s → (nodes : ℕ → Node P E) (below : ℕ) (c : Child P) (node : Node P E) (n : ℕ) (low : P) (high : Option P)
    → Rises s low (body (walk s nodes below) c (placed s below c.key node)) high → IsChild node n → 0 < times n (body (walk s nodes below) c (placed s below c.key node))
body_child {P} s o nodes below c (Leaf es) n low high r (i, d, is, page) = absurd (none i d is)
  where
    none : (i : ℕ) (d : Child P) → slice_get [] i ≡ Some d → ⊥
    none i d is = cc
body_child s o nodes zero c (Inner cs) n low high r child = absurd r
body_child s o nodes (suc below) c (Inner []) n low high r child = absurd r
body_child s o nodes (suc below) c (Inner (d ∷ ds)) n low high r (i, e, is, page) =
    let u = under_get c.key (d ∷ ds) i e is in
    subst (λ m. 0 < times m (flat_map (walk s nodes (suc below)) (under c.key (d ∷ ds)))) (u.2 ∙ page)
    (child_met s o (walk s nodes (suc below)) (under c.key (d ∷ ds)) i u.0 low high r u.1 (walk_itself s nodes (suc below)))
body_child {P} s o nodes below c (Broken rule) n low high r (i, d, is, page) = absurd (none i d is)
  where
    none : (i : ℕ) (d : Child P) → slice_get [] i ≡ Some d → ⊥
    none i d is = cc

-- and what is met there makes all that it names be met
body_met : {P E : Type 0} (s : Scale P E) → IsOrder s → (m n : ℕ) (f : Child P → Marks P E) (below : ℕ) (c : Child P) (node : Node P E) (low : P) (high : Option P) → Rises s low (body f c (placed s below c.key node)) high → 0 < times m (body f c (placed s below c.key node))
    → ((d : Child P) (low : P) (high : Option P) → Rises s low (f d) high → 0 < times m (f d) → 0 < times n (f d)) → 0 < times n (body f c (placed s below c.key node))
body_met {P} s o m n f zero c (Leaf []) low high r t h = absurd r
body_met {P} s o m n f zero c (Leaf (e ∷ es)) low high r t h = absurd (by (s.fits c.key e) r t)
  where
    by : (b : Bool) → Rises s low (body f c (if b then Leaf (e ∷ es) else Broken rules.Order)) high → 0 < times m (body f c (if b then Leaf (e ∷ es) else Broken rules.Order)) → ⊥
    by true r t = let z = no_rows P m c.page (e ∷ es) in omega (arith, z, t)
    by false r t = r
body_met s o m n f zero c (Inner cs) low high r t h = absurd r
body_met s o m n f zero c (Broken rule) low high r t h = absurd r
body_met s o m n f (suc below) c (Leaf es) low high r t h = absurd r
body_met s o m n f (suc below) c (Inner []) low high r t h = absurd r
body_met s o m n f (suc below) c (Inner (d ∷ ds)) low high r t h = kids_met s o m n f (under c.key (d ∷ ds)) low high r t h
body_met s o m n f (suc below) c (Broken rule) low high r t h = absurd r

more_met : {P E : Type 0} (n p : ℕ) (ms : Marks P E) → 0 < times n ms → 0 < times n (Page p ∷ ms)
more_met n p ms t = by (p == n)
  where
    by : (b : Bool) → 0 < (if b then 1 else 0) + times n ms
    by true = omega arith
    by false = omega (arith, t)

page_or : {P E : Type 0} (n p : ℕ) (ms : Marks P E) → 0 < times n (Page p ∷ ms) → (p ≡ n) ⊎ (0 < times n ms)
page_or n p ms t = elim (cases_eq p n) [ inl e ↦ inl e | inr other ↦ inr (subst (λ b. 0 < (if b then 1 else 0) + times n ms → 0 < times n ms) (sym (ne_eqb p n other)) (λ h. omega (arith, h)) t) ]

pub walk_met : {P E : Type 0} (s : Scale P E) → IsOrder s → (nodes : ℕ → Node P E) (m n levels : ℕ) (c : Child P) (low : P) (high : Option P) → Rises s low (walk s nodes levels c) high → IsChild (nodes m) n → 0 < times m (walk s nodes levels c) → 0 < times n (walk s nodes levels c)
unfolding walk
walk_met s o nodes m n zero c low high r child t = absurd r
walk_met s o nodes m n (suc below) c low high r child t =
    let ms = body (walk s nodes below) c (placed s below c.key (nodes c.page)) in
    more_met n c.page ms (elim (page_or m c.page ms t) [
      | inl is ↦ body_child s o nodes below c (nodes c.page) n c.key high r.1 (subst (λ k. IsChild (nodes k) n) (sym is) child)
      | inr l ↦ body_met s o m n (walk s nodes below) below c (nodes c.page) c.key high r.1 l (λ d low high rr tt. walk_met s o nodes m n below d low high rr child tt)
    ])

-- ---- a whole tree

-- whether a page is met below the root
abbrev pub owns : {P E : Type 0} → Scale P E → (ℕ → Node P E) → Node P E → ℕ → Bool
owns s pages root n = nat_lt 0 (footprint s pages root n)

lt_true : (n : ℕ) → 0 < n → nat_lt 0 n ≡ true
lt_true n l = grind (arith, nat_tests, l)

lt_some : (n : ℕ) → nat_lt 0 n ≡ true → 0 < n
lt_some n e = grind (arith, nat_tests)

pub owns_not : {P E : Type 0} (s : Scale P E) (pages : ℕ → Node P E) (root : Node P E) (n : ℕ) → footprint s pages root n ≡ 0 → owns s pages root n ≡ false
owns_not s pages root n z = rw z refl

child_below : {P E : Type 0} (bound : ℕ) (node : Node P E) (n : ℕ) → HasPages bound node → IsChild node n → n < bound
child_below {P} bound (Leaf es) n has (i, c, is, page) = absurd (none i c is)
  where
    none : (i : ℕ) (d : Child P) → slice_get [] i ≡ Some d → ⊥
    none i d is = cc
child_below {P} bound (Inner cs) n has (i, c, is, page) = subst (λ m. m < bound) page (among cs i (has cs refl) is)
  where
    some_same : (a b : Child P) → Some a ≡ Some b → a ≡ b
    some_same a b e = cc

    among : (cs : List (Child P)) (i : ℕ) → AllPages bound cs → slice_get cs i ≡ Some c → c.page < bound
    among [] i all is = absurd cc
    among (d ∷ ds) zero all is = subst (λ e. e.page < bound) (some_same d c is) all.0
    among (d ∷ ds) (suc i) all is = among ds i all.1 is
child_below {P} bound (Broken rule) n has (i, c, is, page) = absurd (none i c is)
  where
    none : (i : ℕ) (d : Child P) → slice_get [] i ≡ Some d → ⊥
    none i d is = cc

-- a child of the root, or of a page of the tree, is a page of the tree
met_own : {P E : Type 0} (s : Scale P E) (pages : ℕ → Node P E) (root : Node P E) (n bound : ℕ) → n < bound → bound ≤ no_page → 0 < times n (tree_of s pages root) → owns s pages root n ≡ true
unfolding footprint
met_own s pages root n bound l small t = lt_true (footprint s pages root n) (subst (λ b. 0 < (if b then 0 else times n (tree_of s pages root))) (sym (ne_eqb n no_page (λ e. omega (arith, e, l, small)))) t)

own_met : {P E : Type 0} (s : Scale P E) (pages : ℕ → Node P E) (root : Node P E) (n : ℕ) → owns s pages root n ≡ true → ((n == no_page) ≡ false) × (0 < times n (tree_of s pages root))
unfolding footprint
own_met s pages root n own = by (n == no_page) (lt_some (footprint s pages root n) own)
  where
    by : (b : Bool) → 0 < (if b then 0 else times n (tree_of s pages root)) → (b ≡ false) × (0 < times n (tree_of s pages root))
    by true t = absurd (omega (arith, t))
    by false t = (refl, t)

no_child : (P E : Type 0) (n : ℕ) → (let leaf : Node P E = Leaf [] in IsChild leaf n) → ⊥
no_child P E n (i, c, is, page) = none i c is
  where
    none : (i : ℕ) (d : Child P) → slice_get [] i ≡ Some d → ⊥
    none i d is = cc

pub owns_top : {P E : Type 0} (s : Scale P E) → IsOrder s → (pages : ℕ → Node P E) (root : Node P E) (es : List E) (bound : ℕ) → bound ≤ no_page → HasPages bound root → spells s pages root ≡ Ok es → (n : ℕ) → IsChild root n → owns s pages root n ≡ true
owns_top {P} {E} s o pages root es bound small has spelled n child = elim (stands s pages root es spelled) [
  | inl empty ↦ absurd (no_child P E n (subst (λ node. IsChild node n) empty.0 child))
  | inr st ↦
      met_own s pages root n bound (child_below bound root n has child) small
      (subst (λ ms. 0 < times n ms) (sym st.is)
      (walk_met s o (with_root root pages) no_page n st.levels (top s) s.least None st.rises child (walk_itself s (with_root root pages) st.levels (top s) s.least None st.rises)))
]

pub owns_closed : {P E : Type 0} (s : Scale P E) → IsOrder s → (pages : ℕ → Node P E) (root : Node P E) (es : List E) (bound : ℕ) → bound ≤ no_page → ((m : ℕ) → HasPages bound (pages m)) → spells s pages root ≡ Ok es → IsClosed pages (owns s pages root)
owns_closed {P} {E} s o pages root es bound small has spelled m n own child = elim (stands s pages root es spelled) [
  | inl empty ↦ absurd (leaf_none (own_met s pages root m own) (ap (tree_of s pages) empty.0))
  | inr st ↦
      let t = own_met s pages root m own in
      let there = subst (λ b. IsChild (if b then root else pages m) n) (sym t.0) child in
      met_own s pages root n bound (child_below bound (pages m) n (has m) child) small
      (subst (λ ms. 0 < times n ms) (sym st.is) (walk_met s o (with_root root pages) m n st.levels (top s) s.least None st.rises there (subst (λ ms. 0 < times m ms) st.is t.1)))
]
  where
    leaf_none : ((m == no_page) ≡ false) × (0 < times m (tree_of s pages root)) → tree_of s pages root ≡ Page no_page ∷ [] → ⊥
    leaf_none t is = elim (page_or {P = P} {E = E} m no_page [] (subst (λ ms. 0 < times m ms) is t.1)) [
      | inl e ↦ true≢false (sym (eq-eqb m no_page (sym e)) ∙ t.0)
      | inr l ↦ omega (arith, l)
    ]
