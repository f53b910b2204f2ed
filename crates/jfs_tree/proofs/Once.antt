-- In a tree that rises no page stands twice.
use Rattle.std.proofs.Common.{◌≡◌, ◌≤◌, ◌<◌, ◌⊎◌, inl, inr, refl, sym, ◌∙◌, subst, ℕ, zero, suc, ◌+◌, Bool, true, false, ◌&&◌, List, [], ◌∷◌, ◌++◌, map, ◌==◌, if◌then◌else◌, Option, arith}
use Rattle.std.specs.Bool.{⊤}
use Rattle.std.specs.List.{flat_map}
use Rattle.std.proofs.lemmas.Bool.{true≢false, eqb-true}
use Rattle.jfs_tree.specs.Walk.{Child, Node, Leaf, Inner, Broken, Mark, Page, Key, Row, Fault, Marks, Scale, Rises, IsOrder, times, placed, under, body, walk}
use Rattle.jfs_bits.specs.declared.rule.Rule.TheVariants as rules
use Rattle.jfs_tree.proofs.Frame.{times-append}
use Rattle.jfs_tree.proofs.Keys.{not_true}
use Rattle.jfs_tree.proofs.Leaves.{times_leaf}

-- no rule is broken
abbrev pub Clean : {P E : Type 0} → Marks P E → Type 0
Clean [] = ⊤
Clean (Page n ∷ ms) = Clean ms
Clean (Key n k ∷ ms) = Clean ms
Clean (Row n e ∷ ms) = Clean ms
Clean (Fault n r ∷ ms) = ⊥

pub clean_rises : {P E : Type 0} (s : Scale P E) (low : P) (ms : Marks P E) (high : Option P) → Rises s low ms high → Clean ms
clean_rises s low [] high r = tt
clean_rises s low (Page n ∷ ms) high r = clean_rises s low ms high r
clean_rises s low (Key n k ∷ ms) high r = clean_rises s k ms high r.1
clean_rises s low (Row n e ∷ ms) high r = clean_rises s (s.to e) ms high r.1
clean_rises s low (Fault n f ∷ ms) high r = absurd r

clean_left : {P E : Type 0} (a b : Marks P E) → Clean (a ++ b) → Clean a
clean_left [] b h = tt
clean_left (Page n ∷ ms) b h = clean_left ms b h
clean_left (Key n k ∷ ms) b h = clean_left ms b h
clean_left (Row n e ∷ ms) b h = clean_left ms b h
clean_left (Fault n f ∷ ms) b h = absurd h

clean_right : {P E : Type 0} (a b : Marks P E) → Clean (a ++ b) → Clean b
clean_right [] b h = h
clean_right (Page n ∷ ms) b h = clean_right ms b h
clean_right (Key n k ∷ ms) b h = clean_right ms b h
clean_right (Row n e ∷ ms) b h = clean_right ms b h
clean_right (Fault n f ∷ ms) b h = absurd h

-- the entries that begin where one does
abbrev pub begins_with : {P E : Type 0} → Scale P E → E → E → Bool
begins_with s x e = s.le (s.from e) (s.from x) && s.le (s.from x) (s.from e)

abbrev pub times_row : {P E : Type 0} → Scale P E → E → Marks P E → ℕ
times_row s x [] = 0
times_row s x (Page n ∷ ms) = times_row s x ms
times_row s x (Key n k ∷ ms) = times_row s x ms
times_row s x (Row n e ∷ ms) = (if begins_with s x e then 1 else 0) + times_row s x ms
times_row s x (Fault n f ∷ ms) = times_row s x ms

times_row-append : {P E : Type 0} (s : Scale P E) (x : E) (a b : Marks P E) → times_row s x (a ++ b) ≡ times_row s x a + times_row s x b
times_row-append s x [] b = omega arith
times_row-append s x (Page n ∷ ms) b = times_row-append s x ms b
times_row-append s x (Key n k ∷ ms) b = times_row-append s x ms b
times_row-append s x (Row n e ∷ ms) b = let h = times_row-append s x ms b in omega (arith, h)
times_row-append s x (Fault n f ∷ ms) b = times_row-append s x ms b

if_none : (b : Bool) (n : ℕ) → (b ≡ true → ⊥) → n ≡ 0 → (if b then 1 else 0) + n ≡ 0
if_none true n h e = absurd (h refl)
if_none false n h e = omega (arith, e)

and_left : (a b : Bool) → (a && b) ≡ true → a ≡ true
and_left true b h = refl
and_left false b h = h

and_right : (a b : Bool) → (a && b) ≡ true → b ≡ true
and_right true b h = h
and_right false b h = absurd (true≢false (sym h))

-- past an entry's begin no entry begins with it
none_past : {P E : Type 0} (s : Scale P E) → IsOrder s → (x : E) (low : P) (ms : Marks P E) (high : Option P) → s.le low (s.from x) ≡ false → Rises s low ms high → times_row s x ms ≡ 0
none_past s o x low [] high h r = refl
none_past s o x low (Page n ∷ ms) high h r = none_past s o x low ms high h r
none_past s o x low (Key n k ∷ ms) high h r = none_past s o x k ms high (not_true (s.le k (s.from x)) (λ t. true≢false (sym (o.trans_le low k (s.from x) r.0 t) ∙ h))) r.1
none_past s o x low (Row n e ∷ ms) high h r =
    if_none (begins_with s x e) (times_row s x ms)
    (λ t. true≢false (sym (o.trans_le low (s.from e) (s.from x) r.0 (and_left (s.le (s.from e) (s.from x)) (s.le (s.from x) (s.from e)) t)) ∙ h))
    (none_past s o x (s.to e) ms high
    (not_true (s.le (s.to e) (s.from x)) (λ t. true≢false (sym (o.trans_le low (s.from e) (s.from x) r.0 (o.trans_le (s.from e) (s.to e) (s.from x) (o.span_le e) t)) ∙ h))) r.1)
none_past s o x low (Fault n f ∷ ms) high h r = absurd r

one_of : (b : Bool) (n : ℕ) → (b ≡ true → n ≡ 0) → n ≤ 1 → (if b then 1 else 0) + n ≤ 1
one_of true n h l = let e = h refl in omega (arith, e)
one_of false n h l = omega (arith, l)

once_row : {P E : Type 0} (s : Scale P E) → IsOrder s → (x : E) (low : P) (ms : Marks P E) (high : Option P) → Rises s low ms high → times_row s x ms ≤ 1
once_row s o x low [] high r = omega arith
once_row s o x low (Page n ∷ ms) high r = once_row s o x low ms high r
once_row s o x low (Key n k ∷ ms) high r = once_row s o x k ms high r.1
once_row s o x low (Row n e ∷ ms) high r =
    one_of (begins_with s x e) (times_row s x ms)
    (λ t. none_past s o x (s.to e) ms high (not_true (s.le (s.to e) (s.from x)) (λ u. true≢false (sym (o.trans_le (s.to e) (s.from x) (s.from e) u (and_right (s.le (s.from e) (s.from x)) (s.le (s.from x) (s.from e)) t)) ∙ o.takes_place e))) r.1)
    (once_row s o x (s.to e) ms high r.1)
once_row s o x low (Fault n f ∷ ms) high r = absurd r

-- The weights of marks, added up; keys weigh nothing.
abbrev pub total : {P E : Type 0} → (Mark P E → ℕ) → Marks P E → ℕ
total w [] = 0
total w (m ∷ ms) = w m + total w ms

total-append : {P E : Type 0} (w : Mark P E → ℕ) (a b : Marks P E) → total w (a ++ b) ≡ total w a + total w b
total-append w [] b = omega arith
total-append w (m ∷ a) b = let h = total-append w a b in omega (arith, h)

weight_rows : {P E : Type 0} (w : Mark P E → ℕ) (page : ℕ) (f g : Child P → Marks P E) (s : Scale P E) (j k : P) (es : List E)
    → Clean (body f (record { key = j; page = page }) (placed s zero j (Leaf es))) → Clean (body g (record { key = k; page = page }) (placed s zero k (Leaf es)))
    → total w (body f (record { key = j; page = page }) (placed s zero j (Leaf es))) ≡ total w (body g (record { key = k; page = page }) (placed s zero k (Leaf es)))
weight_rows w page f g s j k [] a b = absurd a
weight_rows w page f g s j k (e ∷ es) a b = by (s.fits j e) (s.fits k e) a b
  where
    by : (p q : Bool) → Clean (body f (record { key = j; page = page }) (if p then Leaf (e ∷ es) else Broken rules.Order)) → Clean (body g (record { key = k; page = page }) (if q then Leaf (e ∷ es) else Broken rules.Order))
        → total w (body f (record { key = j; page = page }) (if p then Leaf (e ∷ es) else Broken rules.Order)) ≡ total w (body g (record { key = k; page = page }) (if q then Leaf (e ∷ es) else Broken rules.Order))
    by true true a b = refl
    by true false a b = absurd b
    by false q a b = absurd a

weight_children : {P E : Type 0} (w : Mark P E → ℕ) (f g : Child P → Marks P E)
    → ((page : ℕ) (j k : P) → Clean (f (record { key = j; page = page })) → Clean (g (record { key = k; page = page })) → total w (f (record { key = j; page = page })) ≡ total w (g (record { key = k; page = page })))
    → (cs : List (Child P)) → Clean (flat_map f cs) → Clean (flat_map g cs) → total w (flat_map f cs) ≡ total w (flat_map g cs)
weight_children w f g h [] a b = refl
weight_children w f g h (c ∷ cs) a b =
    let e = total-append w (f c) (flat_map f cs) in let e2 = total-append w (g c) (flat_map g cs) in
    let i = h c.page c.key c.key (clean_left (f c) (flat_map f cs) a) (clean_left (g c) (flat_map g cs) b) in
    let r = weight_children w f g h cs (clean_right (f c) (flat_map f cs) a) (clean_right (g c) (flat_map g cs) b) in
    omega (arith, e, e2, i, r)

weight_inner : {P E : Type 0} (w : Mark P E → ℕ) (page : ℕ) (f g : Child P → Marks P E) (j k : P)
    → ((page : ℕ) (j k : P) → Clean (f (record { key = j; page = page })) → Clean (g (record { key = k; page = page })) → total w (f (record { key = j; page = page })) ≡ total w (g (record { key = k; page = page })))
    → (d : Child P) (ds : List (Child P)) → Clean (flat_map f (under j (d ∷ ds))) → Clean (flat_map g (under k (d ∷ ds))) → total w (flat_map f (under j (d ∷ ds))) ≡ total w (flat_map g (under k (d ∷ ds)))
weight_inner {P} w page f g j k h d ds a b =
    let c : Child P = record { key = j; page = d.page } in let c2 : Child P = record { key = k; page = d.page } in
    let e = total-append w (f c) (flat_map f ds) in let e2 = total-append w (g c2) (flat_map g ds) in
    let i = h d.page j k (clean_left (f c) (flat_map f ds) a) (clean_left (g c2) (flat_map g ds) b) in
    let r = weight_children w f g h ds (clean_right (f c) (flat_map f ds) a) (clean_right (g c2) (flat_map g ds) b) in
    omega (arith, e, e2, i, r)

weight_body : {P E : Type 0} (w : Mark P E → ℕ) (page : ℕ) (f g : Child P → Marks P E) (s : Scale P E) (l m : ℕ) (j k : P)
    → ((page : ℕ) (j k : P) → Clean (f (record { key = j; page = page })) → Clean (g (record { key = k; page = page })) → total w (f (record { key = j; page = page })) ≡ total w (g (record { key = k; page = page })))
    → (node : Node P E) → Clean (body f (record { key = j; page = page }) (placed s l j node)) → Clean (body g (record { key = k; page = page }) (placed s m k node))
    → total w (body f (record { key = j; page = page }) (placed s l j node)) ≡ total w (body g (record { key = k; page = page }) (placed s m k node))
weight_body w page f g s zero zero j k h (Leaf es) a b = weight_rows w page f g s j k es a b
weight_body w page f g s zero zero j k h (Inner cs) a b = absurd a
weight_body w page f g s zero zero j k h (Broken r) a b = absurd a
weight_body w page f g s zero (suc m) j k h (Leaf es) a b = absurd b
weight_body w page f g s zero (suc m) j k h (Inner cs) a b = absurd a
weight_body w page f g s zero (suc m) j k h (Broken r) a b = absurd a
weight_body w page f g s (suc l) m j k h (Leaf es) a b = absurd a
weight_body w page f g s (suc l) m j k h (Broken r) a b = absurd a
weight_body w page f g s (suc l) m j k h (Inner []) a b = absurd a
weight_body w page f g s (suc l) zero j k h (Inner (d ∷ ds)) a b = absurd b
weight_body w page f g s (suc l) (suc m) j k h (Inner (d ∷ ds)) a b = weight_inner w page f g j k h d ds a b

-- two sound visits of a page weigh the same
same_weight : {P E : Type 0} (s : Scale P E) (w : Mark P E → ℕ) → ((n : ℕ) (k : P) → w (Key n k) ≡ 0) → (nodes : ℕ → Node P E) (l m page : ℕ) (j k : P)
    → Clean (walk s nodes l (record { key = j; page = page })) → Clean (walk s nodes m (record { key = k; page = page }))
    → total w (walk s nodes l (record { key = j; page = page })) ≡ total w (walk s nodes m (record { key = k; page = page }))
unfolding walk
same_weight s w z nodes zero m page j k a b = absurd a
same_weight s w z nodes (suc l) zero page j k a b = absurd b
same_weight s w z nodes (suc l) (suc m) page j k a b =
    let e = z page j in let f = z page k in
    let r = weight_body w page (walk s nodes l) (walk s nodes m) s l m j k (λ q i n. same_weight s w z nodes l m q i n) (nodes page) a b in
    omega (arith, e, f, r)

zero_or : (n : ℕ) → (n ≡ 0) ⊎ (0 < n)
zero_or zero = inl refl
zero_or (suc n) = inr (omega arith)

same_by : (a b : ℕ) (t : Bool) → (a == b) ≡ t → (a ≡ b) ⊎ ((a == b) ≡ false)
same_by a b true h = inl (eqb-true a b h)
same_by a b false h = inr h

same_or : (a b : ℕ) → (a ≡ b) ⊎ ((a == b) ≡ false)
same_or a b = same_by a b (a == b) refl

behind : (a b n : ℕ) → (a == b) ≡ false → 0 < (if a == b then 1 else 0) + n → 0 < n
behind a b n h t = grind arith

not_both : (n : ℕ) → n ≡ 0 → 0 < n → ⊥
not_both n h t = omega (arith, h, t)

both : (a : Bool) → a ≡ true → (a && a) ≡ true
both a h = grind arith

begins_itself : (b : Bool) (n : ℕ) → b ≡ true → 1 ≤ (if b then 1 else 0) + n
begins_itself true n h = omega arith
begins_itself false n h = absurd (true≢false (sym h))

-- a visit of a page in a part, which does not weigh more than the part
pub record Visit {P E : Type 0} (s : Scale P E) (nodes : ℕ → Node P E) (w : Mark P E → ℕ) (page : ℕ) (ms : Marks P E) : Type 0 where
  pub levels : ℕ
  pub key : P
  pub clean : Clean (walk s nodes levels (record { key = key; page = page }))
  pub light : total w (walk s nodes levels (record { key = key; page = page })) ≤ total w ms

wider : {P E : Type 0} (s : Scale P E) (nodes : ℕ → Node P E) (w : Mark P E → ℕ) (page : ℕ) (a b : Marks P E) → total w a ≤ total w b → Visit s nodes w page a → Visit s nodes w page b
wider s nodes w page a b h v = record { levels = v.levels; key = v.key; clean = v.clean; light = let l = v.light in omega (arith, l, h) }

-- some visit among children
among : {P E : Type 0} (s : Scale P E) (nodes : ℕ → Node P E) (w : Mark P E → ℕ) (levels page : ℕ)
    → ((c : Child P) → Clean (walk s nodes levels c) → 0 < times page (walk s nodes levels c) → Visit s nodes w page (walk s nodes levels c))
    → (cs : List (Child P)) → Clean (flat_map (walk s nodes levels) cs) → 0 < times page (flat_map (walk s nodes levels) cs) → Visit s nodes w page (flat_map (walk s nodes levels) cs)
among s nodes w levels page h [] k t = absurd (not_both 0 refl t)
among s nodes w levels page h (c ∷ cs) k t =
    let e = times-append page (walk s nodes levels c) (flat_map (walk s nodes levels) cs) in
    let f = total-append w (walk s nodes levels c) (flat_map (walk s nodes levels) cs) in
    elim (zero_or (times page (walk s nodes levels c))) [
      | inl z ↦ wider s nodes w page (flat_map (walk s nodes levels) cs) _ (omega (arith, f))
          (among s nodes w levels page h cs (clean_right (walk s nodes levels c) _ k) (omega (arith, e, z, t)))
      | inr p ↦ wider s nodes w page (walk s nodes levels c) _ (omega (arith, f)) (h c (clean_left (walk s nodes levels c) _ k) p)
    ]

in_body : {P E : Type 0} (s : Scale P E) (nodes : ℕ → Node P E) (w : Mark P E → ℕ) (levels page : ℕ)
    → ((c : Child P) → Clean (walk s nodes levels c) → 0 < times page (walk s nodes levels c) → Visit s nodes w page (walk s nodes levels c))
    → (c : Child P) (node : Node P E) → Clean (body (walk s nodes levels) c node) → 0 < times page (body (walk s nodes levels) c node) → Visit s nodes w page (body (walk s nodes levels) c node)
in_body {P} s nodes w levels page h c (Leaf es) k t = let z = times_leaf P page c.page es in absurd (not_both (times {P = P} page (map (Row c.page) es)) z t)
in_body s nodes w levels page h c (Inner cs) k t = among s nodes w levels page h (under c.key cs) k t
in_body s nodes w levels page h c (Broken r) k t = absurd k

visit_of : {P E : Type 0} (s : Scale P E) (nodes : ℕ → Node P E) (w : Mark P E → ℕ) (levels page : ℕ) (c : Child P) → Clean (walk s nodes levels c) → 0 < times page (walk s nodes levels c) → Visit s nodes w page (walk s nodes levels c)
unfolding walk
visit_of s nodes w zero page c k t = absurd k
visit_of s nodes w (suc levels) page c k t =
    let b = body (walk s nodes levels) c (placed s levels c.key (nodes c.page)) in
    elim (same_or c.page page) [
      | inl e ↦ subst (λ p. Visit s nodes w p (walk s nodes (suc levels) c)) e (record { levels = suc levels; key = c.key; clean = k; light = omega arith })
      | inr n ↦ wider s nodes w page b (walk s nodes (suc levels) c) (omega arith)
          (in_body s nodes w levels page (visit_of s nodes w levels page) c (placed s levels c.key (nodes c.page)) k (behind c.page page (times page b) n t))
    ]

weigh_page : {P E : Type 0} → ℕ → Mark P E → ℕ
weigh_page n (Page m) = if m == n then 1 else 0
weigh_page n (Key m k) = 0
weigh_page n (Row m e) = 0
weigh_page n (Fault m r) = 0

weigh_row : {P E : Type 0} → Scale P E → E → Mark P E → ℕ
weigh_row s x (Page m) = 0
weigh_row s x (Key m k) = 0
weigh_row s x (Row m e) = if begins_with s x e then 1 else 0
weigh_row s x (Fault m r) = 0

times_is : {P E : Type 0} (n : ℕ) (ms : Marks P E) → total (weigh_page n) ms ≡ times n ms
unfolding weigh_page
times_is n [] = refl
times_is n (Page m ∷ ms) = let h = times_is n ms in omega (arith, h)
times_is n (Key m k ∷ ms) = let h = times_is n ms in omega (arith, h)
times_is n (Row m e ∷ ms) = let h = times_is n ms in omega (arith, h)
times_is n (Fault m r ∷ ms) = let h = times_is n ms in omega (arith, h)

row_is : {P E : Type 0} (s : Scale P E) (x : E) (ms : Marks P E) → total (weigh_row s x) ms ≡ times_row s x ms
unfolding weigh_row
row_is s x [] = refl
row_is s x (Page m ∷ ms) = let h = row_is s x ms in omega (arith, h)
row_is s x (Key m k ∷ ms) = let h = row_is s x ms in omega (arith, h)
row_is s x (Row m e ∷ ms) = let h = row_is s x ms in omega (arith, h)
row_is s x (Fault m r ∷ ms) = let h = row_is s x ms in omega (arith, h)

row_in : {P E : Type 0} (s : Scale P E) → IsOrder s → (f : Child P → Marks P E) (c : Child P) (below : ℕ) (node : Node P E) → ((d : Child P) → Clean (f d) → (x : E) × (1 ≤ times_row s x (f d)))
    → Clean (body f c (placed s below c.key node)) → (x : E) × (1 ≤ times_row s x (body f c (placed s below c.key node)))
row_in s o f c zero (Leaf []) h k = absurd k
row_in {P} {E} s o f c zero (Leaf (e ∷ es)) h k = by (s.fits c.key e) k
  where
    by : (b : Bool) → Clean (body f c (if b then Leaf (e ∷ es) else Broken rules.Order)) → (x : E) × (1 ≤ times_row s x (body f c (if b then Leaf (e ∷ es) else Broken rules.Order)))
    by true k = (e, begins_itself (begins_with s e e) _ (both (s.le (s.from e) (s.from e)) (o.refl_le (s.from e))))
    by false k = absurd k
row_in s o f c zero (Inner cs) h k = absurd k
row_in s o f c zero (Broken r) h k = absurd k
row_in s o f c (suc below) (Leaf es) h k = absurd k
row_in s o f c (suc below) (Inner []) h k = absurd k
row_in s o f c (suc below) (Inner (d ∷ ds)) h k =
    let g = h (record { key = c.key; page = d.page }) (clean_left (f (record { key = c.key; page = d.page })) (flat_map f ds) k) in
    (g.0, let i = g.1 in let e = times_row-append s g.0 (f (record { key = c.key; page = d.page })) (flat_map f ds) in omega (arith, i, e))
row_in s o f c (suc below) (Broken r) h k = absurd k

-- each sound part has an entry
has_row : {P E : Type 0} (s : Scale P E) → IsOrder s → (nodes : ℕ → Node P E) (levels : ℕ) (c : Child P) → Clean (walk s nodes levels c) → (x : E) × (1 ≤ times_row s x (walk s nodes levels c))
unfolding walk
has_row s o nodes zero c k = absurd k
has_row s o nodes (suc levels) c k = row_in s o (walk s nodes levels) c levels (nodes c.page) (has_row s o nodes levels) k

weigh_key : {P : Type 0} (E : Type 0) (page n : ℕ) (k : P) → weigh_page {P = P} {E = E} page (Key n k) ≡ 0
unfolding weigh_page
weigh_key E page n k = refl

row_key : {P E : Type 0} (s : Scale P E) (x : E) (n : ℕ) (k : P) → weigh_row s x (Key n k) ≡ 0
unfolding weigh_row
row_key s x n k = refl

one_itself : (n m : ℕ) → m ≡ 0 → (if n == n then 1 else 0) + m ≡ 1
one_itself n m h = grind arith

too_heavy : (n b tw tb tv : ℕ) → tw ≡ (if n == n then 1 else 0) + b → tb ≡ b → tw ≡ tv → tv ≤ tb → ⊥
too_heavy n b tw tb tv h i j k = grind arith

other_page : (a b n m : ℕ) → (a == b) ≡ false → n ≤ m → (if a == b then 1 else 0) + n ≤ m
other_page a b n m h l = grind arith

-- a page does not stand below itself
no_self : {P E : Type 0} (s : Scale P E) (nodes : ℕ → Node P E) (levels page : ℕ) (key : P) → Clean (walk s nodes (suc levels) (record { key = key; page = page }))
    → times page (walk s nodes (suc levels) (record { key = key; page = page })) ≡ 1
unfolding walk
no_self {P} {E} s nodes levels page key k =
    let c : Child P = record { key = key; page = page } in
    let w : Mark P E → ℕ = weigh_page page in
    let b = body (walk s nodes levels) c (placed s levels key (nodes page)) in
    elim (zero_or (times page b)) [
      | inl z ↦ one_itself page (times page b) z
      | inr t ↦ let v = in_body s nodes w levels page (visit_of s nodes w levels page) c (placed s levels key (nodes page)) k t in
          let e = same_weight s w (λ n l. weigh_key E page n l) nodes (suc levels) v.levels page key v.key k v.clean in
          let f = times_is page (walk s nodes (suc levels) c) in let g = times_is page b in let l = v.light in
          absurd (too_heavy page (times page b) _ _ _ f g e l)
    ]

by_rows : {P E : Type 0} (s : Scale P E) (x : E) (nodes : ℕ → Node P E) (levels page : ℕ)
    → ((c : Child P) → Clean (walk s nodes levels c) → times page (walk s nodes levels c) ≤ times_row s x (walk s nodes levels c))
    → (cs : List (Child P)) → Clean (flat_map (walk s nodes levels) cs) → times page (flat_map (walk s nodes levels) cs) ≤ times_row s x (flat_map (walk s nodes levels) cs)
by_rows s x nodes levels page h [] k = omega arith
by_rows s x nodes levels page h (c ∷ cs) k =
    let a = h c (clean_left (walk s nodes levels c) (flat_map (walk s nodes levels) cs) k) in
    let b = by_rows s x nodes levels page h cs (clean_right (walk s nodes levels c) (flat_map (walk s nodes levels) cs) k) in
    let e = times-append page (walk s nodes levels c) (flat_map (walk s nodes levels) cs) in
    let f = times_row-append s x (walk s nodes levels c) (flat_map (walk s nodes levels) cs) in omega (arith, a, b, e, f)

body_rows : {P E : Type 0} (s : Scale P E) (x : E) (nodes : ℕ → Node P E) (levels page : ℕ)
    → ((c : Child P) → Clean (walk s nodes levels c) → times page (walk s nodes levels c) ≤ times_row s x (walk s nodes levels c))
    → (c : Child P) (node : Node P E) → Clean (body (walk s nodes levels) c node) → times page (body (walk s nodes levels) c node) ≤ times_row s x (body (walk s nodes levels) c node)
body_rows {P} s x nodes levels page h c (Leaf es) k = let z = times_leaf P page c.page es in omega (arith, z)
body_rows s x nodes levels page h c (Inner cs) k = by_rows s x nodes levels page h (under c.key cs) k
body_rows s x nodes levels page h c (Broken r) k = absurd k

as_rows : {P E : Type 0} (s : Scale P E) (x : E) (nodes : ℕ → Node P E) (page : ℕ)
    → ((m : ℕ) (k : P) → Clean (walk s nodes m (record { key = k; page = page })) → 1 ≤ times_row s x (walk s nodes m (record { key = k; page = page })))
    → (levels : ℕ) (c : Child P) → Clean (walk s nodes levels c) → times page (walk s nodes levels c) ≤ times_row s x (walk s nodes levels c)
unfolding walk
as_rows s x nodes page h zero c k = absurd k
as_rows {P} s x nodes page h (suc levels) c k =
    let b = body_rows s x nodes levels page (as_rows s x nodes page h levels) c (placed s levels c.key (nodes c.page)) k in
    elim (same_or c.page page) [
      | inl e ↦ subst (λ p. times p (walk s nodes (suc levels) c) ≤ times_row s x (walk s nodes (suc levels) c)) e
          (let n = no_self s nodes levels c.page c.key k in let r = subst (λ p. (m : ℕ) (k : P) → Clean (walk s nodes m (record { key = k; page = p })) → 1 ≤ times_row s x (walk s nodes m (record { key = k; page = p }))) (sym e) h (suc levels) c.key k in omega (arith, n, r))
      | inr n ↦ other_page c.page page (times page (body (walk s nodes levels) c (placed s levels c.key (nodes c.page)))) _ n b
    ]

-- In what rises no page stands twice.
pub each_once : {P E : Type 0} (s : Scale P E) → IsOrder s → (nodes : ℕ → Node P E) (levels : ℕ) (c : Child P) (low : P) (high : Option P)
    → Rises s low (walk s nodes levels c) high → (page : ℕ) → times page (walk s nodes levels c) ≤ 1
each_once {P} {E} s o nodes levels c low high r page =
    let k = clean_rises s low (walk s nodes levels c) high r in
    elim (zero_or (times page (walk s nodes levels c))) [
      | inl z ↦ omega (arith, z)
      | inr t ↦
          let v = visit_of s nodes (weigh_page page) levels page c k t in
          let x = has_row s o nodes v.levels (record { key = v.key; page = page }) v.clean in
          let all : (m : ℕ) (j : P) → Clean (walk s nodes m (record { key = j; page = page })) → 1 ≤ times_row s x.0 (walk s nodes m (record { key = j; page = page })) =
          λ m j d. let e = same_weight s (weigh_row s x.0) (λ n l. row_key s x.0 n l) nodes m v.levels page j v.key d v.clean in
          let f = row_is s x.0 (walk s nodes m (record { key = j; page = page })) in
          let g = row_is s x.0 (walk s nodes v.levels (record { key = v.key; page = page })) in let i = x.1 in omega (arith, e, f, g, i) in
          let a = as_rows s x.0 nodes page all levels c k in
          let b = once_row s o x.0 low (walk s nodes levels c) high r in omega (arith, a, b)
    ]
