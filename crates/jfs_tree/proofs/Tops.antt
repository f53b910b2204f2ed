-- The root of a tree, beside the pages below it.
use Rattle.std.proofs.Common.{◌≡◌, ◌≢◌, ◌≤◌, ◌<◌, ◌⊎◌, inl, inr, refl, sym, ap, ◌∙◌, subst, ℕ, zero, suc, ◌+◌, Bool, true, false, List, [], ◌∷◌, ◌++◌, map, ◌==◌, if◌then◌else◌, Option, Some, None, arith}
use Rattle.std.specs.List.{flat_map}
use Rattle.std.proofs.lemmas.Bool.{eqb-true}
use Rattle.jfs_bits.specs.declared.rule.Rule.TheVariants as rules
use Rattle.jfs_tree.specs.Walk.{Child, Node, Leaf, Inner, Broken, Page, Key, Row, Fault, Marks, Scale, Rises, IsOrder, rows_of, times, placed, body, walk}
use Rattle.jfs_tree.specs.Spells.{no_page, with_root, top, tree_of, footprint}
use Rattle.jfs_tree.specs.Edit.{Clear, IsApart, Ready, Took, Added, count_in, bound}
use Rattle.jfs_tree.specs.Form.{AllBelow}
use Rattle.jfs_tree.specs.Root.{IsSpare, Adds}
use Rattle.jfs_tree.proofs.Rising.{rises_cut}
use Rattle.jfs_tree.proofs.Steps.{untouched}
use Rattle.jfs_tree.proofs.Spelled.{tree_rises, spelled}
use Rattle.jfs_tree.proofs.Frame.{rows-append, frame}
use Rattle.jfs_tree.proofs.Once.{each_once}

clear_join : {P E : Type 0} (s : Scale P E) (x : E) (a b : Marks P E) → Clear s x a → Clear s x b → Clear s x (a ++ b)
clear_join s x [] b h i = i
clear_join s x (Page n ∷ ms) b h i = clear_join s x ms b h i
clear_join s x (Key n k ∷ ms) b h i = (h.0, clear_join s x ms b h.1 i)
clear_join s x (Row n e ∷ ms) b h i = (h.0, clear_join s x ms b h.1 i)
clear_join s x (Fault n f ∷ ms) b h i = clear_join s x ms b h i

apart_left : {P E : Type 0} (s : Scale P E) (x : E) (a b : List E) → IsApart s x (a ++ b) → IsApart s x a
apart_left s x [] b h = tt
apart_left s x (e ∷ a) b h = (h.0, apart_left s x a b h.1)

apart_right : {P E : Type 0} (s : Scale P E) (x : E) (a b : List E) → IsApart s x (a ++ b) → IsApart s x b
apart_right s x [] b h = h
apart_right s x (e ∷ a) b h = apart_right s x a b h.1

clear_rows : {P E : Type 0} (s : Scale P E) (x : E) (n : ℕ) (es : List E) → IsApart s x (rows_of {P = P} (map (Row n) es)) → Clear s x (map (Row n) es)
clear_rows s x n [] h = tt
clear_rows s x n (e ∷ es) h = (h.0, clear_rows s x n es h.1)

abbrev pub KeyClear : {P E : Type 0} → Scale P E → E → P → Type 0
KeyClear s x k = (s.le k (s.from x) ≡ true) ⊎ (s.le (s.to x) k ≡ true)

clear_leaf : {P E : Type 0} (s : Scale P E) → IsOrder s → (x : E) (f : Child P → Marks P E) (c : Child P) (low : P) (high : Option P) (e : E) (es : List E) (b : Bool)
    → s.fits c.key e ≡ b → Rises s low (body f c (if b then Leaf (e ∷ es) else Broken rules.Order)) high
    → IsApart s x (rows_of (body f c (if b then Leaf (e ∷ es) else Broken rules.Order)))
    → KeyClear s x c.key × Clear s x (body f c (if b then Leaf (e ∷ es) else Broken rules.Order))
clear_leaf s o x f c low high e es true fits r a = (o.clear_key c.key x e fits a.0, clear_rows s x c.page (e ∷ es) a)
clear_leaf s o x f c low high e es false fits r a = absurd r

clear_all : {P E : Type 0} (s : Scale P E) → IsOrder s → (x : E) (f : Child P → Marks P E)
    → ((d : Child P) (low : P) (high : Option P) → Rises s low (f d) high → IsApart s x (rows_of (f d)) → KeyClear s x d.key × Clear s x (f d))
    → (cs : List (Child P)) (low : P) (high : Option P) → Rises s low (flat_map f cs) high → IsApart s x (rows_of (flat_map f cs)) → Clear s x (flat_map f cs)
clear_all s o x f h [] low high r a = tt
clear_all s o x f h (c ∷ cs) low high r a =
    let b = subst (IsApart s x) (rows-append (f c) (flat_map f cs)) a in
    let t = rises_cut s o low (f c) (flat_map f cs) high r in
    clear_join s x (f c) (flat_map f cs) (h c low (Some t.0) t.1 (apart_left s x (rows_of (f c)) (rows_of (flat_map f cs)) b)).1
    (clear_all s o x f h cs t.0 high t.2 (apart_right s x (rows_of (f c)) (rows_of (flat_map f cs)) b))

clear_body : {P E : Type 0} (s : Scale P E) → IsOrder s → (x : E) (f : Child P → Marks P E) (c : Child P) (below : ℕ) (node : Node P E) (low : P) (high : Option P)
    → ((d : Child P) (low : P) (high : Option P) → Rises s low (f d) high → IsApart s x (rows_of (f d)) → KeyClear s x d.key × Clear s x (f d))
    → Rises s low (body f c (placed s below c.key node)) high → IsApart s x (rows_of (body f c (placed s below c.key node))) → KeyClear s x c.key × Clear s x (body f c (placed s below c.key node))
clear_body s o x f c zero (Leaf []) low high h r a = absurd r
clear_body s o x f c zero (Leaf (e ∷ es)) low high h r a = clear_leaf s o x f c low high e es (s.fits c.key e) refl r a
clear_body s o x f c zero (Inner cs) low high h r a = absurd r
clear_body s o x f c zero (Broken rule) low high h r a = absurd r
clear_body s o x f c (suc below) (Leaf es) low high h r a = absurd r
clear_body s o x f c (suc below) (Inner []) low high h r a = absurd r
clear_body {P} s o x f c (suc below) (Inner (d ∷ ds)) low high h r a =
    let u : Child P = record { key = c.key; page = d.page } in
    let t = rises_cut s o low (f u) (flat_map f ds) high r in
    ((h u low (Some t.0) t.1 (apart_left s x (rows_of (f u)) (rows_of (flat_map f ds)) (subst (IsApart s x) (rows-append (f u) (flat_map f ds)) a))).0, clear_all s o x f h (u ∷ ds) low high r a)
clear_body s o x f c (suc below) (Broken rule) low high h r a = absurd r

-- an entry that is apart from all entries straddles no key
pub clear_walk : {P E : Type 0} (s : Scale P E) → IsOrder s → (x : E) (nodes : ℕ → Node P E) (levels : ℕ) (c : Child P) (low : P) (high : Option P)
    → Rises s low (walk s nodes levels c) high → IsApart s x (rows_of (walk s nodes levels c)) → KeyClear s x c.key × Clear s x (walk s nodes levels c)
unfolding walk
clear_walk s o x nodes zero c low high r a = absurd r
clear_walk s o x nodes (suc below) c low high r a =
    let t = clear_body s o x (walk s nodes below) c below (nodes c.page) c.key high (clear_walk s o x nodes below) r.1 a in (t.0, (t.0, t.1))

-- ---- pages other than the root

not_counted : (n m : ℕ) → n ≡ 0 → 0 < m → m ≡ n → ⊥
not_counted n m h p e = omega (arith, h, p, e)

-- where the root isn't named, it doesn't matter what stands there
pub off_root : {P E : Type 0} (s : Scale P E) (old new : ℕ → Node P E) (levels : ℕ) (cs : List (Child P)) → ((n : ℕ) → n ≢ no_page → new n ≡ old n)
    → times no_page (flat_map (walk s old levels) cs) ≡ 0 → flat_map (walk s new levels) cs ≡ flat_map (walk s old levels) cs
off_root s old new levels cs same none =
    untouched s old new levels cs (λ n p. same n (λ e. not_counted (times no_page (flat_map (walk s old levels) cs)) (times n (flat_map (walk s old levels) cs)) none p (ap (λ m. times m (flat_map (walk s old levels) cs)) e)))

pub off_one : {P E : Type 0} (s : Scale P E) (old new : ℕ → Node P E) (levels : ℕ) (c : Child P) → ((n : ℕ) → n ≢ no_page → new n ≡ old n)
    → times no_page (walk s old levels c) ≡ 0 → walk s new levels c ≡ walk s old levels c
off_one s old new levels c same none =
    frame s old new levels c (λ n p. same n (λ e. not_counted (times no_page (walk s old levels c)) (times n (walk s old levels c)) none p (ap (λ m. times m (walk s old levels c)) e)))

pub root_else : {P E : Type 0} (root : Node P E) (pages : ℕ → Node P E) (n : ℕ) → n ≢ no_page → with_root root pages n ≡ pages n
root_else {P} {E} root pages n ne = by (n == no_page) refl
  where
    by : (b : Bool) → (n == no_page) ≡ b → (if b then root else pages n) ≡ pages n
    by true e = absurd (ne (eqb-true n no_page e))
    by false e = refl

pub count_below : (bound n : ℕ) (free : List ℕ) → AllBelow bound free → bound ≤ n → count_in n free ≡ 0
count_below bound n [] h l = refl
count_below bound n (m ∷ ms) h l = let r = count_below bound n ms h.1 l in let i = h.0 in grind (arith, r, i, l)

-- ---- a whole tree that is to take an entry

page_by : (n : ℕ) (b : Bool) → (n == no_page) ≡ b → (n ≡ no_page) ⊎ (n ≢ no_page)
page_by n true h = inl (eqb-true n no_page h)
page_by n false h = inr (λ e. not_equal n h e)
  where
    not_equal : (m : ℕ) → (m == no_page) ≡ false → m ≡ no_page → ⊥
    not_equal m h e = grind (arith, h, e)

pub page_or : (n : ℕ) → (n ≡ no_page) ⊎ (n ≢ no_page)
page_or n = page_by n (n == no_page) refl

pub unfooted : {P E : Type 0} (s : Scale P E) (pages : ℕ → Node P E) (root : Node P E) (n : ℕ) → n ≢ no_page → footprint s pages root n ≡ times n (tree_of s pages root)
unfolding footprint
unfooted s pages root n ne = by (n == no_page) refl
  where
    by : (b : Bool) → (n == no_page) ≡ b → (if b then 0 else times n (tree_of s pages root)) ≡ times n (tree_of s pages root)
    by true e = absurd (ne (eqb-true n no_page e))
    by false e = refl

no_foot : {P E : Type 0} (s : Scale P E) (pages : ℕ → Node P E) (root : Node P E) → footprint s pages root no_page ≡ 0
unfolding footprint
no_foot s pages root = refl

one_or : (a t f : ℕ) → t ≤ 1 → f ≤ 1 → (0 < f → t ≡ 0) → t + f ≤ 1
one_or a t f h i j = grind (arith, h, i, j)

pub top_ready : {P E : Type 0} (s : Scale P E) → IsOrder s → (x : E) (pages : ℕ → Node P E) (root : Node P E) (levels blocks : ℕ) (free : List ℕ)
    → tree_of s pages root ≡ walk s (with_root root pages) levels (top s) → Rises s s.least (walk s (with_root root pages) levels (top s)) None
    → IsApart s x (rows_of (walk s (with_root root pages) levels (top s))) → IsSpare s pages root free → AllBelow blocks free → blocks ≤ no_page
    → Ready s x s.least s.least (walk s (with_root root pages) levels (top s)) None free
top_ready s o x pages root levels blocks free is rises apart spare below within = record {
  rises = rises;
  above = o.least_le (s.from x);
  below = tt;
  clear = (clear_walk s o x (with_root root pages) levels (top s) s.least None rises apart).1;
  once = λ n. one_or n (times n (walk s (with_root root pages) levels (top s))) (count_in n free)
      (each_once s o (with_root root pages) levels (top s) s.least None rises n) (spare.once n)
      (λ p. let ne : n ≢ no_page = λ e. not_counted (count_in no_page free) (count_in n free) (count_below blocks no_page free below within) p (ap (λ m. count_in m free) e) in
      ap (times n) (sym is) ∙ sym (unfooted s pages root n ne) ∙ spare.apart n p);
}

-- the pages of a tree and the free ones, before and after
pub footed : {P E : Type 0} (s : Scale P E) (old new : ℕ → Node P E) (root after : Node P E) (ms ns : Marks P E) (free left : List ℕ)
    → tree_of s old root ≡ ms → tree_of s new after ≡ ns → count_in no_page left ≡ count_in no_page free → ((n : ℕ) → times n ns + count_in n left ≡ times n ms + count_in n free)
    → (n : ℕ) → footprint s new after n + count_in n left ≡ footprint s old root n + count_in n free
footed s old new root after ms ns free left was is apart pages n = elim (page_or n) [
  | inl e ↦ subst (λ m. footprint s new after m + count_in m left ≡ footprint s old root m + count_in m free) (sym e)
      (let a = no_foot s new after in let b = no_foot s old root in omega (arith, a, b, apart))
  | inr ne ↦ let a = unfooted s new after n ne in let b = unfooted s old root n ne in let c = ap (times n) is in let d = ap (times n) was in let h = pages n in omega (arith, a, b, c, d, h)
]

-- a page that isn't in the footprint is the root's number, or isn't read
pub off_foot : {P E : Type 0} (s : Scale P E) (pages : ℕ → Node P E) (root : Node P E) (ms : Marks P E) (n : ℕ) → tree_of s pages root ≡ ms → footprint s pages root n ≡ 0 → (n ≡ no_page) ⊎ (times n ms ≡ 0)
off_foot s pages root ms n is h = elim (page_or n) [
  | inl e ↦ inl e
  | inr ne ↦ inr (ap (times n) (sym is) ∙ sym (unfooted s pages root n ne) ∙ h)
]

-- what a whole tree is afterwards
pub top_adds : {P E : Type 0} (s : Scale P E) → IsOrder s → (x : E) (es : List E) (old new : ℕ → Node P E) (root after : Node P E) (ms : Marks P E) (more blocks : ℕ) (free left : List ℕ)
    → tree_of s old root ≡ ms → rows_of ms ≡ es
    → more ≤ 8 → AllBelow blocks free → AllBelow blocks left → blocks ≤ no_page
    → Took s x s.least ms (walk s (with_root after new) more (top s)) None free left
    → ((n : ℕ) → (n ≡ no_page) ⊎ (times n ms ≡ 0) → count_in n free ≡ count_in n left → new n ≡ old n)
    → Adds s x es old new root after free left
top_adds {P} {E} s o x es old new root after ms more blocks free left is rows most below_free below_left within took keeps =
    let now = tree_rises s o new after more most took.rises in
    record {
      list = rows_of (walk s (with_root after new) more (top s));
      spelled = spelled s o new after more most took.rises;
      added = subst (λ r. Added x r (rows_of (walk s (with_root after new) more (top s)))) rows took.rows;
      pages = footed s old new root after ms (walk s (with_root after new) more (top s)) free left is now
          (count_below blocks no_page left below_left within ∙ sym (count_below blocks no_page free below_free within)) took.pages;
      keeps = λ n h e. keeps n (off_foot s old root ms n is h) e;
    }
