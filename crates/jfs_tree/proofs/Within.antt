-- The pages of a tree lie below a bound where all children do.
use Rattle.std.proofs.Common.{◌≡◌, ◌<◌, ◌⊎◌, inl, inr, refl, sym, ap, ◌∙◌, subst, ℕ, zero, suc, ◌+◌, Bool, true, false, ◌==◌, if◌then◌else◌, List, [], ◌∷◌, map, Option, Some, None, arith}
use Rattle.std.specs.List.{flat_map}
use Rattle.std.proofs.lemmas.Bool.{cases_eq, cases_lt, eq-eqb, ne_eqb}
use Rattle.jfs_bits.specs.declared.rule.Rule.{Rule}
use Rattle.jfs_tree.specs.Walk.{Child, Node, Leaf, Inner, Broken, Page, Row, Marks, Scale, placed, under, body, walk, times}
use Rattle.jfs_tree.specs.Spells.{no_page, with_root, one_more, below_first, levels_of, along_first, first_path, top, at_levels, tree_of, footprint}
pub use Rattle.jfs_tree.specs.Fresh.{AllPages, HasPages}
use Rattle.jfs_tree.proofs.Frame.{times-append}

rows_none : (P : Type 0) {E : Type 0} (n p : ℕ) (es : List E) → times {P = P} n (map (Row p) es) ≡ 0
rows_none P n p [] = refl
rows_none P n p (e ∷ es) = rows_none P n p es

kids : {P E : Type 0} (n bound : ℕ) (f : Child P → Marks P E) (cs : List (Child P)) → AllPages bound cs → ((d : Child P) → 0 < times n (f d) → (n ≡ d.page) ⊎ (n < bound)) → 0 < times n (flat_map f cs) → n < bound
kids n bound f [] all h t = absurd (omega (arith, t))
kids n bound f (c ∷ cs) all h t = elim (cases_lt 0 (times n (f c))) [
  | inl l ↦ elim (h c l) [ inl e ↦ (let w = all.0 in omega (arith, e, w)) | inr w ↦ w ]
  | inr l ↦ kids n bound f cs all.1 h (let a = times-append n (f c) (flat_map f cs) in omega (arith, a, l, t))
]

under_all : {P : Type 0} (bound : ℕ) (key : P) (cs : List (Child P)) → AllPages bound cs → AllPages bound (under key cs)
under_all bound key [] all = all
under_all bound key (c ∷ cs) all = all

body_within : {P E : Type 0} (n bound : ℕ) (f : Child P → Marks P E) (c : Child P) (node : Node P E) → HasPages bound node → ((d : Child P) → 0 < times n (f d) → (n ≡ d.page) ⊎ (n < bound)) → 0 < times n (body f c node) → n < bound
body_within {P} n bound f c (Leaf es) has h t = absurd (let z = rows_none P n c.page es in omega (arith, z, t))
body_within n bound f c (Inner cs) has h t = kids n bound f (under c.key cs) (under_all bound c.key cs (has cs refl)) h t
body_within n bound f c (Broken rule) has h t = absurd (omega (arith, t))

broken_has : {P E : Type 0} (bound : ℕ) (rule : Rule) → (let b : Node P E = Broken rule in HasPages bound b)
broken_has bound rule = λ cs e. absurd cc

fits_has : {P E : Type 0} (bound : ℕ) (b : Bool) (node : Node P E) (rule : Rule) → HasPages bound node → HasPages bound (if b then node else Broken rule)
fits_has bound true node rule has = has
fits_has bound false node rule has = broken_has bound rule

placed_has : {P E : Type 0} (s : Scale P E) (bound below : ℕ) (key : P) (node : Node P E) → HasPages bound node → HasPages bound (placed s below key node)
placed_has s bound zero key (Leaf []) has = broken_has bound _
placed_has s bound zero key (Leaf (e ∷ es)) has = fits_has bound (s.fits key e) (Leaf (e ∷ es)) _ has
placed_has s bound zero key (Inner cs) has = broken_has bound _
placed_has s bound zero key (Broken rule) has = broken_has bound rule
placed_has s bound (suc below) key (Leaf es) has = broken_has bound _
placed_has s bound (suc below) key (Inner []) has = broken_has bound _
placed_has s bound (suc below) key (Inner (c ∷ cs)) has = has
placed_has s bound (suc below) key (Broken rule) has = broken_has bound rule

page_or : {P E : Type 0} (n p : ℕ) (ms : Marks P E) → 0 < times n (Page p ∷ ms) → (n ≡ p) ⊎ (0 < times n ms)
page_or n p ms t = elim (cases_eq p n) [ inl e ↦ inl (sym e) | inr other ↦ inr (subst (λ b. 0 < (if b then 1 else 0) + times n ms → 0 < times n ms) (sym (ne_eqb p n other)) (λ h. omega (arith, h)) t) ]

walk_within : {P E : Type 0} (s : Scale P E) (nodes : ℕ → Node P E) (n bound : ℕ) → ((m : ℕ) → HasPages bound (nodes m)) → (levels : ℕ) (c : Child P) → 0 < times n (walk s nodes levels c) → (n ≡ c.page) ⊎ (n < bound)
unfolding walk
walk_within s nodes n bound has zero c t = absurd (omega (arith, t))
walk_within s nodes n bound has (suc below) c t = elim (page_or n c.page (body (walk s nodes below) c (placed s below c.key (nodes c.page))) t) [
  | inl e ↦ inl e
  | inr l ↦ inr (body_within n bound (walk s nodes below) c (placed s below c.key (nodes c.page)) (placed_has s bound below c.key (nodes c.page) (has c.page)) (walk_within s nodes n bound has below) l)
]

along_within : {P E : Type 0} (n bound : ℕ) (f : ℕ → Marks P E) (node : Node P E) → HasPages bound node → ((page : ℕ) → 0 < times n (f page) → (n ≡ page) ⊎ (n < bound)) → 0 < times n (along_first f node) → n < bound
along_within n bound f (Leaf es) has h t = absurd (omega (arith, t))
along_within n bound f (Inner []) has h t = absurd (omega (arith, t))
along_within n bound f (Inner (c ∷ cs)) has h t = elim (h c.page t) [ inl e ↦ (let w = (has (c ∷ cs) refl).0 in omega (arith, e, w)) | inr w ↦ w ]
along_within n bound f (Broken rule) has h t = absurd (omega (arith, t))

path_within : {P E : Type 0} (nodes : ℕ → Node P E) (n bound : ℕ) → ((m : ℕ) → HasPages bound (nodes m)) → (most page : ℕ) → 0 < times n (first_path nodes most page) → (n ≡ page) ⊎ (n < bound)
unfolding first_path
path_within nodes n bound has zero page t = absurd (omega (arith, t))
path_within nodes n bound has (suc most) page t = elim (page_or n page (along_first (first_path nodes most) (nodes page)) t) [
  | inl e ↦ inl e
  | inr l ↦ inr (along_within n bound (first_path nodes most) (nodes page) (has page) (path_within nodes n bound has most) l)
]

levels_within : {P E : Type 0} (s : Scale P E) (nodes : ℕ → Node P E) (n bound : ℕ) → ((m : ℕ) → HasPages bound (nodes m)) → (o : Option ℕ) → 0 < times n (at_levels s nodes o) → (n ≡ no_page) ⊎ (n < bound)
levels_within s nodes n bound has (Some levels) t = walk_within s nodes n bound has levels (top s) t
levels_within s nodes n bound has None t = path_within nodes n bound has 8 no_page t

pub root_has : {P E : Type 0} (bound : ℕ) (root : Node P E) (pages : ℕ → Node P E) → HasPages bound root → ((m : ℕ) → HasPages bound (pages m)) → (m : ℕ) → HasPages bound (with_root root pages m)
root_has bound root pages has all m = by (m == no_page)
  where
    by : (b : Bool) → HasPages bound (if b then root else pages m)
    by true = has
    by false = all m

tree_within : {P E : Type 0} (s : Scale P E) (pages : ℕ → Node P E) (root : Node P E) (n bound : ℕ) → HasPages bound root → ((m : ℕ) → HasPages bound (pages m)) → 0 < times n (tree_of s pages root) → (n ≡ no_page) ⊎ (n < bound)
tree_within {P} {E} s pages (Leaf []) n bound has all t = elim (page_or {P = P} {E = E} n no_page [] t) [ inl e ↦ inl e | inr l ↦ absurd (omega (arith, l)) ]
tree_within s pages (Leaf (e ∷ es)) n bound has all t = levels_within s (with_root (Leaf (e ∷ es)) pages) n bound (root_has bound (Leaf (e ∷ es)) pages has all) (levels_of (with_root (Leaf (e ∷ es)) pages) 8 no_page) t
tree_within s pages (Inner cs) n bound has all t = levels_within s (with_root (Inner cs) pages) n bound (root_has bound (Inner cs) pages has all) (levels_of (with_root (Inner cs) pages) 8 no_page) t
tree_within s pages (Broken rule) n bound has all t = levels_within s (with_root (Broken rule) pages) n bound (root_has bound (Broken rule) pages has all) (levels_of (with_root (Broken rule) pages) 8 no_page) t

-- a tree's own pages lie below the bound
pub footprint_within : {P E : Type 0} (s : Scale P E) (pages : ℕ → Node P E) (root : Node P E) (n bound : ℕ) → HasPages bound root → ((m : ℕ) → HasPages bound (pages m)) → 0 < footprint s pages root n → n < bound
unfolding footprint
footprint_within s pages root n bound has all t = elim (cases_eq n no_page) [
  | inl e ↦ absurd (zero_there (n == no_page) (times n (tree_of s pages root)) (eq-eqb n no_page e) t)
  | inr other ↦ elim (tree_within s pages root n bound has all (there (n == no_page) (times n (tree_of s pages root)) t)) [ inl e ↦ absurd (other e) | inr w ↦ w ]
]
  where
    zero_there : (b : Bool) (k : ℕ) → b ≡ true → 0 < (if b then 0 else k) → ⊥
    zero_there true k e t = omega (arith, t)
    zero_there false k e t = cc

    there : (b : Bool) (k : ℕ) → 0 < (if b then 0 else k) → 0 < k
    there true k t = absurd (omega (arith, t))
    there false k t = t

-- ---- levels

first_same : {P E : Type 0} (f g : ℕ → Option ℕ) (bound : ℕ) (node : Node P E) → HasPages bound node → ((page : ℕ) → page < bound → g page ≡ f page) → below_first g node ≡ below_first f node
first_same f g bound (Leaf es) has h = refl
first_same f g bound (Inner []) has h = refl
first_same f g bound (Inner (c ∷ cs)) has h = h c.page (has (c ∷ cs) refl).0
first_same f g bound (Broken rule) has h = refl

-- pages that are the same below the bound have the same levels
levels_same : {P E : Type 0} (old new : ℕ → Node P E) (bound : ℕ) → ((m : ℕ) → HasPages bound (old m)) → ((m : ℕ) → m < bound → new m ≡ old m) → (most page : ℕ) → new page ≡ old page → levels_of new most page ≡ levels_of old most page
unfolding levels_of
levels_same old new bound has same zero page here = refl
levels_same old new bound has same (suc most) page here =
    ap (λ node. one_more (below_first (levels_of new most) node)) here
    ∙ ap one_more (first_same (levels_of old most) (levels_of new most) bound (old page) (has page) (λ p h. levels_same old new bound has same most p (same p h)))

pub root_levels : {P E : Type 0} (root : Node P E) (old new : ℕ → Node P E) (bound : ℕ) → HasPages bound root → ((m : ℕ) → HasPages bound (old m)) → ((m : ℕ) → m < bound → new m ≡ old m)
    → levels_of (with_root root new) 8 no_page ≡ levels_of (with_root root old) 8 no_page
root_levels root old new bound top has same =
    levels_same (with_root root old) (with_root root new) bound (root_has bound root old top has) (λ m h. ap (λ node. if m == no_page then root else node) (same m h)) 8 no_page refl
