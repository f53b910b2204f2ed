-- A leaf that takes an entry.
use Rattle.std.proofs.Common.{◌≡◌, ◌⊎◌, inl, inr, refl, sym, ap, ◌∙◌, subst, ℕ, zero, suc, Bool, true, false, if◌then◌else◌, List, [], ◌∷◌, map, Option, arith}
use Rattle.std.proofs.lemmas.Bool.{true≢false}
use Rattle.jfs_tree.specs.Walk.{Child, Node, Leaf, Broken, Page, Key, Row, Marks, Scale, UpTo, Rises, IsOrder, rows_of, times, placed, body, walk}
use Rattle.jfs_tree.specs.Edit.{Clear, Added, Ready, Took, FitsFirst, with_entry}
use Rattle.jfs_bits.specs.declared.rule.Rule.TheVariants as rules

pub rows_leaf : (P : Type 0) {E : Type 0} (n : ℕ) (es : List E) → rows_of {P = P} (map (Row n) es) ≡ es
rows_leaf P n [] = refl
rows_leaf P n (e ∷ es) = ap (λ t. e ∷ t) (rows_leaf P n es)

pub times_leaf : (P : Type 0) {E : Type 0} (m n : ℕ) (es : List E) → times {P = P} m (map (Row n) es) ≡ 0
times_leaf P m n [] = refl
times_leaf P m n (e ∷ es) = times_leaf P m n es

added_more : {E : Type 0} (x e : E) (es rest : List E) (b : Bool) → Added x es rest → Added x (e ∷ es) (if b then e ∷ rest else x ∷ e ∷ es)
added_more x e es rest true h = record { front = e ∷ h.front; back = h.back; before = ap (λ t. e ∷ t) h.before; after = ap (λ t. e ∷ t) h.after }
added_more x e es rest false h = record { front = []; back = e ∷ es; before = refl; after = refl }

added_leaf : {P E : Type 0} (s : Scale P E) (x : E) (es : List E) → Added x es (with_entry s x es)
added_leaf s x [] = record { front = []; back = []; before = refl; after = refl }
added_leaf s x (e ∷ es) = added_more x e es (with_entry s x es) (s.le (s.to e) (s.from x)) (added_leaf s x es)

rises_more : {P E : Type 0} (s : Scale P E) → (x e : E) (n : ℕ) (low : P) (es rest : List E) (high : Option P) (b : Bool)
    → (s.le (s.to e) (s.from x) ≡ b) → (b ≡ true → Rises s (s.to e) (map (Row n) rest) high)
    → s.le low (s.from e) ≡ true → Rises s (s.to e) (map (Row n) es) high → s.le low (s.from x) ≡ true
    → ((s.le (s.to e) (s.from x) ≡ true) ⊎ (s.le (s.to x) (s.from e) ≡ true))
    → Rises s low (map (Row n) (if b then e ∷ rest else x ∷ e ∷ es)) high
rises_more s x e n low es rest high true is more le r above clear = (le, more refl)
rises_more s x e n low es rest high false is more le r above clear =
    elim clear [ inl h ↦ absurd (true≢false (sym h ∙ is)) | inr h ↦ (above, (h, r)) ]

rises_leaf : {P E : Type 0} (s : Scale P E) → (x : E) (n : ℕ) (low : P) (es : List E) (high : Option P)
    → Rises s low (map (Row n) es) high → s.le low (s.from x) ≡ true → UpTo s (s.to x) high → Clear s x (map (Row n) es)
    → Rises s low (map (Row n) (with_entry s x es)) high
rises_leaf s x n low [] high r above below clear = (above, below)
rises_leaf s x n low (e ∷ es) high r above below clear =
    rises_more s x e n low es (with_entry s x es) high (s.le (s.to e) (s.from x)) refl
    (λ h. rises_leaf s x n (s.to e) es high r.1 h below clear.1) r.0 r.1 above clear.0

pub took_leaf : {P E : Type 0} (s : Scale P E) → (x : E) (n : ℕ) (k key low : P) (es : List E) (high : Option P) (free : List ℕ)
    → k ≡ key → Ready s x key low (Key n k ∷ Page n ∷ map (Row n) es) high free
    → Took s x low (Key n k ∷ Page n ∷ map (Row n) es) (Key n k ∷ Page n ∷ map (Row n) (with_entry s x es)) high free free
took_leaf {P} s x n k key low es high free same r = record {
  rows = subst (λ p. Added x p (rows_of {P = P} (map (Row n) (with_entry s x es)))) (sym (rows_leaf P n es))
      (subst (λ p. Added x es p) (sym (rows_leaf P n (with_entry s x es))) (added_leaf s x es));
  rises = (r.rises.0, rises_leaf s x n k es high r.rises.1 (ap (λ t. s.le t (s.from x)) same ∙ r.above) r.below r.clear.1);
  pages = λ m. let e = times_leaf P m n es in let f = times_leaf P m n (with_entry s x es) in omega (arith, e, f);
}

pub placed_leaf : {P E : Type 0} (s : Scale P E) (key : P) (es : List E) → FitsFirst s key es → placed s zero key (Leaf es) ≡ Leaf es
placed_leaf s key [] h = absurd h
placed_leaf s key (e ∷ es) h = ap (λ b. if b then Leaf (e ∷ es) else Broken rules.Order) h

-- a leaf below the root
pub cons_rows : {P E : Type 0} (s : Scale P E) (nodes : ℕ → Node P E) (c : Child P) (es : List E)
    → FitsFirst s c.key es → nodes c.page ≡ Leaf es → walk s nodes (suc zero) c ≡ Key c.page c.key ∷ Page c.page ∷ map (Row c.page) es
unfolding walk
cons_rows s nodes c es h is = ap (λ node. Key c.page c.key ∷ Page c.page ∷ body (walk s nodes zero) c node) (ap (placed s zero c.key) is ∙ placed_leaf s c.key es h)

fits_or : {P E : Type 0} (s : Scale P E) (f : Child P → Marks P E) (c : Child P) (low : P) (e : E) (es : List E) (high : Option P) (b : Bool)
    → Rises s low (body f c (if b then Leaf (e ∷ es) else Broken rules.Order)) high → b ≡ true
fits_or s f c low e es high true r = refl
fits_or s f c low e es high false r = absurd r

fits_placed : {P E : Type 0} (s : Scale P E) (f : Child P → Marks P E) (c : Child P) (low : P) (es : List E) (high : Option P)
    → Rises s low (body f c (placed s zero c.key (Leaf es))) high → FitsFirst s c.key es
fits_placed s f c low [] high r = absurd r
fits_placed s f c low (e ∷ es) high r = fits_or s f c low e es high (s.fits c.key e) r

-- in what rises the first entry of a leaf fits
pub leaf_fits : {P E : Type 0} (s : Scale P E) (nodes : ℕ → Node P E) (c : Child P) (es : List E) (low : P) (high : Option P)
    → nodes c.page ≡ Leaf es → Rises s low (walk s nodes (suc zero) c) high → FitsFirst s c.key es
unfolding walk
leaf_fits s nodes c es low high is r =
    fits_placed s (walk s nodes zero) c c.key es high (subst (λ node. Rises s c.key (body (walk s nodes zero) c (placed s zero c.key node)) high) is r.1)

fits_more : {P E : Type 0} (s : Scale P E) (x e : E) (key : P) (es rest : List E) (b : Bool) → s.fits key e ≡ true → (b ≡ false → s.fits key x ≡ true) → FitsFirst s key (if b then e ∷ rest else x ∷ e ∷ es)
fits_more s x e key es rest true h i = h
fits_more s x e key es rest false h i = i refl

with_fits : {P E : Type 0} (s : Scale P E) → IsOrder s → (x : E) (key : P) (n : ℕ) (es : List E) → FitsFirst s key es → s.le key (s.from x) ≡ true → Clear s x (map (Row n) es) → FitsFirst s key (with_entry s x es)
with_fits s o x key n [] h above clear = absurd h
with_fits s o x key n (e ∷ es) h above clear =
    fits_more s x e key es (with_entry s x es) (s.le (s.to e) (s.from x)) h
    (λ i. elim clear.0 [ inl a ↦ absurd (true≢false (sym a ∙ i)) | inr b ↦ o.fits_before key x e above b h ])

-- A leaf below the root that is to take an entry: its entries before and after, and that the first ones fit.
pub record AtLeaf {P E : Type 0} (s : Scale P E) (x : E) (before : ℕ → Node P E) (c : Child P) (es : List E) (low : P) (high : Option P) (free : List ℕ) : Type 0 where
  pub was : walk s before (suc zero) c ≡ Key c.page c.key ∷ Page c.page ∷ map (Row c.page) es
  pub ready : Ready s x c.key low (Key c.page c.key ∷ Page c.page ∷ map (Row c.page) es) high free
  pub fits : FitsFirst s c.key (with_entry s x es)

pub at_leaf : {P E : Type 0} (s : Scale P E) → IsOrder s → (x : E) (before : ℕ → Node P E) (c : Child P) (es : List E) (low : P) (high : Option P) (free : List ℕ)
    → before c.page ≡ Leaf es → Ready s x c.key low (walk s before (suc zero) c) high free → AtLeaf s x before c es low high free
at_leaf s o x before c es low high free is r =
    let f = leaf_fits s before c es low high is r.rises in
    let was = cons_rows s before c es f is in
    let ready = subst (λ ms. Ready s x c.key low ms high free) was r in
    record { was = was; ready = ready; fits = with_fits s o x c.key c.page es f r.above ready.clear.1 }

-- A leaf below the root that takes an entry in its place.
pub leaf_took : {P E : Type 0} (s : Scale P E) → IsOrder s → (x : E) (before after : ℕ → Node P E) (c : Child P) (es : List E) (low : P) (high : Option P) (free : List ℕ)
    → before c.page ≡ Leaf es → after c.page ≡ Leaf (with_entry s x es)
    → Ready s x c.key low (walk s before (suc zero) c) high free
    → Took s x low (walk s before (suc zero) c) (walk s after (suc zero) c) high free free
leaf_took s o x before after c es low high free was is r =
    let a = at_leaf s o x before c es low high free was r in
    subst (λ ms. Took s x low ms (walk s after (suc zero) c) high free free) (sym a.was)
    (subst (λ ms. Took s x low (Key c.page c.key ∷ Page c.page ∷ map (Row c.page) es) ms high free free) (sym (cons_rows s after c (with_entry s x es) a.fits is))
    (took_leaf s x c.page c.key c.key low es high free refl a.ready))
