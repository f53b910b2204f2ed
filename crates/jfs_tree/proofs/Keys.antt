-- The keys of children rise where what stands below them does.
use Rattle.std.proofs.Common.{◌≡◌, refl, sym, ◌∙◌, ℕ, zero, suc, Bool, true, false, List, [], ◌∷◌, ◌++◌, map, if◌then◌else◌, Option, Some}
use Rattle.std.specs.List.{flat_map}
use Rattle.std.proofs.lemmas.Bool.{true≢false}
use Rattle.jfs_bits.specs.declared.rule.Rule.TheVariants as rules
use Rattle.jfs_tree.specs.Walk.{Child, Node, Leaf, Inner, Broken, Page, Key, Row, Fault, Marks, Scale, Rises, IsOrder, placed, under, body, walk}
use Rattle.jfs_tree.specs.Edit.{Clear, IsApart, KeysAbove, KeysRise}
use Rattle.jfs_tree.proofs.Rising.{rises_cut}

pub rises_up : {P E : Type 0} (s : Scale P E) → IsOrder s → (low : P) (ms : Marks P E) (m : P) → Rises s low ms (Some m) → s.le low m ≡ true
rises_up s o low [] m r = r
rises_up s o low (Page n ∷ ms) m r = rises_up s o low ms m r
rises_up s o low (Key n k ∷ ms) m r = o.trans_le low k m r.0 (rises_up s o k ms m r.1)
rises_up s o low (Row n e ∷ ms) m r = o.trans_le low (s.from e) m r.0 (o.trans_le (s.from e) (s.to e) m (o.span_le e) (rises_up s o (s.to e) ms m r.1))
rises_up s o low (Fault n f ∷ ms) m r = absurd r

pub not_true : (b : Bool) → (b ≡ true → ⊥) → b ≡ false
not_true true h = absurd (h refl)
not_true false h = refl

-- an entry reaches past its key
pub past_row : {P E : Type 0} (s : Scale P E) → IsOrder s → (key m : P) (e : E) → s.le key (s.from e) ≡ true → s.le (s.to e) m ≡ true → s.le m key ≡ false
past_row s o key m e above up =
    not_true (s.le m key) (λ h. true≢false (sym (o.trans_le (s.to e) m (s.from e) up (o.trans_le m key (s.from e) h above)) ∙ o.takes_place e))

leaf_strict : {P E : Type 0} (s : Scale P E) → IsOrder s → (f : Child P → Marks P E) (c : Child P) (e : E) (es : List E) (m : P) (b : Bool)
    → Rises s c.key (body f c (if b then Leaf (e ∷ es) else Broken rules.Order)) (Some m) → s.le m c.key ≡ false
leaf_strict s o f c e es m true r = past_row s o c.key m e r.0 (rises_up s o (s.to e) (map (Row c.page) es) m r.1)
leaf_strict s o f c e es m false r = absurd r

body_strict : {P E : Type 0} (s : Scale P E) → IsOrder s → (f : Child P → Marks P E) (c : Child P) (below : ℕ) (node : Node P E) (m : P)
    → ((d : Child P) (low n : P) → Rises s low (f d) (Some n) → s.le n d.key ≡ false)
    → Rises s c.key (body f c (placed s below c.key node)) (Some m) → s.le m c.key ≡ false
body_strict s o f c zero (Leaf []) m h r = absurd r
body_strict s o f c zero (Leaf (e ∷ es)) m h r = leaf_strict s o f c e es m (s.fits c.key e) r
body_strict s o f c zero (Inner cs) m h r = absurd r
body_strict s o f c zero (Broken rule) m h r = absurd r
body_strict s o f c (suc below) (Leaf es) m h r = absurd r
body_strict s o f c (suc below) (Inner []) m h r = absurd r
body_strict {P} s o f c (suc below) (Inner (d ∷ ds)) m h r =
    let u : Child P = record { key = c.key; page = d.page } in
    let t = rises_cut s o c.key (f u) (flat_map f ds) (Some m) r in
    not_true (s.le m c.key) (λ i. true≢false (sym (o.trans_le t.0 m c.key (rises_up s o t.0 (flat_map f ds) m t.2) i) ∙ h u c.key t.0 t.1))
body_strict s o f c (suc below) (Broken rule) m h r = absurd r

-- what stands below a child reaches past its key
pub walk_strict : {P E : Type 0} (s : Scale P E) → IsOrder s → (nodes : ℕ → Node P E) (levels : ℕ) (c : Child P) (low m : P) → Rises s low (walk s nodes levels c) (Some m) → s.le m c.key ≡ false
unfolding walk
walk_strict s o nodes zero c low m r = absurd r
walk_strict s o nodes (suc below) c low m r = body_strict s o (walk s nodes below) c below (nodes c.page) m (walk_strict s o nodes below) r.1

pub child_from : {P E : Type 0} (s : Scale P E) → (nodes : ℕ → Node P E) (levels : ℕ) (u : Child P) (low : P) (high : Option P) (rest : Marks P E)
    → Rises s low (walk s nodes levels u ++ rest) high → s.le low u.key ≡ true
unfolding walk
child_from s nodes zero u low high rest r = absurd r
child_from s nodes (suc levels) u low high rest r = r.0

keys_after : {P E : Type 0} (s : Scale P E) → IsOrder s → (nodes : ℕ → Node P E) (levels : ℕ) (c : Child P) (cs : List (Child P)) (low : P) (high : Option P)
    → Rises s low (walk s nodes levels c ++ flat_map (walk s nodes levels) cs) high → KeysAbove s c.key cs
keys_after s o nodes levels c [] low high r = tt
keys_after s o nodes levels c (d ∷ ds) low high r =
    let t = rises_cut s o low (walk s nodes levels c) (flat_map (walk s nodes levels) (d ∷ ds)) high r in (
      not_true (s.le d.key c.key) (λ h. true≢false (sym (o.trans_le t.0 d.key c.key (child_from s nodes levels d t.0 high (flat_map (walk s nodes levels) ds) t.2) h) ∙ walk_strict s o nodes levels c low t.0 t.1)),
      keys_after s o nodes levels d ds t.0 high t.2,
    )

above_lower : {P E : Type 0} (s : Scale P E) → IsOrder s → (a b : P) (cs : List (Child P)) → s.le a b ≡ true → KeysAbove s b cs → KeysAbove s a cs
above_lower s o a b [] h k = tt
above_lower s o a b (c ∷ cs) h k = (not_true (s.le c.key a) (λ i. true≢false (sym (o.trans_le c.key a b i h) ∙ k.0)), k.1)

pub keys_rise : {P E : Type 0} (s : Scale P E) → IsOrder s → (nodes : ℕ → Node P E) (levels : ℕ) (key low : P) (cs : List (Child P)) (high : Option P)
    → Rises s low (flat_map (walk s nodes levels) (under key cs)) high → KeysRise s cs
keys_rise s o nodes levels key low [] high r = tt
keys_rise s o nodes levels key low (c ∷ cs) high r =
    above_lower s o s.least key cs (o.least_le key) (keys_after s o nodes levels (record { key = key; page = c.page }) cs low high r)

-- an entry that is clear of a leaf's marks is apart from its entries
pub apart_rows : {P E : Type 0} (s : Scale P E) (x : E) (n : ℕ) (es : List E) → Clear s x (map (Row n) es) → IsApart s x es
apart_rows s x n [] h = tt
apart_rows s x n (e ∷ es) h = (h.0, apart_rows s x n es h.1)
