-- An entry that comes past all others goes to the last page of each level.
use Rattle.std.proofs.Common.{◌≡◌, refl, sym, ap, ◌∙◌, subst, ℕ, zero, suc, ◌+◌, Bool, true, false, List, [], ◌∷◌, ◌++◌, length, if◌then◌else◌, Option, Some, arith}
use Rattle.std.specs.List.{flat_map}
use Rattle.std.proofs.lemmas.Bool.{true≢false}
use Rattle.std.proofs.lemmas.List.{length-append}
use Rattle.jfs_bits.specs.declared.rule.Rule.TheVariants as rules
use Rattle.jfs_tree.specs.Walk.{Child, Node, Leaf, Inner, Broken, Page, Key, Row, Fault, Marks, Scale, Rises, IsOrder, rows_of, placed, under, body, walk}
use Rattle.jfs_tree.specs.Edit.{IsCons, IsPast, own}
use Rattle.jfs_tree.specs.Filled.{ComesPast}
use Rattle.jfs_tree.proofs.Frame.{rows-append}
use Rattle.jfs_tree.proofs.Between.{rows_three}
use Rattle.jfs_tree.proofs.Rising.{rises_cut}
use Rattle.jfs_tree.proofs.Steps.{inner_walk}

cons_left : {X : Type 0} (a b : List X) → IsCons a → IsCons (a ++ b)
cons_left [] b h = absurd h
cons_left (x ∷ a) b h = tt

past_parts : {P E : Type 0} (s : Scale P E) (x : E) (a b : List E) → ComesPast s x (a ++ b) → ComesPast s x a × ComesPast s x b
past_parts s x [] b h = (tt, h)
past_parts s x (e ∷ a) b h = let t = past_parts s x a b h.1 in ((h.0, t.0), t.1)

-- what rises from a key on and has an entry, past all of which another begins: the key is at or before it
key_before : {P E : Type 0} (s : Scale P E) → IsOrder s → (x : E) (low : P) (ms : Marks P E) (high : Option P) → Rises s low ms high → IsCons (rows_of ms) → ComesPast s x (rows_of ms) → s.le low (s.from x) ≡ true
key_before s o x low [] high r some past = absurd some
key_before s o x low (Page n ∷ ms) high r some past = key_before s o x low ms high r some past
key_before s o x low (Key n k ∷ ms) high r some past = o.trans_le low k (s.from x) r.0 (key_before s o x k ms high r.1 some past)
key_before s o x low (Row n e ∷ ms) high r some past = o.trans_le low (s.from e) (s.from x) r.0 (o.trans_le (s.from e) (s.to e) (s.from x) (o.span_le e) past.0)
key_before s o x low (Fault n f ∷ ms) high r some past = absurd r

module _ {P E : Type 0} (s : Scale P E) (o : IsOrder s) (nodes : ℕ → Node P E) where
  -- a part that rises has an entry
  abbrev HasRow : (Child P → Marks P E) → Type 0
  HasRow f = (c : Child P) (low : P) (high : Option P) → Rises s low (f c) high → IsCons (rows_of (f c))

  leaf_row : (f : Child P → Marks P E) (c : Child P) (e : E) (es : List E) (low : P) (high : Option P) (b : Bool) → Rises s low (body f c (if b then Leaf (e ∷ es) else Broken rules.Order)) high → IsCons (rows_of (body f c (if b then Leaf (e ∷ es) else Broken rules.Order)))
  leaf_row f c e es low high true r = tt
  leaf_row f c e es low high false r = absurd r

  node_row : (f : Child P → Marks P E) → HasRow f → (below : ℕ) (c : Child P) (node : Node P E) (low : P) (high : Option P) → Rises s low (body f c (placed s below c.key node)) high → IsCons (rows_of (body f c (placed s below c.key node)))
  node_row f has zero c (Leaf []) low high r = absurd r
  node_row f has zero c (Leaf (e ∷ es)) low high r = leaf_row f c e es low high (s.fits c.key e) r
  node_row f has zero c (Inner cs) low high r = absurd r
  node_row f has zero c (Broken rule) low high r = absurd r
  node_row f has (suc below) c (Leaf es) low high r = absurd r
  node_row f has (suc below) c (Inner []) low high r = absurd r
  node_row f has (suc below) c (Inner (d ∷ ds)) low high r =
      let u : Child P = record { key = c.key; page = d.page } in
      let t = rises_cut s o low (f u) (flat_map f ds) high r in
      subst IsCons (sym (rows-append (f u) (flat_map f ds))) (cons_left (rows_of (f u)) (rows_of (flat_map f ds)) (has u low (Some t.0) t.1))
  node_row f has (suc below) c (Broken rule) low high r = absurd r

  has_row : (levels : ℕ) → HasRow (walk s nodes levels)
  unfolding walk
  has_row zero c low high r = absurd r
  has_row (suc below) c low high r = node_row (walk s nodes below) (has_row below) below c (nodes c.page) c.key high r.1

  -- no child stands behind the one to which it goes
  none_behind : (levels : ℕ) (x : E) (back : List (Child P)) (low : P) (high : Option P) → Rises s low (flat_map (walk s nodes levels) back) high → IsPast s x back → ComesPast s x (rows_of (flat_map (walk s nodes levels) back)) → back ≡ []
  unfolding walk
  none_behind levels x [] low high r past comes = refl
  none_behind zero x (b ∷ bs) low high r past comes = absurd r
  none_behind (suc below) x (b ∷ bs) low high r past comes =
      let f = walk s nodes below in
      let ms = body f b (placed s below b.key (nodes b.page)) in
      let rest = flat_map (walk s nodes (suc below)) bs in
      let t = rises_cut s o b.key ms rest high r.1 in
      let some = subst IsCons (sym (rows-append ms rest)) (cons_left (rows_of ms) (rows_of rest) (node_row f (has_row below) below b (nodes b.page) b.key (Some t.0) t.1)) in
      absurd (true≢false (sym (key_before s o x b.key (ms ++ rest) high r.1 some comes) ∙ past))

  pub past_child : (x : E) (lower : ℕ) (c : Child P) (front : List (Child P)) (t : Child P) (back : List (Child P)) (low : P) (high : Option P) → nodes c.page ≡ Inner (front ++ t ∷ back) → Rises s low (walk s nodes (suc (suc lower)) c) high → IsPast s x back
      → ComesPast s x (rows_of (walk s nodes (suc (suc lower)) c)) → (back ≡ []) × ComesPast s x (rows_of (walk s nodes (suc lower) (own c.key front t)))
  past_child x lower c front t back low high is r past comes =
      let A = flat_map (walk s nodes (suc lower)) (under c.key front) in
      let T = walk s nodes (suc lower) (own c.key front t) in
      let B = flat_map (walk s nodes (suc lower)) back in
      let e = inner_walk s nodes lower c front t back is in
      let rises = subst (λ ms. Rises s low ms high) e r in
      let rows = subst (λ es. ComesPast s x es) (ap rows_of e ∙ rows_three A T B) comes in
      let a = past_parts s x (rows_of A) (rows_of T ++ rows_of B) rows in
      let b = past_parts s x (rows_of T) (rows_of B) a.1 in
      let cut_a = rises_cut s o c.key A (T ++ B) high rises.1 in
      let cut_b = rises_cut s o cut_a.0 T B high cut_a.2 in
      (none_behind (suc lower) x back cut_b.0 high cut_b.2 past b.1, b.0)

-- the children of a page that gets one more behind the last
pub all_length : {X : Type 0} (front : List X) (t u : X) (back : List X) (place : ℕ) → back ≡ [] → length front ≡ place → length (front ++ t ∷ u ∷ back) ≡ place + 2
all_length front t u back place none at =
    let e = ap (λ b. length (front ++ t ∷ u ∷ b)) none in
    let l = length-append front (t ∷ u ∷ []) in omega (arith, e, l, at)
