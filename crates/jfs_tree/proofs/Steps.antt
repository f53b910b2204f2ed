-- One level of a tree, before and after an entry went into a child.
use Rattle.std.proofs.Common.{◌≡◌, ◌≢◌, ◌≤◌, ◌<◌, inl, inr, refl, sym, ap, ◌∙◌, subst, ℕ, zero, suc, ◌+◌, true, List, [], ◌∷◌, ◌++◌, ◌==◌, if◌then◌else◌, Option, arith}
use Rattle.std.specs.List.{flat_map}
use Rattle.std.proofs.lemmas.List.Concat.{flat_map-append}
use Rattle.std.proofs.lemmas.Bool.{true≢false}
use Rattle.jfs_tree.specs.Walk.{Child, Node, Inner, Page, Key, Marks, Scale, UpTo, Rises, IsOrder, times, placed, under, body, walk}
use Rattle.jfs_tree.specs.Edit.{Clear, Ready, Took, bound, StartsWithKey, own, IsPast}
use Rattle.jfs_tree.proofs.Frame.{all_same, frame}
use Rattle.jfs_tree.proofs.Rising.{rises_cut}
use Rattle.jfs_tree.proofs.Between.{clear_right, times_three, Between, ready_between}

pub under_parts : {P : Type 0} (key : P) (front : List (Child P)) (t : Child P) (back : List (Child P))
    → under key (front ++ t ∷ back) ≡ under key front ++ own key front t ∷ back
under_parts key [] t back = refl
under_parts key (f ∷ fs) t back = refl

pub placed_inner : {P E : Type 0} (s : Scale P E) (below : ℕ) (key : P) (front : List (Child P)) (t : Child P) (back : List (Child P))
    → placed s (suc below) key (Inner (front ++ t ∷ back)) ≡ Inner (front ++ t ∷ back)
placed_inner s below key [] t back = refl
placed_inner s below key (f ∷ fs) t back = refl

-- an inner page with all its children
pub inner_is : {P E : Type 0} (s : Scale P E) (nodes : ℕ → Node P E) (below : ℕ) (c : Child P) (front : List (Child P)) (t : Child P) (back : List (Child P))
    → nodes c.page ≡ Inner (front ++ t ∷ back)
    → walk s nodes (suc (suc below)) c ≡ Key c.page c.key ∷ Page c.page ∷ flat_map (walk s nodes (suc below)) (under c.key (front ++ t ∷ back))
unfolding walk
inner_is s nodes below c front t back h =
    ap (λ node. Key c.page c.key ∷ Page c.page ∷ body (walk s nodes (suc below)) c node) (ap (placed s (suc below) c.key) h ∙ placed_inner s below c.key front t back)

-- an inner page with the child `t` behind others
pub inner_walk : {P E : Type 0} (s : Scale P E) (nodes : ℕ → Node P E) (below : ℕ) (c : Child P) (front : List (Child P)) (t : Child P) (back : List (Child P))
    → nodes c.page ≡ Inner (front ++ t ∷ back)
    → walk s nodes (suc (suc below)) c ≡ Key c.page c.key ∷ Page c.page ∷ (flat_map (walk s nodes (suc below)) (under c.key front) ++ (walk s nodes (suc below) (own c.key front t) ++ flat_map (walk s nodes (suc below)) back))
inner_walk s nodes below c front t back h =
    inner_is s nodes below c front t back h
    ∙ ap (λ ms. Key c.page c.key ∷ Page c.page ∷ ms) (ap (flat_map (walk s nodes (suc below))) (under_parts c.key front t back)
    ∙ flat_map-append (walk s nodes (suc below)) (under c.key front) (own c.key front t ∷ back))

-- children that are read before and after, and that no change touches
pub untouched : {P E : Type 0} (s : Scale P E) (old new : ℕ → Node P E) (levels : ℕ) (cs : List (Child P))
    → ((n : ℕ) → 0 < times n (flat_map (walk s old levels) cs) → new n ≡ old n) → flat_map (walk s new levels) cs ≡ flat_map (walk s old levels) cs
untouched s old new levels cs h = all_same old new (walk s old levels) (walk s new levels) cs (frame s old new levels) h

-- what stands behind a child begins with a key, or has a fault
pub starts_or_none : {P E : Type 0} (s : Scale P E) → (nodes : ℕ → Node P E) (levels : ℕ) (cs : List (Child P)) (low : P) (high : Option P)
    → Rises s low (flat_map (walk s nodes levels) cs) high → StartsWithKey (flat_map (walk s nodes levels) cs)
unfolding walk
starts_or_none s nodes levels [] low high r = tt
starts_or_none s nodes zero (c ∷ cs) low high r = absurd r
starts_or_none s nodes (suc levels) (c ∷ cs) low high r = tt

-- how often a page is read, part by part
pub times_inner : {P E : Type 0} (s : Scale P E) (nodes : ℕ → Node P E) (below : ℕ) (c : Child P) (front : List (Child P)) (t : Child P) (back : List (Child P)) (n : ℕ)
    → nodes c.page ≡ Inner (front ++ t ∷ back)
    → times n (walk s nodes (suc (suc below)) c) ≡ (if c.page == n then 1 else 0) + (times n (flat_map (walk s nodes (suc below)) (under c.key front)) + (times n (walk s nodes (suc below) (own c.key front t)) + times n (flat_map (walk s nodes (suc below)) back)))
times_inner s nodes below c front t back n h =
    ap (times n) (inner_walk s nodes below c front t back h)
    ∙ ap (λ k. (if c.page == n then 1 else 0) + k) (times_three n (flat_map (walk s nodes (suc below)) (under c.key front)) (walk s nodes (suc below) (own c.key front t)) (flat_map (walk s nodes (suc below)) back))

-- a number that is one of at most one is no other
pub once_here : (a n rest : ℕ) → (if a == n then 1 else 0) + rest ≤ 1 → 0 < rest → n ≢ a
once_here a n rest h t = grind arith

-- the part of an inner page
pub rest_ready : {P E : Type 0} (s : Scale P E) (x : E) (key low : P) (n m : ℕ) (k : P) (ms : Marks P E) (high : Option P) (free : List ℕ)
    → Ready s x key low (Key n k ∷ Page m ∷ ms) high free → Ready s x key k ms high free
rest_ready s x key low n m k ms high free r = record {
  rises = r.rises.1;
  above = r.above;
  below = r.below;
  clear = r.clear.1;
  once = λ i. let h = r.once i in omega (arith, h);
}

pub rest_took : {P E : Type 0} (s : Scale P E) (x : E) (low : P) (n : ℕ) (k : P) (old new : Marks P E) (high : Option P) (free left : List ℕ)
    → s.le low k ≡ true → Took s x k old new high free left → Took s x low (Key n k ∷ Page n ∷ old) (Key n k ∷ Page n ∷ new) high free left
rest_took s x low n k old new high free left h t = record {
  rows = t.rows;
  rises = (h, t.rises);
  pages = λ i. let h = t.pages i in omega (arith, h);
}

up_to_next : {P E : Type 0} (s : Scale P E) (x : E) (nodes : ℕ → Node P E) (levels : ℕ) (back : List (Child P)) (low : P) (high : Option P)
    → Rises s low (flat_map (walk s nodes levels) back) high → Clear s x (flat_map (walk s nodes levels) back) → IsPast s x back → UpTo s (s.to x) high
    → UpTo s (s.to x) (bound (flat_map (walk s nodes levels) back) high)
unfolding walk
up_to_next s x nodes levels [] low high r c p u = u
up_to_next s x nodes zero (b ∷ bs) low high r c p u = absurd r
up_to_next s x nodes (suc levels) (b ∷ bs) low high r c p u = elim c.0 [ inl h ↦ absurd (true≢false (sym h ∙ p)) | inr h ↦ h ]

-- a part of an inner page is ready where the code goes down
pub inner_ready : {P E : Type 0} (s : Scale P E) → IsOrder s → (x : E) (nodes : ℕ → Node P E) (below : ℕ) (c : Child P) (front : List (Child P)) (t : Child P) (back : List (Child P)) (low : P) (high : Option P) (free : List ℕ)
    → nodes c.page ≡ Inner (front ++ t ∷ back)
    → Ready s x c.key low (walk s nodes (suc (suc below)) c) high free
    → s.le (own c.key front t).key (s.from x) ≡ true → IsPast s x back
    → Between s x (own c.key front t).key c.key (flat_map (walk s nodes (suc below)) (under c.key front)) (walk s nodes (suc below) (own c.key front t)) (flat_map (walk s nodes (suc below)) back) high free
inner_ready s o x nodes below c front t back low high free h r above past =
    let A = flat_map (walk s nodes (suc below)) (under c.key front) in
    let T = walk s nodes (suc below) (own c.key front t) in
    let B = flat_map (walk s nodes (suc below)) back in
    let rest : Ready s x c.key c.key (A ++ (T ++ B)) high free =
    rest_ready s x c.key low c.page c.page c.key (A ++ (T ++ B)) high free (subst (λ ms. Ready s x c.key low ms high free) (inner_walk s nodes below c front t back h) r) in
    let u = rises_cut s o c.key A (T ++ B) high rest.rises in
    let v = rises_cut s o u.0 T B high u.2 in
    ready_between s o x (own c.key front t).key c.key c.key A T B high free rest above
    (up_to_next s x nodes (suc below) back v.0 high v.2 (clear_right s x T B (clear_right s x A (T ++ B) rest.clear)) past r.below)
    (starts_or_none s nodes (suc below) back v.0 high v.2)
