-- Any change of a child: other children in its place, and none.
use Rattle.std.proofs.Common.{◌≡◌, ◌≢◌, ◌≤◌, ◌<◌, sym, ap, ◌∙◌, subst, ℕ, suc, ◌+◌, List, ◌∷◌, ◌++◌, ◌==◌, if◌then◌else◌, Option, Some, arith}
use Rattle.std.specs.List.{flat_map}
use Rattle.std.proofs.lemmas.List.Concat.{flat_map-append}
use Rattle.jfs_tree.specs.Walk.{Child, Node, Inner, Marks, Scale, Rises, IsOrder, rows_of, times, under, walk}
use Rattle.jfs_tree.specs.Edit.{count_in, Keeps, own, Tail, bound}
use Rattle.jfs_tree.proofs.Rising.{rises_join}
use Rattle.jfs_tree.proofs.Between.{rows_three, times_three, join_at_key}
use Rattle.jfs_tree.proofs.Steps.{times_inner, untouched, once_here}

-- a change of entries that is one wherever they stand
pub record IsLocal {E : Type 0} (change : List E → List E → Type 0) : Type 0 where
  pub within : (a old new b : List E) → change old new → change (a ++ (old ++ b)) (a ++ (new ++ b))

-- A part changed: its entries by the change, and its pages are these and the free ones.
pub record Changed {P E : Type 0} (s : Scale P E) (change : List E → List E → Type 0) (low : P) (old new : Marks P E) (high : Option P) (free left : List ℕ) : Type 0 where
  pub rows : change (rows_of old) (rows_of new)
  pub rises : Rises s low new high
  pub pages : (n : ℕ) → times n new + count_in n left ≡ times n old + count_in n free

pub changed_between : {P E : Type 0} (s : Scale P E) → IsOrder s → (change : List E → List E → Type 0) → IsLocal change → (low mid : P) (a old new b : Marks P E) (high : Option P) (free left : List ℕ)
    → Rises s low a (Some mid) → Tail s b high → Changed s change mid old new (bound b high) free left → Changed s change low (a ++ (old ++ b)) (a ++ (new ++ b)) high free left
changed_between s o change local low mid a old new b high free left ra rb t = record {
  rows = subst (λ p. change p (rows_of (a ++ (new ++ b)))) (sym (rows_three a old b))
      (subst (λ p. change (rows_of a ++ (rows_of old ++ rows_of b)) p) (sym (rows_three a new b)) (local.within (rows_of a) (rows_of old) (rows_of new) (rows_of b) t.rows));
  rises = rises_join s o low mid a (new ++ b) high ra (join_at_key s o mid new b high t.rises rb);
  pages = λ n. let e = times_three n a old b in let f = times_three n a new b in let h = t.pages n in omega (arith, e, f, h);
}

-- The children of a page whose child `t` gave way to `ts`, which may be none.
pub replaced_walk : {P E : Type 0} (s : Scale P E) (before middle after : ℕ → Node P E) (lower : ℕ) (c : Child P) (front : List (Child P)) (t : Child P) (ts back : List (Child P)) (free mid : List ℕ)
    → before c.page ≡ Inner (front ++ t ∷ back)
    → ((n : ℕ) → times n (walk s before (suc (suc lower)) c) + count_in n free ≤ 1)
    → ((n : ℕ) → times n (flat_map (walk s middle (suc lower)) ts) + count_in n mid ≡ times n (walk s before (suc lower) (own c.key front t)) + count_in n free)
    → Keeps before middle (walk s before (suc lower) (own c.key front t)) free
    → ((n : ℕ) → n ≢ c.page → count_in n mid ≡ 0 → after n ≡ middle n)
    → flat_map (walk s after (suc lower)) (under c.key front ++ (ts ++ back))
    ≡ flat_map (walk s before (suc lower)) (under c.key front) ++ (flat_map (walk s middle (suc lower)) ts ++ flat_map (walk s before (suc lower)) back)
replaced_walk s before middle after lower c front t ts back free mid was once pages below here =
    let A = flat_map (walk s before (suc lower)) (under c.key front) in
    let T = walk s before (suc lower) (own c.key front t) in
    let B = flat_map (walk s before (suc lower)) back in
    let M = flat_map (walk s middle (suc lower)) ts in
    let count : (n : ℕ) → ((if c.page == n then 1 else 0) + (times n A + (times n T + times n B + count_in n free)) ≤ 1) =
    λ n. let e = times_inner s before lower c front t back n was in let h = once n in omega (arith, e, h) in
    let side : (n : ℕ) → 0 < times n A + times n B → after n ≡ before n =
    λ n h. let k = count n in let p = pages n in
    here n (once_here c.page n (times n A + (times n T + times n B + count_in n free)) k (omega (arith, h))) (omega (arith, h, k, p))
    ∙ below n (omega (arith, h, k)) in
    let moved : (n : ℕ) → 0 < times n M → after n ≡ middle n =
    λ n h. let k = count n in let p = pages n in
    here n (once_here c.page n (times n A + (times n T + times n B + count_in n free)) k (omega (arith, h, p))) (omega (arith, h, p, k)) in
    flat_map-append (walk s after (suc lower)) (under c.key front) (ts ++ back)
    ∙ ap (λ ms. ms ++ flat_map (walk s after (suc lower)) (ts ++ back)) (untouched s before after (suc lower) (under c.key front) (λ n h. side n (omega (arith, h))))
    ∙ ap (λ ms. A ++ ms) (flat_map-append (walk s after (suc lower)) ts back)
    ∙ ap (λ ms. A ++ (ms ++ flat_map (walk s after (suc lower)) back)) (untouched s middle after (suc lower) ts moved)
    ∙ ap (λ ms. A ++ (M ++ ms)) (untouched s before after (suc lower) back (λ n h. side n (omega (arith, h))))
