-- A root whose content moves to a new page.
use Rattle.std.proofs.Common.{◌≡◌, ◌≢◌, ◌≤◌, ◌<◌, refl, sym, ap, ◌∙◌, subst, ℕ, suc, ◌+◌, List, [], ◌∷◌, ◌==◌, if◌then◌else◌, Option, arith}
use Rattle.jfs_tree.specs.Walk.{Child, Node, Leaf, Inner, Broken, Page, Key, Marks, Scale, Rises, IsOrder, rows_of, times, placed, body, walk}
use Rattle.jfs_tree.specs.Edit.{count_in}
use Rattle.jfs_tree.proofs.Frame.{Agree, same_body, frame}
use Rattle.jfs_tree.proofs.Between.{append_nil}
use Rattle.jfs_tree.proofs.Leaves.{rows_leaf, times_leaf}
use Rattle.jfs_tree.proofs.Growing.{rises_elsewhere}

-- content is the same on whichever page it stands
pub record Moved {P E : Type 0} (s : Scale P E) (low : P) (high : Option P) (old new : Marks P E) : Type 0 where
  pub rows : rows_of new ≡ rows_of old
  pub rises : Rises s low old high → Rises s low new high
  pub pages : (n : ℕ) → times n new ≡ times n old

body_moved : {P E : Type 0} (s : Scale P E) (f : Child P → Marks P E) (k : P) (a b : ℕ) (node : Node P E) (low : P) (high : Option P)
    → Rises s low (body f (record { key = k; page = a }) node) high → Moved s low high (body f (record { key = k; page = a }) node) (body f (record { key = k; page = b }) node)
body_moved {P} s f k a b (Leaf es) low high r = record {
  rows = rows_leaf P b es ∙ sym (rows_leaf P a es);
  rises = rises_elsewhere s a b low es high;
  pages = λ n. times_leaf P n b es ∙ sym (times_leaf P n a es);
}
body_moved s f k a b (Inner cs) low high r = record { rows = refl; rises = λ h. h; pages = λ n. refl }
body_moved s f k a b (Broken rule) low high r = absurd r

not_root : (root n t f : ℕ) → ((if root == n then 1 else 0) + t) + f ≤ 1 → 0 < t → n ≢ root
not_root root n t f h p e = grind arith

not_q : (q n t r f l : ℕ) → (r + t) + f ≤ 1 → f ≡ (if q == n then 1 else 0) + l → 0 < t → n ≢ q
not_q q n t r f l h e p i = grind arith

-- the new page, below a root that has one child
pub root_moves : {P E : Type 0} (s : Scale P E) → IsOrder s → (before after : ℕ → Node P E) (lower root q : ℕ) (k j low : P) (high : Option P) (free left : List ℕ)
    → after root ≡ Inner (record { key = j; page = q } ∷ []) → after q ≡ before root
    → ((n : ℕ) → n ≢ root → n ≢ q → after n ≡ before n)
    → ((n : ℕ) → times n (walk s before (suc lower) (record { key = k; page = root })) + count_in n free ≤ 1)
    → ((n : ℕ) → count_in n free ≡ (if q == n then 1 else 0) + count_in n left)
    → Rises s low (walk s before (suc lower) (record { key = k; page = root })) high
    → Rises s low (walk s after (suc (suc lower)) (record { key = k; page = root })) high
    × (rows_of (walk s after (suc (suc lower)) (record { key = k; page = root })) ≡ rows_of (walk s before (suc lower) (record { key = k; page = root })))
    × ((n : ℕ) → times n (walk s after (suc (suc lower)) (record { key = k; page = root })) + count_in n left ≡ times n (walk s before (suc lower) (record { key = k; page = root })) + count_in n free)
unfolding walk
root_moves {P} {E} s o before after lower root q k j low high free left is_root is_q others once taken r =
    let c : Child P = record { key = k; page = root } in
    let d : Child P = record { key = k; page = q } in
    let agree : Agree before after (body (walk s before lower) c (placed s lower k (before root))) =
    λ n t. others n (not_root root n (times n (body (walk s before lower) c (placed s lower k (before root)))) (count_in n free) (once n) t) (not_q q n (times n (body (walk s before lower) c (placed s lower k (before root)))) _ (count_in n free) (count_in n left) (once n) (taken n) t) in
    let same = same_body before after (walk s before lower) (walk s after lower) c (placed s lower k (before root)) (frame s before after lower) agree in
    let moved = body_moved s (walk s after lower) k root q (placed s lower k (before root)) k high (subst (λ ms. Rises s k ms high) (sym same) r.1) in
    let page_q : walk s after (suc lower) d ≡ Key q k ∷ Page q ∷ body (walk s after lower) d (placed s lower k (before root)) = ap (λ node. Key q k ∷ Page q ∷ body (walk s after lower) d (placed s lower k node)) is_q in
    let whole : walk s after (suc (suc lower)) c ≡ Key root k ∷ Page root ∷ Key q k ∷ Page q ∷ body (walk s after lower) d (placed s lower k (before root)) =
    ap (λ node. Key root k ∷ Page root ∷ body (walk s after (suc lower)) c (placed s (suc lower) k node)) is_root
    ∙ ap (λ ms. Key root k ∷ Page root ∷ ms) (append_nil (walk s after (suc lower) d) ∙ page_q) in (
      subst (λ ms. Rises s low ms high) (sym whole) (r.0, (o.refl_le k, moved.rises (subst (λ ms. Rises s k ms high) (sym same) r.1))),
      ap rows_of whole ∙ moved.rows ∙ ap rows_of same,
      λ n. let e = ap (times n) whole in let f = moved.pages n in let g = ap (times n) same in let h = taken n in omega (arith, e, f, g, h),
    )
