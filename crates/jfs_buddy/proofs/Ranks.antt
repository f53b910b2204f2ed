-- Ranks of nodes: one of them replaced, and how they bound the leaves below.
use Rattle.std.proofs.Common.{◌≡◌, ◌≢◌, ◌<◌, ◌≤◌, ◌+◌, ◌-◌, ◌*◌, ◌/◌, ◌%◌, ◌^◌, ℕ, zero, suc, inl, inr, List, length, set, refl, sym, ap, ◌∙◌, arith}
use Rattle.std.specs.Prelude.{◌==◌, if◌then◌else◌}
use Rattle.std.proofs.lemmas.Bool.{cases_eq, cases_lt, eq-eqb, ne_eqb, cond-true, cond-false}
use Rattle.std.proofs.lemmas.Nat.{pow-add, pow_pos, div_below, le-div, mod_below, div-add-mod'}
use Rattle.std.proofs.Math.Nat.{mul_comm, div-mul-le_self}
use Rattle.std.proofs.lemmas.Grind.{get_or-set_at}
use Rattle.std.proofs.lemmas.List.{get_or-set_other}
use Rattle.jfs_buddy.specs.Tree.{rank_at, first_of, leaves_of, leaf_at, greatest_of, with_rank, HasMaxima, IsFirstFitting}

-- what is replaced, and what stays
pub replaced : (n m rank before after : ℕ) → after ≡ (if n == m then rank else before) → n ≡ m → after ≡ rank
replaced n m rank before after e h = e ∙ cond-true (n == m) rank before (eq-eqb n m h)

pub kept : (n m rank before after : ℕ) → after ≡ (if n == m then rank else before) → n ≢ m → after ≡ before
kept n m rank before after e h = e ∙ cond-false (n == m) rank before (ne_eqb n m h)

pub rank_at-set : (tree : List ℕ) (n m rank : ℕ) → n < length tree → rank < 256 → rank_at (set tree n ((rank + 255) % 256)) m ≡ (if n == m then rank else rank_at tree m)
unfolding rank_at
rank_at-set tree n m rank within fits =
    elim (cases_eq n m) [
      | inl e ↦ omega (arith, get_or-set_at tree n m ((rank + 255) % 256) 0 (sym e) within) ∙ sym (cond-true (n == m) rank (rank_at tree m) (eq-eqb n m e))
      | inr k ↦ ap (λ (z : ℕ). (z + 1) % 256) (get_or-set_other tree n m ((rank + 255) % 256) 0 (λ e. k (sym e))) ∙ sym (cond-false (n == m) rank (rank_at tree m) (ne_eqb n m k))
    ]

-- each node has the greatest rank of its children once node `n` gets this rank
abbrev pub HasMaximaWith : ℕ → (ℕ → ℕ) → ℕ → ℕ → Type 0
HasMaximaWith size ranks n rank = (m : ℕ) → 4 * m + 4 < size → with_rank ranks n rank m ≡ greatest_of ranks m

-- each node has the greatest rank that its children had while node `n` had the rank `before`
abbrev pub HadMaxima : ℕ → (ℕ → ℕ) → ℕ → ℕ → Type 0
HadMaxima size ranks n before = (m : ℕ) → 4 * m + 4 < size → ranks m ≡ greatest_of (with_rank ranks n before) m

-- after node `n` changed only the node above it may want another rank
pub above-changed : (size : ℕ) (ranks : ℕ → ℕ) (n above before rank : ℕ) → 0 < n → above ≡ (n - 1) / 4 → HadMaxima size ranks n before → (ranks above ≡ greatest_of (with_rank ranks n before) above → rank ≡ greatest_of ranks above) → HasMaximaWith size ranks above rank
above-changed size ranks n above before rank low up had here m room = let e = had m room in elim (cases_eq above m) [ inl same ↦ grind (arith, here) | inr other ↦ grind arith ]

-- none does where that one has the rank already
pub none-changed : (size : ℕ) (ranks : ℕ → ℕ) (n rank m : ℕ) → ranks n ≡ rank → HasMaximaWith size ranks n rank → 4 * m + 4 < size → ranks m ≡ greatest_of ranks m
none-changed size ranks n rank m is has room = let e = has m room in grind arith

-- once it gets the rank, it is the node that changed
pub rank-changed : (size : ℕ) (old new : ℕ → ℕ) (n before rank : ℕ) → before ≡ old n → ((k : ℕ) → new k ≡ with_rank old n rank k) → HasMaximaWith size old n rank → HadMaxima size new n before
rank-changed size old new n before rank was put has m room = put m ∙ has m room ∙ sym (rw (back (4 * m + 1), back (4 * m + 2), back (4 * m + 3), back (4 * m + 4)) refl)
  where
    back : (k : ℕ) → with_rank new n before k ≡ old k
    back k = grind (arith, put)

-- the levels of a tree
pub leaves_of-next : (height : ℕ) → leaves_of (suc height) ≡ 4 * leaves_of height
leaves_of-next height =
    let e : 2 * suc height ≡ 2 * height + 2 = omega arith in
    rw e (pow-add 2 (2 * height) 2 ∙ mul_comm (2 ^ (2 * height)) 4)

pub first_of-next : (height : ℕ) → first_of height + leaves_of height ≡ first_of (suc height)
first_of-next zero = refl
first_of-next (suc height) =
    let ih = first_of-next height in
    omega (arith, ih, leaves_of-next height)

pub first_of-below : (depth height : ℕ) → depth ≤ height → first_of depth ≤ first_of height
first_of-below depth zero h = let e : depth ≡ 0 = omega arith in rw e (omega arith)
first_of-below depth (suc height) h =
    elim (cases_eq depth (suc height)) [ inl e ↦ rw e (omega arith) | inr n ↦ omega (arith, first_of-below depth height (omega arith)) ]

-- each leaf below node `j` of a level has at most the node's rank
pub leaf-below : (height : ℕ) (tree : List ℕ) → length tree ≡ first_of (suc height) → HasMaxima tree → (m depth j v : ℕ) → depth + m ≡ height → j < leaves_of depth → j * leaves_of m ≤ v → v < (j + 1) * leaves_of m → leaf_at height tree v ≤ rank_at tree (first_of depth + j)
leaf-below height tree size inner zero depth j v e within from to =
    let a : depth ≡ height = omega arith in
    let b : j ≡ v = omega arith in
    rw (a, b) (omega arith)
leaf-below height tree size inner (suc m) depth j v e within from to =
    let width = leaves_of m in
    let four = leaves_of-next m in
    let level = leaves_of-next depth in
    let next = first_of-next depth in
    let high = first_of-below (suc (suc depth)) (suc height) (omega arith) in
    let n = first_of depth + j in
    let top = inner n (omega arith) in
    let wider : (j + 1) * leaves_of (suc m) ≡ 4 * (j * width) + 4 * width = rw four (omega arith) in
    let base : j * leaves_of (suc m) ≡ 4 * (j * width) = rw four (omega arith) in
    let p1 : 4 * n + 1 ≡ first_of (suc depth) + (4 * j + 0) = omega arith in
    let p2 : 4 * n + 2 ≡ first_of (suc depth) + (4 * j + 1) = omega arith in
    let p3 : 4 * n + 3 ≡ first_of (suc depth) + (4 * j + 2) = omega arith in
    let p4 : 4 * n + 4 ≡ first_of (suc depth) + (4 * j + 3) = omega arith in
    let greatest = rw (p1, p2, p3, p4) at top in
    elim (cases_lt v ((4 * j + 1) * width)) [
      | inl b ↦ omega (arith, greatest, leaf-below height tree size inner m (suc depth) (4 * j + 0) v (omega arith) (omega arith) (omega arith) (omega arith))
      | inr a ↦ elim (cases_lt v ((4 * j + 2) * width)) [
        | inl b ↦ omega (arith, greatest, leaf-below height tree size inner m (suc depth) (4 * j + 1) v (omega arith) (omega arith) (omega arith) (omega arith))
        | inr a ↦ elim (cases_lt v ((4 * j + 3) * width)) [
          | inl b ↦ omega (arith, greatest, leaf-below height tree size inner m (suc depth) (4 * j + 2) v (omega arith) (omega arith) (omega arith) (omega arith))
          | inr a ↦ omega (arith, greatest, leaf-below height tree size inner m (suc depth) (4 * j + 3) v (omega arith) (omega arith) (omega arith) (omega arith))
        ]
      ]
    ]

-- no leaf has a greater rank than the root
pub leaf-root : (height : ℕ) (tree : List ℕ) → length tree ≡ first_of (suc height) → HasMaxima tree → (v : ℕ) → v < leaves_of height → leaf_at height tree v ≤ rank_at tree 0
leaf-root height tree size inner v h = leaf-below height tree size inner height 0 0 v (omega arith) (omega arith) (omega arith) (omega arith)

-- a node of a level above the leaves has its children within the tree
pub room-below : (height size depth n : ℕ) → size ≡ first_of (suc height) → depth < height → n < first_of depth + leaves_of depth → 4 * n + 4 < size
room-below height size depth n e h k = omega (arith, first_of-next depth, first_of-below (suc (suc depth)) (suc height) (omega arith))

-- one level further down
pub descends : (height : ℕ) (tree : List ℕ) (least n child depth next : ℕ) → next ≡ suc depth → length tree ≡ first_of (suc height) → HasMaxima tree → depth < height → first_of depth ≤ n → n < first_of depth + leaves_of depth → least ≤ rank_at tree n → ((v : ℕ) → v < (n - first_of depth) * leaves_of (height - depth) → leaf_at height tree v < least) → IsFirstFitting (rank_at tree) n least child → (first_of next ≤ child) × (child < first_of next + leaves_of next) × (least ≤ rank_at tree child) × ((v : ℕ) → v < (child - first_of next) * leaves_of (height - next) → leaf_at height tree v < least)
descends height tree least n child depth next e size inner h level within fits left first =
    let i = first.0 in
    let j = n - first_of depth in
    let width = leaves_of (height - suc depth) in
    let wide : 0 < width = pow_pos (2 * (height - suc depth)) in
    let four : leaves_of (height - depth) ≡ 4 * width = (let m : height - depth ≡ suc (height - suc depth) = omega arith in rw m (leaves_of-next (height - suc depth))) in
    let more = leaves_of-next depth in
    let small = first.1 in
    let where_ = first.2 in
    let place : child - first_of (suc depth) ≡ 4 * j + i = omega arith in
    rw e (
      omega arith,
      omega arith,
      first.4 (let room = inner n (room-below height (length tree) depth n size h within) in rw room at fits),
      λ v k.
          let k : v < (4 * j + i) * width = rw place at k in
          elim (cases_lt v (j * leaves_of (height - depth))) [
            | inl a ↦ left v a
            | inr a ↦
                let q = v / width in
                let below : q < 4 * j + i = div_below v width (4 * j + i) wide k in
                let above : 4 * j ≤ q = le-div (4 * j) v width wide (omega (arith, rw four at a)) in
                let here = leaf-below height tree size inner (height - suc depth) (suc depth) q v (omega arith) (omega arith) (omega (arith, div-mul-le_self v width)) (omega (arith, div-add-mod' v width, mod_below v width wide)) in
                let same : first_of (suc depth) + q ≡ 4 * n + 1 + (q - 4 * j) = omega arith in
                omega (arith, rw same at here, first.3 (q - 4 * j) (omega arith))
          ],
    )
