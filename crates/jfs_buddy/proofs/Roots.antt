-- The root has the greatest rank of all leaves, so it tells which runs are free.
use Rattle.std.proofs.Common.{◌≡◌, ◌<◌, ◌≤◌, ◌+◌, ◌*◌, ℕ, zero, suc, inl, inr, List, length, arith}
use Rattle.std.specs.Prelude.{◌==◌}
use Rattle.std.proofs.lemmas.Bool.{cases_lt, cond_both}
use Rattle.jfs_buddy.specs.Tree.{rank_at, first_of, leaves_of, leaf_at, greatest_of, HasMaxima}
use Rattle.jfs_buddy.specs.Buddy.{start_of, is_whole, joined, HasRun, IsBuddyTree}
use Rattle.jfs_buddy.proofs.Ranks.{leaves_of-next, first_of-next, first_of-below, leaf-root}
use Rattle.jfs_buddy.proofs.Joins.{shown}
use Rattle.jfs_buddy.proofs.Finds.{shown-run, run-shown}

-- a rank that the greatest of four children has is that of one of them
child-fits : (ranks : ℕ → ℕ) (n least : ℕ) → least ≤ greatest_of ranks n → (i : ℕ) × (i < 4) × (least ≤ ranks (4 * n + 1 + i))
child-fits ranks n least h =
    let first : 4 * n + 1 + 0 ≡ 4 * n + 1 = omega arith in
    let second : 4 * n + 1 + 1 ≡ 4 * n + 2 = omega arith in
    let third : 4 * n + 1 + 2 ≡ 4 * n + 3 = omega arith in
    let last : 4 * n + 1 + 3 ≡ 4 * n + 4 = omega arith in
    elim (cases_lt (ranks (4 * n + 1)) least) [
      | inr a ↦ (0, omega arith, rw first a)
      | inl a ↦ elim (cases_lt (ranks (4 * n + 2)) least) [
        | inr b ↦ (1, omega arith, rw second b)
        | inl b ↦ elim (cases_lt (ranks (4 * n + 3)) least) [ inr c ↦ (2, omega arith, rw third c) | inl c ↦ (3, omega arith, rw last (omega arith)) ]
      ]
    ]

-- a rank that a node has is that of a leaf
node-leaf : (height least : ℕ) (tree : List ℕ) → length tree ≡ first_of (suc height) → HasMaxima tree → (m depth j : ℕ) → depth + m ≡ height → j < leaves_of depth → least ≤ rank_at tree (first_of depth + j) → (v : ℕ) × (v < leaves_of height) × (least ≤ leaf_at height tree v)
node-leaf height least tree size inner zero depth j e within h = let a : depth ≡ height = omega arith in (j, rw a at within, rw a at h)
node-leaf height least tree size inner (suc m) depth j e within h =
    let n = first_of depth + j in
    let level = leaves_of-next depth in
    let next = first_of-next depth in
    let room : 4 * n + 4 < length tree = omega (arith, first_of-below (suc (suc depth)) (suc height) (omega arith), first_of-next (suc depth)) in
    let child = child-fits (rank_at tree) n least (rw (inner n room) at h) in
    let i = child.0 in
    let few = child.1 in
    let place : 4 * n + 1 + i ≡ first_of (suc depth) + (4 * j + i) = omega arith in
    node-leaf height least tree size inner m (suc depth) (4 * j + i) (omega arith) (omega arith) (rw place at child.2)

-- no leaf shows a greater rank than the whole tree as one run
joined-most : (own : ℕ → ℕ) (whole top v : ℕ) → ((u : ℕ) → own u ≤ whole) → joined own whole top v ≤ whole + top
unfolding joined
joined-most own whole zero v h = omega (arith, h v)
joined-most own whole (suc top) v h =
    cond_both (is_whole own whole (suc top) v) (shown (suc top) v (whole + suc top)) (joined own whole top v) (λ z. z ≤ whole + suc top)
    (λ e. cond_both (start_of (suc top) v == v) (whole + suc top) 0 (λ z. z ≤ whole + suc top) (λ f. omega arith) (λ f. omega arith))
    (λ e. omega (arith, joined-most own whole top v h))

-- the root has the rank of a leaf
pub root-leaf : (height whole least : ℕ) (own : ℕ → ℕ) (tree : List ℕ) → IsBuddyTree height whole own tree → least ≤ rank_at tree 0 → (v : ℕ) × (v < leaves_of height) × (least ≤ joined own whole (2 * height) v)
root-leaf height whole least own tree t h =
    let leaf = node-leaf height least tree t.size t.inner height 0 0 (omega arith) (omega arith) h in
    (leaf.0, leaf.1, rw (t.leaves leaf.0 leaf.1) at leaf.2)

-- the root has at most the rank of the whole tree as one run
pub root-most : (height whole : ℕ) (own : ℕ → ℕ) (tree : List ℕ) → IsBuddyTree height whole own tree → rank_at tree 0 ≤ whole + 2 * height
root-most height whole own tree t =
    let leaf = root-leaf height whole (rank_at tree 0) own tree t (omega arith) in
    omega (arith, leaf.2, joined-most own whole (2 * height) leaf.0 t.bounded)

-- where the root has a rank, a run of that rank is free
pub root-run : (height whole rank : ℕ) (own : ℕ → ℕ) (tree : List ℕ) → 0 < rank → 0 < whole → IsBuddyTree height whole own tree → rank ≤ rank_at tree 0 → (v : ℕ) × (v < leaves_of height) × HasRun own whole rank v
root-run height whole rank own tree some full t h =
    let leaf = root-leaf height whole rank own tree t h in
    (leaf.0, leaf.1, shown-run own whole (2 * height) rank leaf.0 some full t.bounded leaf.2)

-- where a run of a rank is free, the root has at least that rank
pub run-root : (height whole rank v : ℕ) (own : ℕ → ℕ) (tree : List ℕ) → rank ≤ whole + 2 * height → IsBuddyTree height whole own tree → v < leaves_of height → HasRun own whole rank v → rank ≤ rank_at tree 0
run-root height whole rank v own tree most t within run =
    let u = run-shown own whole (2 * height) rank v most run in
    let lower = u.1 in
    let leaf : u.0 < leaves_of height = omega arith in
    omega (arith, u.2, t.leaves u.0 leaf, leaf-root height tree t.size t.inner u.0 leaf)
