-- What the ranks of joined leaves say about free runs; a tree without a free block.
use Rattle.std.proofs.Common.{◌≡◌, ◌<◌, ◌≤◌, ◌+◌, ◌-◌, ◌*◌, ◌/◌, ◌^◌, ℕ, suc, true, inl, inr, refl, sym, ap, ◌∙◌, List, length, arith}
use Rattle.std.specs.Prelude.{replicate, Option, Some, None, MatchOption}
use Rattle.std.proofs.lemmas.Bool.{cases_eq, cases_lt, both_ways}
use Rattle.std.proofs.lemmas.Nat.{pow-add, shl-shr}
use Rattle.std.proofs.lemmas.List.{get_or-replicate}
use Rattle.jfs_buddy.specs.Tree.{first_of, leaves_of, leaf_at, rank_at}
use Rattle.jfs_buddy.specs.Buddy.{start_of, is_whole, joined, Level, HasRun, IsLowestRun, IsBuddyTree}
use Rattle.jfs_buddy.proofs.Ranks.{first_of-next}
use Rattle.jfs_buddy.proofs.Joins.{shown-first, shown-other, same-coarser, start_of-start, is_whole-at, is_whole-same, is_whole-finer, joined-level, joined-own, level-there}
use Rattle.jfs_buddy.proofs.Changes.{joined-same}
use Rattle.jfs_buddy.proofs.Levels.{start_of-most}

-- where a run begins, each smaller one begins too
pub aligned-finer : (j k v : ℕ) → j ≤ k → start_of k v ≡ v → start_of j v ≡ v
aligned-finer j k v h e =
    let m : k ≡ (k - j) + j = omega arith in
    let whole_ : v ≡ v / 2 ^ k * 2 ^ (k - j) * 2 ^ j = sym e ∙ ap (λ (z : ℕ). v / 2 ^ k * z) (ap (λ (z : ℕ). 2 ^ z) m ∙ pow-add 2 (k - j) j) ∙ regroup (v / 2 ^ k) (2 ^ (k - j)) (2 ^ j) in
    ap (λ (z : ℕ). z / 2 ^ j * 2 ^ j) whole_ ∙ ap (λ (z : ℕ). z * 2 ^ j) (shl-shr (v / 2 ^ k * 2 ^ (k - j)) j) ∙ sym whole_
  where
    regroup : (a b c : ℕ) → a * (b * c) ≡ a * b * c
    regroup a b c = omega arith

-- a leaf that shows a rank has a run of that rank
pub shown-run : (own : ℕ → ℕ) (whole top rank v : ℕ) → 0 < rank → 0 < whole → ((u : ℕ) → own u ≤ whole) → rank ≤ joined own whole top v → HasRun own whole rank v
shown-run own whole top rank v some full bounded h =
    elim (cases_eq (own v) whole) [
      | inr n ↦ (let e = joined-own own whole top v n in record { part = λ b. omega arith; wholes = λ k s. absurd (n (omega (arith, bounded v))) })
      | inl e ↦ record { part = λ b. omega arith; wholes = λ k s. run k s (level-there own whole top v e) }
    ]
  where
    run : (k : ℕ) → rank ≡ whole + k → ((l : ℕ) × Level own whole top v l) → (start_of k v ≡ v) × (is_whole own whole k v ≡ true)
    run k s l =
        let value = joined-level own whole l.0 top v l.1.most l.1.run l.1.greatest in
        elim (cases_eq (start_of l.0 v) v) [
          | inr n ↦ absurd (omega (arith, value, shown-other l.0 v (whole + l.0) n))
          | inl first ↦
              let wide : k ≤ l.0 = omega (arith, value, shown-first l.0 v (whole + l.0) first) in
              (aligned-finer k l.0 v wide first, is_whole-finer own whole k l.0 v wide l.1.run)
        ]

-- where a leaf has a run of a rank, it or one before it shows at least that rank
pub run-shown : (own : ℕ → ℕ) (whole top rank v : ℕ) → rank ≤ whole + top → HasRun own whole rank v → (u : ℕ) × (u ≤ v) × (rank ≤ joined own whole top u)
run-shown own whole top rank v most h =
    elim (cases_eq (own v) whole) [
      | inr n ↦ elim (cases_lt whole rank) [
        | inl b ↦ absurd (n (is_whole-at own whole (rank - whole) v (h.wholes (rank - whole) (omega arith)).1 v refl))
        | inr b ↦ (v, omega arith, omega (arith, joined-own own whole top v n, h.part b))
      ]
      | inl e ↦ at_level (level-there own whole top v e)
    ]
  where
    at_level : ((l : ℕ) × Level own whole top v l) → (u : ℕ) × (u ≤ v) × (rank ≤ joined own whole top u)
    at_level l =
        let k = l.0 in
        let begin = start_of k v in
        let s = start_of-start k v in
        let value = joined-level own whole k top begin l.1.most (is_whole-same own whole k begin v s.0 ∙ l.1.run) (λ b. is_whole-same own whole (suc k) begin v (same-coarser k (suc k) begin v (omega arith) s.0) ∙ l.1.greatest b) ∙ shown-first k begin (whole + k) s.1 in
        (begin, start_of-most k v, elim (cases_lt (whole + k) rank) [ inr b ↦ omega (arith, value) | inl b ↦ absurd (too_small k l.1 b) ])
      where
        too_small : (k : ℕ) → Level own whole top v k → whole + k < rank → ⊥
        too_small k l b =
            let run = (h.wholes (rank - whole) (omega arith)).1 in
            both_ways (is_whole own whole (suc k) v) (l.greatest (omega arith)) (is_whole-finer own whole (suc k) (rank - whole) v (omega arith) run)

-- the lowest leaf that shows a rank has the lowest run
pub lowest-run : (height whole rank : ℕ) (own : ℕ → ℕ) (tree : List ℕ) (result : Option ℕ) → 0 < rank → 0 < whole → rank ≤ whole + 2 * height → IsBuddyTree height whole own tree → MatchOption result ((v : ℕ) → v < leaves_of height → leaf_at height tree v < rank) (λ leaf. (leaf < leaves_of height) × (rank ≤ leaf_at height tree leaf) × ((v : ℕ) → v < leaf → leaf_at height tree v < rank)) → IsLowestRun height own whole rank result
lowest-run height whole rank own tree None some full most t h =
    λ v b run. (let u = run-shown own whole (2 * height) rank v most run in let lower = u.1 in let shows = u.2 in absurd (omega (arith, h u.0 (omega arith), t.leaves u.0 (omega arith))))
lowest-run height whole rank own tree (Some leaf) some full most t h = (
  h.0,
  shown-run own whole (2 * height) rank leaf some full t.bounded (omega (arith, h.1, t.leaves leaf h.0)),
  λ v b run. (let within = h.0 in let u = run-shown own whole (2 * height) rank v most run in let lower = u.1 in let shows = u.2 in absurd (omega (arith, h.2 u.0 (omega arith), t.leaves u.0 (omega arith)))),
)

-- a tree without a free block
pub rank_at-cleared : (n i : ℕ) → i < n → rank_at (replicate n 255) i ≡ 0
unfolding rank_at
rank_at-cleared n i h = rw (get_or-replicate {A = ℕ} n i 255 0 h) refl

pub cleared-tree : (height whole : ℕ) (tree : List ℕ) → 0 < whole → length tree ≡ first_of (suc height) → tree ≡ replicate (length tree) 255 → IsBuddyTree height whole (λ v. 0) tree
cleared-tree height whole tree some size e =
    let none : (i : ℕ) → i < length tree → rank_at tree i ≡ 0 = λ i h. rw (← e) at (rank_at-cleared (length tree) i h) in
    record {
      bounded = λ v. omega arith;
      size = size;
      leaves = λ v b. none (first_of height + v) (omega (arith, first_of-next height)) ∙ sym (joined-own (λ v. 0) whole (2 * height) v (λ z. absurd (omega arith)));
      inner = λ n b. none n (omega arith) ∙ sym (rw (none (4 * n + 1) (omega arith), none (4 * n + 2) (omega arith), none (4 * n + 3) (omega arith), none (4 * n + 4) (omega arith)) refl);
    }

-- the same own ranks of the leaves have the same tree
pub tree-same : (height whole : ℕ) (own other : ℕ → ℕ) (tree : List ℕ) → ((v : ℕ) → v < leaves_of height → own v ≡ other v) → ((v : ℕ) → other v ≤ whole) → IsBuddyTree height whole own tree → IsBuddyTree height whole other tree
tree-same height whole own other tree h bounded t = record {
  bounded = bounded;
  size = t.size;
  leaves = λ v b. t.leaves v b ∙ joined-same own other whole (2 * height) v b h;
  inner = t.inner;
}
