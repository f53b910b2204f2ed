-- The level of a leaf, as its run's first leaf shows it; a tree whose leaves were replaced.
use Rattle.std.proofs.Common.{◌≡◌, ◌≢◌, ◌<◌, ◌≤◌, ◌+◌, ◌*◌, ◌^◌, ℕ, suc, sym, ◌∙◌, List, arith}
use Rattle.std.specs.Prelude.{◌==◌}
use Rattle.std.proofs.lemmas.Bool.{cond_both}
use Rattle.std.proofs.Math.Nat.{div-mul-le_self}
use Rattle.jfs_buddy.proofs.Halves.{left_of, right_of, left-first, right-first}
use Rattle.jfs_buddy.specs.Tree.{leaves_of, leaf_at}
use Rattle.jfs_buddy.specs.Buddy.{start_of, with_own, Level, IsBuddyTree}
use Rattle.jfs_buddy.proofs.Joins.{shown-first, same-coarser, start_of-start, is_whole-at, is_whole-same, joined-level, level-there, level-shown}
use Rattle.jfs_buddy.proofs.Changes.{run-within}

-- a run's first leaf is no later than its others
pub start_of-most : (k v : ℕ) → start_of k v ≤ v
start_of-most k v = div-mul-le_self v (2 ^ k)

pub level-found : (height whole : ℕ) (own : ℕ → ℕ) (tree : List ℕ) (w k : ℕ) → 0 < whole → IsBuddyTree height whole own tree → w < leaves_of height → leaf_at height tree (start_of k w) ≡ whole + k → (own w ≡ whole) × Level own whole (2 * height) w k
level-found height whole own tree w k some t within e =
    let begin = start_of k w in
    let same = (start_of-start k w).0 in
    let l = (level-shown own whole (2 * height) k begin some t.bounded (sym (t.leaves begin (omega (arith, start_of-most k w))) ∙ e)).1 in (
      is_whole-at own whole k begin l.run w (sym same),
      record {
        most = l.most;
        run = is_whole-same own whole k w begin (sym same) ∙ l.run;
        greatest = λ b. is_whole-same own whole (suc k) w begin (same-coarser k (suc k) w begin (omega arith) (sym same)) ∙ l.greatest b;
      },
    )

pub level-missing : (height whole : ℕ) (own : ℕ → ℕ) (tree : List ℕ) (w : ℕ) → IsBuddyTree height whole own tree → w < leaves_of height → ((k : ℕ) → k < 2 * height + 1 → leaf_at height tree (start_of k w) ≢ whole + k) → own w ≢ whole
level-missing height whole own tree w t within none full =
    let l = level-there own whole (2 * height) w full in
    let k = l.0 in
    let begin = start_of k w in
    let s = start_of-start k w in
    let most = l.1.most in
    none k (omega arith) (
    t.leaves begin (omega (arith, start_of-most k w))
    ∙ joined-level own whole k (2 * height) begin most (is_whole-same own whole k begin w s.0 ∙ l.1.run) (λ b. is_whole-same own whole (suc k) begin w (same-coarser k (suc k) begin w (omega arith) s.0) ∙ l.1.greatest b)
    ∙ shown-first k begin (whole + k) s.1)

pub with_own-bounded : (own : ℕ → ℕ) (whole w rank : ℕ) → ((v : ℕ) → own v ≤ whole) → rank ≤ whole → (v : ℕ) → with_own own w rank v ≤ whole
with_own-bounded own whole w rank h r v = cond_both (w == v) rank (own v) (λ z. z ≤ whole) (λ e. r) (λ e. h v)

-- the first leaves of a run's halves are leaves
pub halves-within : (top k w : ℕ) → suc k ≤ top → w < 2 ^ top → (left_of k w < 2 ^ top) × (right_of k w < 2 ^ top)
halves-within top k w h b = (run-within (suc k) top (left_of k w) w h b (left-first k w).2, run-within (suc k) top (right_of k w) w h b (right-first k w).2)
