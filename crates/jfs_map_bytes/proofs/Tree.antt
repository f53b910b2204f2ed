-- The bytes of a tree are its buddy tree.
use Rattle.std.proofs.Common.{◌≡◌, ◌<◌, ◌≤◌, ◌+◌, ◌-◌, ◌*◌, ◌%◌, ℕ, zero, suc, inl, inr, length, get_or, refl, sym, ap, ◌∙◌, arith}
use Rattle.std.specs.Prelude.{◌==◌, nat_lt}
use Rattle.std.proofs.lemmas.Bool.{cases_lt, cond-true, cond-false, cond_both, lt-ltb, le-ltb}
use Rattle.std.proofs.lemmas.List.{get_or_past}
use Rattle.std.proofs.lemmas.List.FromFn.{length-map-range_with_len, get_or-map-range_with_len}
use Rattle.jfs_bits.specs.Field.{AreBytes}
use Rattle.jfs_buddy.specs.Tree.{rank_at, first_of, greatest_of, HasMaxima}
use Rattle.jfs_buddy.specs.Buddy.{start_of, is_whole, joined, IsBuddyTree}
use Rattle.jfs_buddy.proofs.Joins.{shown}
use Rattle.jfs_buddy.proofs.Ranks.{first_of-next}
use Rattle.jfs_map_bytes.specs.Tree.{rank_in, node_rank, tree_bytes}

-- ---- ranks

greatest-same : (one other : ℕ → ℕ) (n : ℕ) → ((k : ℕ) → 4 * n < k → one k ≡ other k) → greatest_of one n ≡ greatest_of other n
greatest-same one other n same = rw (same (4 * n + 1) (omega arith), same (4 * n + 2) (omega arith), same (4 * n + 3) (omega arith), same (4 * n + 4) (omega arith)) refl

greatest-most : (ranks : ℕ → ℕ) (n most : ℕ) → ((k : ℕ) → ranks k ≤ most) → greatest_of ranks n ≤ most
greatest-most ranks n most each = omega (arith, each (4 * n + 1), each (4 * n + 2), each (4 * n + 3), each (4 * n + 4))

rank-most : (leaf : ℕ → ℕ) (first most : ℕ) → ((v : ℕ) → leaf v ≤ most) → (levels n : ℕ) → rank_in leaf first levels n ≤ most
unfolding rank_in
rank-most leaf first most each zero n = each (n - first)
rank-most leaf first most each (suc levels) n =
    cond_both (nat_lt n first) (greatest_of (rank_in leaf first levels) n) (leaf (n - first)) (λ z. z ≤ most)
    (λ e. greatest-most (rank_in leaf first levels) n most (λ k. rank-most leaf first most each levels k))
    (λ e. each (n - first))

-- an inner node, and a leaf
rank-inner : (leaf : ℕ → ℕ) (first levels n : ℕ) → n < first → rank_in leaf first (suc levels) n ≡ greatest_of (rank_in leaf first levels) n
unfolding rank_in
rank-inner leaf first levels n h = cond-true (nat_lt n first) (greatest_of (rank_in leaf first levels) n) (leaf (n - first)) (lt-ltb n first h)

rank-leaf : (leaf : ℕ → ℕ) (first levels n : ℕ) → first ≤ n → rank_in leaf first levels n ≡ leaf (n - first)
unfolding rank_in
rank-leaf leaf first zero n h = refl
rank-leaf leaf first (suc levels) n h = cond-false (nat_lt n first) (greatest_of (rank_in leaf first levels) n) (leaf (n - first)) (le-ltb n first h)

-- so many levels are enough for a node that stands so many above the leaves
rank-enough : (leaf : ℕ → ℕ) (height levels n : ℕ) → levels ≤ height → first_of (height - levels) ≤ n → rank_in leaf (first_of height) levels n ≡ rank_in leaf (first_of height) (suc levels) n
rank-enough leaf height zero n h from =
    let all : height - 0 ≡ height = omega arith in
    rank-leaf leaf (first_of height) 0 n (rw all at from) ∙ sym (rank-leaf leaf (first_of height) 1 n (rw all at from))
rank-enough leaf height (suc levels) n h from =
    elim (cases_lt n (first_of height)) [
      | inr leaf_is ↦ rank-leaf leaf (first_of height) (suc levels) n leaf_is ∙ sym (rank-leaf leaf (first_of height) (suc (suc levels)) n leaf_is)
      | inl inner ↦
          rank-inner leaf (first_of height) levels n inner
          ∙ greatest-same (rank_in leaf (first_of height) levels) (rank_in leaf (first_of height) (suc levels)) n (λ k past. rank-enough leaf height levels k (omega arith) (below k past))
          ∙ sym (rank-inner leaf (first_of height) (suc levels) n inner)
    ]
  where
    next : height - levels ≡ suc (height - suc levels)
    next = omega arith

    below : (k : ℕ) → 4 * n < k → first_of (height - levels) ≤ k
    below k past = rw next (omega arith)

-- no leaf shows a greater rank than the whole tree as one run
joined-most : (own : ℕ → ℕ) (whole top v : ℕ) → ((u : ℕ) → own u ≤ whole) → joined own whole top v ≤ whole + top
unfolding joined
joined-most own whole zero v h = omega (arith, h v)
joined-most own whole (suc top) v h =
    cond_both (is_whole own whole (suc top) v) (shown (suc top) v (whole + suc top)) (joined own whole top v) (λ z. z ≤ whole + suc top)
    (λ e. cond_both (start_of (suc top) v == v) (whole + suc top) 0 (λ z. z ≤ whole + suc top) (λ f. omega arith) (λ f. omega arith))
    (λ e. omega (arith, joined-most own whole top v h))

-- ---- bytes

pub length-tree : (height whole : ℕ) (own : ℕ → ℕ) → length (tree_bytes height whole own) ≡ first_of (suc height)
unfolding tree_bytes
length-tree height whole own = length-map-range_with_len (λ n. (node_rank height whole own n + 255) % 256) 0 (first_of (suc height))

byte-is : (height whole : ℕ) (own : ℕ → ℕ) (n : ℕ) → n < first_of (suc height) → get_or (tree_bytes height whole own) n 0 ≡ (node_rank height whole own n + 255) % 256
unfolding tree_bytes
byte-is height whole own n h =
    get_or-map-range_with_len (λ n. (node_rank height whole own n + 255) % 256) 0 (first_of (suc height)) n n 0 h (omega arith)

pub bytes-tree : (height whole : ℕ) (own : ℕ → ℕ) → AreBytes (tree_bytes height whole own)
bytes-tree height whole own n =
    elim (cases_lt n (first_of (suc height))) [
      | inl h ↦ rw (byte-is height whole own n h) (omega arith)
      | inr h ↦ rw (get_or_past (tree_bytes height whole own) n 0 (omega (arith, length-tree height whole own))) (omega arith)
    ]

-- a rank that fits a byte is read back
rank-read : (height whole : ℕ) (own : ℕ → ℕ) (n : ℕ) → ((v : ℕ) → own v ≤ whole) → whole + 2 * height < 256 → n < first_of (suc height) → rank_at (tree_bytes height whole own) n ≡ node_rank height whole own n
unfolding rank_at
rank-read height whole own n bounded fits h =
    let most = rank-most (joined own whole (2 * height)) (first_of height) (whole + 2 * height) (λ v. joined-most own whole (2 * height) v bounded) height n in
    ap (λ (z : ℕ). (z + 1) % 256) (byte-is height whole own n h) ∙ back (node_rank height whole own n) (omega arith)
  where
    back : (r : ℕ) → r < 256 → ((r + 255) % 256 + 1) % 256 ≡ r
    back r small = omega arith

pub tree-is : (height whole : ℕ) (own : ℕ → ℕ) → ((v : ℕ) → own v ≤ whole) → whole + 2 * height < 256 → IsBuddyTree height whole own (tree_bytes height whole own)
tree-is height whole own bounded fits = record {
  bounded = bounded;
  size = length-tree height whole own;
  leaves = λ v h.
      let place : first_of height + v - first_of height ≡ v = omega arith in
      rank-read height whole own (first_of height + v) bounded fits (omega (arith, first_of-next height))
      ∙ rank-leaf (joined own whole (2 * height)) (first_of height) height (first_of height + v) (omega arith)
      ∙ ap (joined own whole (2 * height)) place;
  inner = inner;
}
  where
    leaf : ℕ → ℕ
    leaf = joined own whole (2 * height)

    root : first_of (height - height) ≡ 0
    root = let none : height - height ≡ 0 = omega arith in ap first_of none

    inner : HasMaxima (tree_bytes height whole own)
    inner n h =
        let size = length-tree height whole own in
        let room : 4 * n + 4 < first_of (suc height) = omega (arith, size) in
        rank-read height whole own n bounded fits (omega arith)
        ∙ rank-enough leaf height height n (omega arith) (omega (arith, root))
        ∙ rank-inner leaf (first_of height) height n (omega arith)
        ∙ children (rank-read height whole own (4 * n + 1) bounded fits (omega arith)) (rank-read height whole own (4 * n + 2) bounded fits (omega arith)) (rank-read height whole own (4 * n + 3) bounded fits (omega arith)) (rank-read height whole own (4 * n + 4) bounded fits (omega arith))
      where
        children : rank_at (tree_bytes height whole own) (4 * n + 1) ≡ node_rank height whole own (4 * n + 1) → rank_at (tree_bytes height whole own) (4 * n + 2) ≡ node_rank height whole own (4 * n + 2) → rank_at (tree_bytes height whole own) (4 * n + 3) ≡ node_rank height whole own (4 * n + 3) → rank_at (tree_bytes height whole own) (4 * n + 4) ≡ node_rank height whole own (4 * n + 4) → greatest_of (rank_in leaf (first_of height) height) n ≡ greatest_of (rank_at (tree_bytes height whole own)) n
        children a b c d = rw (a, b, c, d) refl
