-- Trees over the same leaves hold the same bytes.
use Rattle.std.proofs.Common.{◌≡◌, ◌<◌, ◌≤◌, ◌+◌, ◌-◌, ◌*◌, ◌%◌, ℕ, zero, suc, inl, inr, List, refl, sym, ◌∙◌, arith}
use Rattle.std.proofs.lemmas.Bool.{cases_lt}
use Rattle.std.proofs.lemmas.Grind.{same_number_lists}
use Rattle.jfs_buddy.specs.Tree.{rank_at, first_of, leaves_of, greatest_of}
use Rattle.jfs_buddy.specs.Buddy.{IsBuddyTree}
use Rattle.jfs_buddy.specs.Laws.{TreesAgree}
use Rattle.jfs_buddy.proofs.Ranks.{first_of-next}

greatest-same : (one other : ℕ → ℕ) (n : ℕ) → ((k : ℕ) → 4 * n < k → k < 4 * n + 5 → one k ≡ other k) → greatest_of one n ≡ greatest_of other n
greatest-same one other n same =
    rw (same (4 * n + 1) (omega arith) (omega arith), same (4 * n + 2) (omega arith) (omega arith), same (4 * n + 3) (omega arith) (omega arith), same (4 * n + 4) (omega arith) (omega arith)) refl

-- from the last node up to the root, each node has the same rank in both
ranks-same : (height whole : ℕ) (own : ℕ → ℕ) (one other : List ℕ) → IsBuddyTree height whole own one → IsBuddyTree height whole own other → (m n : ℕ) → n < first_of (suc height) → first_of (suc height) ≤ n + m → rank_at one n ≡ rank_at other n
ranks-same height whole own one other a b zero n within most = absurd (omega arith)
ranks-same height whole own one other a b (suc m) n within most =
    elim (cases_lt n (first_of height)) [
      | inl inner ↦
          a.inner n (omega (arith, a.size))
          ∙ (greatest-same (rank_at one) (rank_at other) n (λ k past near. ranks-same height whole own one other a b m k (omega arith) (omega arith))
          ∙ sym (b.inner n (omega (arith, b.size))))
      | inr leaf ↦
          let here : first_of height + (n - first_of height) ≡ n = omega arith in
          let known : n - first_of height < leaves_of height = omega (arith, first_of-next height) in
          rw here at (a.leaves (n - first_of height) known ∙ sym (b.leaves (n - first_of height) known))
    ]

byte-same : (x y : ℕ) → x < 256 → y < 256 → (x + 1) % 256 ≡ (y + 1) % 256 → x ≡ y
byte-same x y small little same = omega arith

pub trees-same : TreesAgree
unfolding rank_at
trees-same height whole own one other bytes others a b =
    same_number_lists one other (a.size ∙ sym b.size) (λ k h. byte-same _ _ (bytes k) (others k)
    (ranks-same height whole own one other a b (first_of (suc height)) k (omega (arith, a.size, h)) (omega arith)))
