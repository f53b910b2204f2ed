-- The leaves of a tree get fresh own ranks, one after the other.
use Rattle.std.proofs.Common.{◌≡◌, ◌<◌, ◌≤◌, ◌+◌, ℕ, ◌⊎◌, inl, inr, List, sym, ap, ◌∙◌, arith}
use Rattle.std.specs.Prelude.{nat_lt, ◌==◌, if◌then◌else◌}
use Rattle.std.proofs.lemmas.Bool.{cases_eq, cases_lt, lt-ltb, le-ltb, cond-true, cond-false, cond_both, eq-eqb, ne_eqb}
use Rattle.jfs_buddy.specs.Tree.{leaves_of}
use Rattle.jfs_buddy.specs.Buddy.{with_own, IsBuddyTree}
use Rattle.jfs_buddy.proofs.Finds.{tree-same}

-- the leaves before `end` have the fresh ranks
abbrev pub renewed : (ℕ → ℕ) → (ℕ → ℕ) → ℕ → ℕ → ℕ
renewed own fresh end v = if nat_lt v end then fresh v else own v

renewed-most : (whole : ℕ) (own fresh : ℕ → ℕ) (end : ℕ) → ((v : ℕ) → own v ≤ whole) → ((v : ℕ) → fresh v ≤ whole) → (v : ℕ) → renewed own fresh end v ≤ whole
renewed-most whole own fresh end h f v = cond_both (nat_lt v end) (fresh v) (own v) (λ z. z ≤ whole) (λ e. f v) (λ e. h v)

pub renew-starts : (height whole : ℕ) (own fresh : ℕ → ℕ) (tree : List ℕ) (first last : ℕ) → ((v : ℕ) → fresh v ≤ whole) → ((v : ℕ) → v < leaves_of height → (v < first) ⊎ (last ≤ v) → own v ≡ fresh v) → IsBuddyTree height whole own tree → IsBuddyTree height whole (renewed own fresh first) tree
renew-starts height whole own fresh tree first last f same t =
    tree-same height whole own (renewed own fresh first) tree (λ v b. elim (cases_lt v first) [
      | inl a ↦ same v b (inl a) ∙ sym (cond-true (nat_lt v first) (fresh v) (own v) (lt-ltb v first a))
      | inr a ↦ sym (cond-false (nat_lt v first) (fresh v) (own v) (le-ltb v first a))
    ]) (renewed-most whole own fresh first t.bounded f) t

pub renew-goes_on : (height whole : ℕ) (own fresh : ℕ → ℕ) (tree : List ℕ) (leaf : ℕ) → ((v : ℕ) → own v ≤ whole) → ((v : ℕ) → fresh v ≤ whole) → IsBuddyTree height whole (with_own (renewed own fresh leaf) leaf (fresh leaf)) tree → IsBuddyTree height whole (renewed own fresh (leaf + 1)) tree
renew-goes_on height whole own fresh tree leaf bounded f t =
    tree-same height whole (with_own (renewed own fresh leaf) leaf (fresh leaf)) (renewed own fresh (leaf + 1)) tree (λ v b. elim (cases_eq leaf v) [
      | inl e ↦ cond-true (leaf == v) (fresh leaf) (renewed own fresh leaf v) (eq-eqb leaf v e) ∙ ap fresh e ∙ sym (cond-true (nat_lt v (leaf + 1)) (fresh v) (own v) (lt-ltb v (leaf + 1) (omega arith)))
      | inr n ↦ cond-false (leaf == v) (fresh leaf) (renewed own fresh leaf v) (ne_eqb leaf v n) ∙ elim (cases_lt v leaf) [
        | inl a ↦ cond-true (nat_lt v leaf) (fresh v) (own v) (lt-ltb v leaf a) ∙ sym (cond-true (nat_lt v (leaf + 1)) (fresh v) (own v) (lt-ltb v (leaf + 1) (omega arith)))
        | inr a ↦ cond-false (nat_lt v leaf) (fresh v) (own v) (le-ltb v leaf a) ∙ sym (cond-false (nat_lt v (leaf + 1)) (fresh v) (own v) (le-ltb v (leaf + 1) (omega arith)))
      ]
    ]) (renewed-most whole own fresh (leaf + 1) bounded f) t

pub renew-ends : (height whole : ℕ) (own fresh : ℕ → ℕ) (tree : List ℕ) (first last end : ℕ) → last ≤ end → ((v : ℕ) → fresh v ≤ whole) → ((v : ℕ) → v < leaves_of height → (v < first) ⊎ (last ≤ v) → own v ≡ fresh v) → IsBuddyTree height whole (renewed own fresh end) tree → IsBuddyTree height whole fresh tree
renew-ends height whole own fresh tree first last end h f same t =
    tree-same height whole (renewed own fresh end) fresh tree (λ v b. elim (cases_lt v end) [
      | inl a ↦ cond-true (nat_lt v end) (fresh v) (own v) (lt-ltb v end a)
      | inr a ↦ cond-false (nat_lt v end) (fresh v) (own v) (le-ltb v end a) ∙ same v b (inr (omega arith))
    ]) f t
