-- The first node of a level of a tree.
use Rattle.std.proofs.Common.{◌≡◌, ◌≤◌, ◌+◌, ◌*◌, ℕ, zero, suc, inl, inr, add-one, refl, arith}
use Rattle.std.proofs.lemmas.Bool.{cases_eq}
use Rattle.jfs_buddy.specs.Tree.{first_of}

-- one level after another, as the code counts them
pub first-next : (n : ℕ) → first_of (n + 1) ≡ 4 * first_of n + 1
first-next n = rw add-one refl

-- a lower level begins no earlier
rising : (m n : ℕ) → m ≤ n → first_of m ≤ first_of n
rising m zero h = let e : m ≡ 0 = omega arith in rw e (omega arith)
rising m (suc n) h = elim (cases_eq m (suc n)) [ inl e ↦ rw e (omega arith) | inr e ↦ omega (arith, rising m n (omega arith)) ]

-- no level of a page's tree begins behind its leaves
pub first-most : (n : ℕ) → n ≤ 5 → first_of n ≤ 341
first-most n h = rising n 5 h
