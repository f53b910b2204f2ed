-- The next page of a group, as the loop names it.
use Rattle.std.proofs.Common.{◌≡◌, ◌≤◌, ◌+◌, ◌-◌, ◌*◌, ◌%◌, ◌++◌, ℕ, suc, List, length, refl, subst, arith}
use Rattle.jfs_logpages.specs.Ring.{ends_with, IsGroup, IsLast, IsWritten, AreEnds, HasFront}

pub next-place : (number ring low i start : ℕ) → number ≡ low + i → ring ≡ start → 2 + (number + 1) % ring ≡ 2 + suc (low + i) % start
next-place number ring low i start e r =
    let next : number + 1 ≡ suc (low + i) = omega arith in
    rw (next, r) refl

-- what was filled is the next page
pub next-page : (number low i high fill from ring : ℕ) (group group_ends old page : List ℕ) → number ≡ low + i → from ≡ 4080 * (i + 1) - fill → fill ≤ 4080
    → ((text ends : List ℕ) → 4080 * (number + 1) + 0 ≡ length text + from → AreEnds 0 (length text) ends → AreEnds 0 (length group) group_ends
    → HasFront text (number + 1) 0 old → IsWritten (text ++ group) (ends_with (length text) ends group_ends) (number + 1) page)
    → (text ends : List ℕ) → IsGroup ring text group ends group_ends low high → length text ≡ 4080 * low + fill → IsWritten (text ++ group) (ends_with (length text) ends group_ends) (suc (low + i)) page
next-page number low i high fill from ring group group_ends old page e f s filled text ends g size =
    let q : number + 1 ≡ suc (low + i) = omega arith in
    subst (λ (n : ℕ). IsWritten (text ++ group) (ends_with (length text) ends group_ends) n page) q
    (filled text ends (omega arith) g.before g.after (λ j h. absurd (omega arith)))

-- the last page has its own text in front
pub last-front : (ring number fill : ℕ) (bytes text ends : List ℕ) → IsLast ring number fill bytes text ends → HasFront text number fill bytes
last-front ring number fill bytes text ends last = λ i h. (omega (arith, last.size), last.page.begins i (omega (arith, last.stops)) (omega (arith, last.size)))
