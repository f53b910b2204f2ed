-- A page with zeros from a place on, byte by byte.
use Rattle.std.proofs.Common.{◌≡◌, ◌≤◌, ◌<◌, refl, ℕ, zero, suc, ◌-◌, List, [], ◌∷◌, ◌++◌, length, take, replicate, get_or, arith}
use Rattle.jfs_truncate.specs.Tail.{zeroed}

zeros : (n i : ℕ) → ◌≡◌ {A = ℕ} (get_or (replicate n 0) i 0) 0
zeros zero i = refl
zeros (suc n) zero = refl
zeros (suc n) (suc i) = zeros n i

front : (from : ℕ) (page more : List ℕ) (j : ℕ) → j < from → from ≤ length page → get_or (take from page ++ more) j 0 ≡ get_or page j 0
front zero page more j l h = absurd (omega (arith, l))
front (suc from) [] more j l h = absurd (omega (arith, h))
front (suc from) (x ∷ page) more zero l h = refl
front (suc from) (x ∷ page) more (suc j) l h = front from page more j (omega (arith, l)) (omega (arith, h))

rest : (from : ℕ) (page more : List ℕ) (j : ℕ) → from ≤ j → from ≤ length page → ((i : ℕ) → get_or more i 0 ≡ 0) → get_or (take from page ++ more) j 0 ≡ 0
rest zero page more j l h none = none j
rest (suc from) [] more j l h none = absurd (omega (arith, h))
rest (suc from) (x ∷ page) more zero l h none = absurd (omega (arith, l))
rest (suc from) (x ∷ page) more (suc j) l h none = rest from page more j (omega (arith, l)) (omega (arith, h)) none

pub before : (from : ℕ) (page : List ℕ) (j : ℕ) → j < from → from ≤ length page → get_or (zeroed from page) j 0 ≡ get_or page j 0
before from page j l h = front from page (replicate (4096 - from) 0) j l h

pub behind : (from : ℕ) (page : List ℕ) (j : ℕ) → from ≤ j → from ≤ length page → get_or (zeroed from page) j 0 ≡ 0
behind from page j l h = rest from page (replicate (4096 - from) 0) j l h (zeros (4096 - from))
