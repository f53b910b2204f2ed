-- Two pages, as a view of them has to show.
use Rattle.std.proofs.Common.{◌≡◌, ℕ, zero, suc, List, [], ◌∷◌, length, arith}
use Rattle.jfs_ranges.specs.View.{AreWhole}

pub two_whole : (low high : List ℕ) → length low ≡ 4096 → length high ≡ 4096 → AreWhole 2 (low ∷ high ∷ [])
two_whole low high a b zero h = a
two_whole low high a b (suc zero) h = b
two_whole low high a b (suc (suc n)) h = absurd (omega arith)
