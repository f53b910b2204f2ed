-- The list of syncpoints that both sides have. Where the log has halted and the volume was told, it has a mark of that, so that both know it from then on.
use Rattle.std.specs.Prelude.{◌≡◌, ℕ, suc, ◌^◌, ◌==◌, ◌||◌, Bool, false, if◌then◌else◌, List, [], ◌∷◌, ◌++◌}

-- more than any sync count
abbrev pub halt_mark : ℕ
halt_mark = 2 ^ 64

abbrev pub is_mark : ℕ → Bool
is_mark point = point == halt_mark

abbrev pub is_marked : List ℕ → Bool
is_marked [] = false
is_marked (point ∷ points) = is_mark point || is_marked points

-- how many syncpoints there are beside the mark
abbrev pub syncs : List ℕ → ℕ
syncs [] = 0
syncs (point ∷ points) = if is_mark point then syncs points else suc (syncs points)

-- the same sync counts, and marks alone behind them
abbrev pub IsMarked : List ℕ → List ℕ → Type 0
IsMarked counts points = (marks : List ℕ) × (counts ++ marks ≡ points) × (syncs marks ≡ 0)
