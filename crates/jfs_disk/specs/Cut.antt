-- A disk that is cut into two parts, and joined again.
use Rattle.std.specs.Prelude.{ℕ, List, [], ◌++◌, map, take, drop, get_or}
use Rattle.jfs_disk.specs.Crash.{DiskState, last_of}

-- the states of the pages below one
abbrev pub lows_of : ℕ → List DiskState → List DiskState
lows_of at past = map (λ (state : DiskState). take at state) past

-- the states of the pages from one on
abbrev pub highs_of : ℕ → List DiskState → List DiskState
highs_of at past = map (λ (state : DiskState). drop at state) past

-- The low part's states, then the high part's: each beside the other part, as it was at its start or is at its end.
abbrev pub joined : List DiskState → List DiskState → List DiskState
joined low high = map (λ (state : DiskState). state ++ get_or high 0 []) low ++ map (λ (state : DiskState). last_of low ++ state) high
