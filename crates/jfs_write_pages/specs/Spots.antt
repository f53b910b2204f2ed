-- Which blocks of a file a write takes, and the extents that its tree gets.
use Rattle.std.specs.Prelude.{◌<◌, ℕ, zero, suc, ◌+◌, ◌-◌, ◌^◌, ◌==◌, ◌&&◌, Bool, true, false, nat_le, nat_lt, min, if◌then◌else◌, List, [], ◌∷◌, ◌++◌, Option, Some, None}
use Rattle.jfs_bits.specs.declared.extent.Xad.{Xad}
use Rattle.jfs_data_steps.specs.xtree.specs.Writing.{is_recorded}
use Rattle.jfs_write_pages.specs.declared.spot.Spot.{Spot}

-- ---- where blocks of a file stand

abbrev pub has_block : Xad → ℕ → Bool
has_block e k = nat_le e.offset k && nat_lt k (e.offset + e.at.len)

abbrev pub spot_in : Xad → ℕ → Spot
spot_in e k = record { index = k; block = e.at.addr + (k - e.offset); recorded = is_recorded e }

-- block `k` of a file; there is none in a hole
abbrev pub spot_at : List Xad → ℕ → Option Spot
spot_at [] k = None
spot_at (e ∷ es) k = if has_block e k then Some (spot_in e k) else spot_at es k

-- so many blocks from one on
unfoldable pub spots_from : List Xad → ℕ → ℕ → List (Option Spot)
spots_from es k zero = []
spots_from es k (suc n) = spot_at es k ∷ spots_from es (suc k) n

-- The recorded blocks of an extent from a block of the file on and before another, and of extents.
abbrev pub recorded_spot : ℕ → ℕ → Spot
recorded_spot k b = record { index = k; block = b; recorded = true }

unfoldable pub run_spots : ℕ → ℕ → ℕ → List Spot
run_spots k b zero = []
run_spots k b (suc n) = recorded_spot k b ∷ run_spots (suc k) (suc b) n

abbrev pub spots_in : ℕ → ℕ → Xad → List Spot
spots_in from to e = if is_recorded e then run_spots (e.offset + (from - e.offset)) (e.at.addr + (from - e.offset)) (min (to - e.offset) e.at.len - (from - e.offset)) else []

abbrev pub spots_between : ℕ → ℕ → List Xad → List Spot
spots_between from to [] = []
spots_between from to (e ∷ es) = spots_in from to e ++ spots_between from to es

-- ---- new blocks for holes

abbrev pub holes_in : List (Option Spot) → ℕ
holes_in [] = 0
holes_in (None ∷ ss) = suc (holes_in ss)
holes_in (Some s ∷ ss) = holes_in ss

-- a new block of the volume holds nothing yet
abbrev pub new_spot : ℕ → ℕ → Spot
new_spot k b = record { index = k; block = b; recorded = false }

-- The blocks of a file from one on, each hole of which gets the next new block.
abbrev pub placed : ℕ → List (Option Spot) → List ℕ → List Spot
placed k [] news = []
placed k (Some s ∷ ss) news = s ∷ placed (suc k) ss news
placed k (None ∷ ss) [] = []
placed k (None ∷ ss) (b ∷ news) = new_spot k b ∷ placed (suc k) ss news

-- the block of the volume behind the last extent; 0 where there is none
abbrev pub last_end : ℕ → List Xad → ℕ
last_end end [] = end
last_end end (e ∷ es) = last_end (e.at.addr + e.at.len) es

abbrev pub hint_behind : List Xad → ℕ
hint_behind es = last_end 0 es

-- ---- the extents of blocks that weren't recorded

abbrev pub one_block : ℕ → ℕ → Xad
one_block k b = record { flag = 0; offset = k; at = record { len = 1; addr = b } }

-- a block before extents: the first one begins with it, where it goes on behind the block in the file and on the volume
abbrev pub goes_on : ℕ → ℕ → Xad → Bool
goes_on k b x = x.offset == suc k && (x.at.addr == suc b && nat_lt x.at.len (2 ^ 20))

abbrev pub longer : ℕ → ℕ → Xad → Xad
longer k b x = record { flag = x.flag; offset = k; at = record { len = suc x.at.len; addr = b } }

abbrev pub before : ℕ → ℕ → List Xad → List Xad
before k b [] = one_block k b ∷ []
before k b (x ∷ xs) = if goes_on k b x then longer k b x ∷ xs else one_block k b ∷ x ∷ xs

abbrev pub extents_for : List Spot → List Xad
extents_for [] = []
extents_for (s ∷ ss) = if s.recorded then extents_for ss else before s.index s.block (extents_for ss)

-- ---- within the volume

-- each lies within the volume, and within the greatest size of a file
abbrev pub AllSpots : ℕ → List Spot → Type 0
AllSpots blocks [] = Unit {0}
AllSpots blocks (s ∷ ss) = (s.block < blocks) × (s.index < 2 ^ 40) × AllSpots blocks ss

abbrev pub SpotsFit : List Spot → Type 0
SpotsFit ss = AllSpots (2 ^ 32) ss
