-- A cache that a view has on loan, as the view's device. (For the prover alone.)
use Rattle.std.specs.Prelude.{◌≤◌, ◌⊎◌, ℕ, List, [], ◌∷◌, map}
use Rattle.std.proofs.Common.{inl, inr, arith}
use Rattle.jfs_disk.specs.Image.{Image}
use Rattle.jfs_disk.specs.Crash.{DiskState, PageHistory}
use Rattle.jfs_disk.specs.declared.disk.Disk.{Ghosts}
use Rattle.jfs_ranges.specs.View.{Device, AreWhole}
use Rattle.jfs_pages.specs.declared.cache.PageCache.{PageCache}
use Rattle.jfs_pages.specs.Kept.{dirty_in, pending_of}

-- bytes as one that a crash may leave
abbrev pub held_as : List ℕ → PageHistory
held_as bytes = record { seen = bytes; stable = []; writes = [] }

-- the states of a cache's disk; and what tells the loan's name and the number of blocks, and the pages that a read of the disk gives
abbrev pub states_lent : {D : Type 0} → (d : Ghosts D) → PageCache D d → ℕ → Unit {0} ⊎ (d.tells ⊎ d.tells_crashes) → List DiskState
states_lent d cache loan (inl it) = (held_as (loan ∷ cache.blocks ∷ []) ∷ []) ∷ []
states_lent d cache loan (inr (inl told)) = map held_as (d.image cache.disk) ∷ []
states_lent d cache loan (inr (inr told)) = d.past cache.disk

abbrev pub lent : {D : Type 0} → (d : Ghosts D) → PageCache D d → ℕ → Device (Unit {0} ⊎ (d.tells ⊎ d.tells_crashes))
lent d cache loan = record { pages = d.page_count cache.disk; room = d.room cache.disk; pending = map pending_of (dirty_in cache.kept); states = states_lent d cache loan }

pub first_whole : (few blocks : ℕ) (image : Image) → few ≤ blocks → AreWhole blocks image → AreWhole few image
first_whole few blocks image h are n l = are n (omega (arith, h, l))
