-- The order of what a redo writes.
use Rattle.std.specs.Prelude.{◌≡◌, ◌⊎◌, ℕ, List, length, [], ◌∷◌, ◌++◌}
use Rattle.jfs_disk.specs.Crash.{DiskState, LeavesTorn, last_of, written, settled}
use Rattle.jfs_disk.specs.Moment.{IsResting}
use Rattle.jfs_super.specs.Super.{super_of}
use Rattle.jfs_super.specs.declared.fields.Super.{Super}

-- page 8 was written, and synced
abbrev pub IsMarkedOn : List DiskState → List DiskState → Type 0
IsMarkedOn old new = (bytes : List ℕ) × (new ≡ old ++ (written 8 bytes (last_of old) ∷ settled (written 8 bytes (last_of old)) ∷ []))

-- That was done last, once nothing else was pending: so a crash that leaves the new page 8 leaves all else that redo made.
abbrev pub IsMarkedLast : List DiskState → Type 0
IsMarkedLast past = (before : List DiskState) × IsResting (last_of before) × IsMarkedOn before past

-- for the prover alone: page 8 is to be written and synced; the write failed, or nothing was written, or the sync wasn't made, or both were
abbrev pub MarksPage : List ℕ → List DiskState → List DiskState → Type 0
MarksPage bytes old new =
    LeavesTorn 8 bytes old new
    ⊎ ((new ≡ old ++ written 8 bytes (last_of old) ∷ []) ⊎ (new ≡ old ++ (written 8 bytes (last_of old) ∷ settled (written 8 bytes (last_of old)) ∷ [])))

-- nothing was written; or that was done, with this superblock
abbrev pub Marks : Super → List ℕ → List DiskState → List DiskState → Type 0
Marks s bytes old new = (new ≡ old) ⊎ ((super_of bytes ≡ s) × (length bytes ≡ 4096) × MarksPage bytes old new)
