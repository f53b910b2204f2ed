-- The runs that entries released, and the entry that each busy block waits for. These definitions stand for the prover alone: no clause of
-- a public call needs them.
use Rattle.std.specs.Prelude.{◌≡◌, ℕ, ◌/◌, ◌%◌, Bool, true, not, ◌&&◌, nat_le, List, [], map, slice_index_or}
use Rattle.std.specs.List.{Contains}
use Rattle.std.specs.Ordering.{nat_cmp, ordering_then}
use Rattle.std.specs.BinaryHeap.{IsHeap}
use Rattle.std.specs.declared.cmp.Ordering.{Ordering}
use Rattle.std.specs.declared.cmp.Reverse.{Reverse}
use Rattle.jfs_bits.specs.Bits.{is_in_run}
use Rattle.jfs_bmap.specs.declared.freed.Freed.{Freed}
use Rattle.jfs_bmap.specs.Set.{taken_at}

-- the run has block `b`
abbrev pub covers : Freed → ℕ → Bool
covers freed b = is_in_run freed.first freed.blocks b

-- one of the runs has block `b`, released by that entry
abbrev pub IsCovered : List Freed → ℕ → ℕ → Type 0
IsCovered freed entry b = (run : Freed) × Contains freed run × (covers run b ≡ true) × (run.entry ≡ entry)

-- the runs of a heap
abbrev pub runs_in : List (Reverse Freed) → List Freed
runs_in heap = map (λ r. r.0) heap

-- a heap's order, whose greatest stands first: the run of the lowest entry
abbrev pub compare : Reverse Freed → Reverse Freed → Ordering
compare x y = ordering_then (nat_cmp y.0.entry x.0.entry) (ordering_then (nat_cmp y.0.first x.0.first) (nat_cmp y.0.blocks x.0.blocks))

abbrev pub IsInOrder : List (Reverse Freed) → Type 0
IsInOrder heap = IsHeap compare heap

-- the entry that block `b` waits for, where it is busy, in lists for 8,192 blocks each; 0 where a list ends before the block
abbrev pub entry_at : List (List ℕ) → ℕ → ℕ
entry_at pieces b = slice_index_or (slice_index_or pieces (b / 8192) []) (b % 8192) 0

-- block `b` isn't held, and that entry is acknowledged as durable: it is at most `told`
abbrev pub is_due : List Bool → List (List ℕ) → ℕ → ℕ → Bool
is_due held pieces told b = not (taken_at held b) && nat_le (entry_at pieces b) told
