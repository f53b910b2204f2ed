-- How the block map keeps its blocks. These definitions stand for the prover alone: no clause of a public call needs them.
use Rattle.std.specs.Prelude.{◌≡◌, ℕ, ◌+◌, ◌^◌, ◌≤◌, Bool, true, false, if◌then◌else◌, List, length}
use Rattle.std.specs.List.{All}
use Rattle.std.specs.declared.cmp.Reverse.{Reverse}
use Rattle.jfs_bmap.specs.declared.freed.Freed.{Freed}
use Rattle.jfs_bmap.specs.Set.{taken_at}
use Rattle.jfs_bmap.specs.States.{BlockState, Free, Owned, Reserved, Busy}
use Rattle.jfs_bmap.specs.Freed.{runs_in, entry_at, IsInOrder, IsCovered}

-- Three sets, each within the next: the blocks with owners, these and the reserved ones, and these and the busy ones. Then the entries of
-- busy blocks, and the heap of the runs that entries released.
pub record Parts : Type 0 where
  pub owned : List Bool
  pub held : List Bool
  pub used : List Bool
  pub entries : List (List ℕ)
  pub heap : List (Reverse Freed)

-- the state of block `b`
unfoldable pub state_in : Parts → ℕ → BlockState
state_in p b = if taken_at p.owned b then Owned else (if taken_at p.held b then Reserved else (if taken_at p.used b then Busy (entry_at p.entries b) else Free))

-- What always holds of the released runs: they are in order and lie within the volume, and a busy block is in a run of its entry.
pub record ArePending (held used : List Bool) (entries : List (List ℕ)) (heap : List (Reverse Freed)) : Type 0 where
  pub order : IsInOrder heap
  pub within : All (λ run. run.first + run.blocks ≤ length used) (runs_in heap)
  pub covered : (b : ℕ) → taken_at held b ≡ false → taken_at used b ≡ true → IsCovered (runs_in heap) (entry_at entries b) b

-- What always holds of a map's parts.
pub record AreKept (p : Parts) : Type 0 where
  pub most : length p.owned ≤ 2 ^ 23
  pub held_blocks : length p.held ≡ length p.owned
  pub used_blocks : length p.used ≡ length p.owned
  pub are_held : (b : ℕ) → taken_at p.owned b ≡ true → taken_at p.held b ≡ true
  pub are_used : (b : ℕ) → taken_at p.held b ≡ true → taken_at p.used b ≡ true
  pub pending : ArePending p.held p.used p.entries p.heap
