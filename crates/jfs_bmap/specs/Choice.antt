-- Which blocks a reservation takes: the wanted one and those behind it while they are free; then, for what is left, the lowest
-- free aligned run of the least power of two that is at least as many, else of half that, and so on.
use Rattle.std.specs.Prelude.{◌≡◌, ℕ, ◌-◌, ◌*◌, ◌^◌, ◌<◌, min, Bool, ◌||◌, ◌==◌, if◌then◌else◌, List, [], ◌∷◌, Some, None}
use Rattle.jfs_bits.specs.Bits.{is_in_run}
use Rattle.jfs_bits.specs.declared.descriptor.Pxd.{Pxd}
use Rattle.jfs_bmap.specs.Set.{IsLowest, IsFreeFront}

-- The next run, where so many blocks are left. (2 ^ k < 2 * left holds exactly up to the least power of two that is at least `left`.)
pub record IsNextRun (taken : ℕ → Bool) (left : ℕ) (run : Pxd) : Type 0 where
  pub l2 : ℕ
  pub size : 2 ^ l2 < 2 * left
  pub lowest : IsLowest taken l2 (Some run.addr)
  pub none_greater : (k : ℕ) → l2 < k → 2 ^ k < 2 * left → IsLowest taken k None
  pub len : run.len ≡ min left (2 ^ l2)

-- a run's blocks are taken too
abbrev pub with_run : (ℕ → Bool) → Pxd → ℕ → Bool
with_run taken run b = is_in_run run.addr run.len b || taken b

-- runs of `left` blocks together, each the next one after those before it
unfoldable pub AreNextRuns : (ℕ → Bool) → ℕ → List Pxd → Type 0
AreNextRuns taken left [] = left ≡ 0
AreNextRuns taken left (run ∷ runs) = IsNextRun taken left run × AreNextRuns (with_run taken run) (left - run.len) runs

-- a run in front, unless it has no block
abbrev pub with_front : Pxd → List Pxd → List Pxd
with_front run runs = if run.len == 0 then runs else run ∷ runs

-- the runs of a reservation of `n` blocks, the first wanted at `hint`
pub record IsReservation (taken : ℕ → Bool) (hint n : ℕ) (list : List Pxd) : Type 0 where
  pub front : Pxd
  pub rest : List Pxd
  pub wanted : front.addr ≡ hint
  pub free : IsFreeFront taken hint n front.len
  pub next : AreNextRuns (with_run taken front) (n - front.len) rest
  pub runs : list ≡ with_front front rest

-- single blocks, each the lowest that is free once those before it are taken
unfoldable pub AreLowestBlocks : (ℕ → Bool) → List Pxd → Type 0
AreLowestBlocks taken [] = Unit {0}
AreLowestBlocks taken (run ∷ runs) = (run.len ≡ 1) × IsLowest taken 0 (Some run.addr) × AreLowestBlocks (with_run taken run) runs
