-- What is reserved for a call.
use Rattle.std.specs.Prelude.{◌≡◌, ◌⊎◌, ◌≤◌, ◌<◌, ℕ, ◌+◌, Bool, true, false, ◌||◌, nat_lt, if◌then◌else◌, List, [], ◌∷◌, ◌++◌, length, Option, Some, None, Result, Ok, Err}
use Rattle.std.specs.List.{All}
use Rattle.jfs_bits.specs.declared.descriptor.Pxd.{Pxd}
use Rattle.jfs_room.specs.bmap.specs.Set.{IsLowest, HasFreeRun}
use Rattle.jfs_room.specs.bmap.specs.States.{Blocks, Free, Reserved, state_of, is_used, is_owned, free_count, changed, put_state, is_in_list, AreApart}
use Rattle.jfs_room.specs.bmap.specs.Choice.{AreLowestBlocks}
use Rattle.jfs_room.specs.page_tree.specs.Edit.{count_in}
use Rattle.jfs_room.specs.page_tree.specs.Form.{AllBelow}
use Rattle.jfs_room.specs.page_tree.specs.Fresh.{blocks_of}
use Rattle.jfs_claim.specs.declared.reserve.Want.{Want}
use Rattle.jfs_claim.specs.declared.reserve.Claim.{Claim}
use Rattle.jfs_claim.specs.declared.reserve.ClaimError.{ClaimError}
use Rattle.jfs_claim.specs.declared.reserve.ClaimError.TheVariants.{NeedsLog, Memory}

-- ---- which blocks

abbrev pub run_list : Option Pxd → List Pxd
run_list None = []
run_list (Some run) = run ∷ []

-- the run, and then the blocks
abbrev pub claimed : Claim → List Pxd
claimed claim = run_list claim.run ++ claim.blocks

-- a run is there exactly where one is wanted: the lowest aligned one of four free blocks
abbrev pub IsRun : Blocks → Bool → Option Pxd → Type 0
IsRun map wanted None = wanted ≡ false
IsRun map wanted (Some run) = (wanted ≡ true) × (run.len ≡ 4) × IsLowest (is_used map) 2 (Some run.addr)

-- blocks that were free are reserved, each once, and nothing else has changed
pub record Reserves (before now : Blocks) (list : List Pxd) : Type 0 where
  pub free : (b : ℕ) → is_in_list list b ≡ true → state_of before b ≡ Free
  pub once : AreApart list
  pub within : All (λ run. run.addr + run.len ≤ length before.states) list
  pub now_is : now ≡ put_state Reserved list before

-- so many blocks were reserved one by one, each the lowest that was free then
pub record TakesEach (before now : Blocks) (n : ℕ) (list : List Pxd) : Type 0 where
  pub lowest : AreLowestBlocks (is_used before) list
  pub number : length list ≡ n
  pub reserves : Reserves before now list

-- What a call wants is reserved: first the run, then the blocks; all of these are still to be had.
pub record Claims (before now : Blocks) (want : Want) (claim : Claim) : Type 0 where
  pub run : IsRun before want.run claim.run
  pub each : TakesEach (put_state Reserved (run_list claim.run) before) now want.blocks claim.blocks
  pub all_left : claim.fresh ≡ claim.blocks
  pub reserves : Reserves before now (claimed claim)

-- ---- for trees

-- so many blocks without owners, within the volume, each once
pub record AreFresh (map : Blocks) (n : ℕ) (blocks : List ℕ) : Type 0 where
  pub number : length blocks ≡ n
  pub within : AllBelow (length map.states) blocks
  pub once : (b : ℕ) → count_in b blocks ≤ 1
  pub unowned : (b : ℕ) → 0 < count_in b blocks → is_owned map b ≡ false

-- ---- when nothing is reserved

abbrev pub total : Want → ℕ
total want = (if want.run then 4 else 0) + want.blocks

-- as many blocks as are wanted are free, and an aligned run of four where one is
abbrev pub HasFree : Blocks → Want → Type 0
HasFree map want = (total want ≤ free_count map) × (want.run ≡ true → HasFreeRun (is_used map) 2)

abbrev pub LacksRun : Blocks → Bool → Type 0
LacksRun map wanted = (wanted ≡ true) × IsLowest (is_used map) 2 None

-- too few are free, or no run is
abbrev pub Lacks : Blocks → Want → Type 0
Lacks map want = (free_count map < total want) ⊎ LacksRun map want.run

abbrev pub AnswersByFree : Blocks → Want → Result Claim ClaimError → Type 0
AnswersByFree map want (Ok claim) = HasFree map want
AnswersByFree map want (Err NeedsLog) = Lacks map want
AnswersByFree map want (Err Memory) = HasFree map want

-- the same where no run is wanted
abbrev pub AnswersByCount : Blocks → ℕ → Result Claim ClaimError → Type 0
AnswersByCount map n (Ok claim) = n ≤ free_count map
AnswersByCount map n (Err NeedsLog) = free_count map < n
AnswersByCount map n (Err Memory) = n ≤ free_count map

-- ---- what becomes of it

-- exactly the blocks of these runs and these single ones are reserved beside what was
abbrev pub reserving : List Pxd → List ℕ → Blocks → Blocks
reserving runs blocks map = changed (λ b s. if is_in_list runs b || nat_lt 0 (count_in b blocks) then Reserved else s) map

-- Of the blocks of a claim some were taken, from the front, and the others are still to be had.
pub record IsPartlyTaken (before now : Blocks) (claim : Claim) (taken : List ℕ) : Type 0 where
  pub reserves : Reserves before now (claimed claim)
  pub parts : blocks_of claim.blocks ≡ taken ++ blocks_of claim.fresh
