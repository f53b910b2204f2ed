-- What each block of a volume is in use for.
use Rattle.std.specs.Prelude.{◌≡◌, ℕ, ◌+◌, ◌-◌, nat_le, Bool, true, false, not, ◌||◌, if◌then◌else◌, List, [], ◌∷◌, length, slice_index_or}
use Rattle.jfs_bits.specs.Bits.{is_in_run, is_taken, count_below}
use Rattle.jfs_bits.specs.declared.descriptor.Pxd.{Pxd}
use Rattle.jfs_bmap.specs.Set.{each_below}

-- A block is free; or has an owner; or is reserved for an entry that is being made; or is busy, that is freed by an entry that
-- isn't durable yet.
pub data BlockState : Type 0 where
  Free : BlockState
  Owned : BlockState
  Reserved : BlockState
  Busy : ℕ → BlockState

abbrev pub is_free_state : BlockState → Bool
is_free_state Free = true
is_free_state Owned = false
is_free_state Reserved = false
is_free_state (Busy entry) = false

abbrev pub is_owned_state : BlockState → Bool
is_owned_state Free = false
is_owned_state Owned = true
is_owned_state Reserved = false
is_owned_state (Busy entry) = false

abbrev pub is_reserved_state : BlockState → Bool
is_reserved_state Free = false
is_reserved_state Owned = false
is_reserved_state Reserved = true
is_reserved_state (Busy entry) = false

abbrev pub is_busy_state : BlockState → Bool
is_busy_state Free = false
is_busy_state Owned = false
is_busy_state Reserved = false
is_busy_state (Busy entry) = true

-- The block map: the state of each block, the size of an allocation group, and how many runs can be released without memory.
pub record Blocks : Type 0 where
  pub states : List BlockState
  pub agsize : ℕ
  pub spare : ℕ

-- block `b`; one past the end counts as owned
abbrev pub state_of : Blocks → ℕ → BlockState
state_of m b = slice_index_or m.states b Owned

-- a search passes over a block that isn't free
abbrev pub is_used : Blocks → ℕ → Bool
is_used m b = not (is_free_state (state_of m b))

-- a page of the map has a block set while it has an owner
abbrev pub is_owned : Blocks → ℕ → Bool
is_owned m b = is_owned_state (state_of m b)

-- a block is reserved for an entry that is being made
abbrev pub is_reserved : Blocks → ℕ → Bool
is_reserved m b = is_reserved_state (state_of m b)

abbrev pub free_count : Blocks → ℕ
free_count m = count_below (length m.states) (λ b. is_free_state (state_of m b))

abbrev pub busy_count : Blocks → ℕ
busy_count m = count_below (length m.states) (λ b. is_busy_state (state_of m b))

-- how many blocks have no owner: the free, the reserved and the busy ones
abbrev pub unowned_count : Blocks → ℕ
unowned_count m = count_below (length m.states) (λ b. not (is_owned m b))

-- ---- runs of blocks

-- block `b` is in one of the runs
unfoldable pub is_in_list : List Pxd → ℕ → Bool
is_in_list [] b = false
is_in_list (run ∷ runs) b = is_in_run run.addr run.len b || is_in_list runs b

-- how many blocks the runs have
unfoldable pub total_of : List Pxd → ℕ
total_of [] = 0
total_of (run ∷ runs) = run.len + total_of runs

-- no block stands in two runs
unfoldable pub AreApart : List Pxd → Type 0
AreApart [] = Unit {0}
AreApart (run ∷ runs) = ((b : ℕ) → is_in_run run.addr run.len b ≡ true → is_in_list runs b ≡ false) × AreApart runs

-- the run's blocks are reserved
abbrev pub IsReservedRun : Blocks → Pxd → Type 0
IsReservedRun m run = (b : ℕ) → is_in_run run.addr run.len b ≡ true → state_of m b ≡ Reserved

-- the runs' blocks are reserved and stand there once
pub record AreReserved (m : Blocks) (list : List Pxd) : Type 0 where
  pub reserved : (b : ℕ) → is_in_list list b ≡ true → state_of m b ≡ Reserved
  pub once : AreApart list

-- ---- changes

-- each block's state changed by its number and state
abbrev pub changed : (ℕ → BlockState → BlockState) → Blocks → Blocks
changed change m = record m { states = each_below (length m.states) (λ b. change b (state_of m b)) }

-- the runs' blocks in another state
abbrev pub put_state : BlockState → List Pxd → Blocks → Blocks
put_state state list m = changed (λ b s. if is_in_list list b then state else s) m

-- an owned block that an entry releases is busy for it; a block without an owner is passed over
abbrev pub released_state : ℕ → BlockState → BlockState
released_state entry Free = Free
released_state entry Owned = Busy entry
released_state entry Reserved = Reserved
released_state entry (Busy earlier) = Busy earlier

abbrev pub released : List Pxd → ℕ → Blocks → Blocks
released list entry m = record (changed (λ b s. if is_in_list list b then released_state entry s else s) m) { spare = m.spare - length list }

-- a block that an entry released is free once that entry is durable
abbrev pub settled_state : ℕ → BlockState → BlockState
settled_state told Free = Free
settled_state told Owned = Owned
settled_state told Reserved = Reserved
settled_state told (Busy entry) = if nat_le entry told then Free else Busy entry

abbrev pub blocks_settled : ℕ → Blocks → Blocks
blocks_settled told m = changed (λ b s. settled_state told s) m

-- the map once every busy block is settled
abbrev pub all_settled : Blocks → Blocks
all_settled m = changed (λ b s. if is_busy_state s then Free else s) m

-- the map of a volume whose owned blocks are those that a bit map has; all others are free
abbrev pub fresh : List ℕ → ℕ → ℕ → Blocks
fresh set blocks agsize = record { states = each_below blocks (λ b. if is_taken set b then Owned else Free); agsize = agsize; spare = 0 }
