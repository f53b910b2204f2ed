-- Runs of blocks, and the blocks that they have.
use Rattle.std.specs.Prelude.{◌≡◌, ◌≤◌, ◌<◌, ◌+◌, ◌||◌, ℕ, Bool, true, false, nat_lt, if◌then◌else◌, List, ◌++◌, length}
use Rattle.std.specs.List.{All}
use Rattle.jfs_bits.specs.declared.descriptor.Pxd.{Pxd}
use Rattle.jfs_bmap.specs.States.{Blocks, is_in_list, total_of, AreApart, AreReserved}
use Rattle.jfs_tree.specs.Edit.{count_in}
use Rattle.jfs_tree.specs.Form.{AllBelow}
use Rattle.jfs_tree.specs.Fresh.{blocks_of}

-- how often a block stands among the blocks of runs that are apart: once where it lies in one of them, else not at all
abbrev pub one_if : Bool → ℕ
one_if there = if there then 1 else 0

pub record RunsAreBlocks : Type 0 where
  pub number : (runs : List Pxd) → length (blocks_of runs) ≡ total_of runs
  pub counts : (runs : List Pxd) → AreApart runs → (b : ℕ) → count_in b (blocks_of runs) ≡ one_if (is_in_list runs b)
  pub apart : (runs : List Pxd) → ((b : ℕ) → count_in b (blocks_of runs) ≤ 1) → AreApart runs
  pub within : (runs : List Pxd) (blocks : ℕ) → All (λ run. run.addr + run.len ≤ blocks) runs → AllBelow blocks (blocks_of runs)

-- Of the blocks of reserved runs some were taken, from the front; these runs have the others.
pub record WasTaken (m : Blocks) (list left : List Pxd) (taken : List ℕ) : Type 0 where
  pub reserved : AreReserved m list
  pub parts : blocks_of list ≡ taken ++ blocks_of left

-- the others are reserved, and a block of the list was taken or is one of them, never both
pub record IsLeft (m : Blocks) (list left : List Pxd) (taken : List ℕ) : Type 0 where
  pub reserved : AreReserved m left
  pub others : (b : ℕ) → is_in_list list b ≡ (nat_lt 0 (count_in b taken) || is_in_list left b)
  pub apart : (b : ℕ) → is_in_list left b ≡ true → count_in b taken ≡ 0

abbrev pub LeftIsReserved : Type 0
LeftIsReserved = (m : Blocks) (list left : List Pxd) (taken : List ℕ) → WasTaken m list left taken → IsLeft m list left taken
