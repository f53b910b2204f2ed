-- What a page of the map's file follows from, and which calls change it.
use Rattle.std.specs.Prelude.{◌≡◌, ℕ, ◌+◌, ◌*◌, ◌<◌, Bool, true, false, List}
use Rattle.jfs_buddy.specs.Laws.{AreBytes}
use Rattle.jfs_buddy.specs.Tree.{rank_of, rank_at}
use Rattle.jfs_bits.specs.Bits.{greatest_run}
use Rattle.jfs_dmapctl.specs.Control.{tree_of, IsControl}
use Rattle.jfs_bmap.specs.Pages.{leaf_ranks}
use Rattle.jfs_bits.specs.declared.descriptor.Pxd.{Pxd}
use Rattle.jfs_bmap.specs.MapFile.{tells_of, IsMapPage}
use Rattle.jfs_bmap.specs.States.{Free, Owned, Reserved, Blocks, state_of, is_owned, is_in_list, AreReserved, put_state, released, blocks_settled}

-- two canonical pages with one number, of volumes of the same size in the same groups with the same blocks taken, hold the same bytes
abbrev pub MapPagesAgree : Type 0
MapPagesAgree = (blocks agsize n : ℕ) (taken others : ℕ → Bool) (one other : List ℕ) → ((b : ℕ) → taken b ≡ others b) → AreBytes one → AreBytes other → IsMapPage blocks agsize taken n one → IsMapPage blocks agsize others n other → one ≡ other

-- the root of the control page of level 0 has the rank of the greatest free run of the first 2 ^ 23 blocks
abbrev pub RootIsGreatest : Type 0
RootIsGreatest = (taken : ℕ → Bool) (page : List ℕ) → IsControl 0 (leaf_ranks taken) page → rank_at (tree_of page) 0 ≡ rank_of (greatest_run taken 23 23)

-- two canonical pages with one number, of volumes of the same size in the same groups, hold the same bytes where the sets agree on the
-- blocks that the page tells of: a dmap depends on its own 8,192 blocks alone, a page of level 2 or 1 on none
abbrev pub OnlyTheirPagesChange : Type 0
OnlyTheirPagesChange = (blocks agsize n : ℕ) (taken others : ℕ → Bool) (one other : List ℕ) → ((b : ℕ) → tells_of n b ≡ true → taken b ≡ others b) → AreBytes one → AreBytes other → IsMapPage blocks agsize taken n one → IsMapPage blocks agsize others n other → one ≡ other

-- two pages of level 0 hold the same bytes where the greatest free run of each dmap is as long, which its root tells
abbrev pub RootsMakeLevelZero : Type 0
RootsMakeLevelZero = (taken others : ℕ → Bool) (one other : List ℕ) → ((k : ℕ) → k < 1024 → greatest_run (λ i. taken (8192 * k + i)) 13 13 ≡ greatest_run (λ i. others (8192 * k + i)) 13 13) → AreBytes one → AreBytes other → IsControl 0 (leaf_ranks taken) one → IsControl 0 (leaf_ranks others) other → one ≡ other

-- which blocks get owners or lose them, as the pages tell it
pub record ChangeOwners : Type 0 where
  -- none where blocks are reserved, given back or settled
  pub reserve : (m : Blocks) (list : List Pxd) → ((b : ℕ) → is_in_list list b ≡ true → state_of m b ≡ Free) → (b : ℕ) → is_owned (put_state Reserved list m) b ≡ is_owned m b
  pub give_back : (m : Blocks) (list : List Pxd) → AreReserved m list → (b : ℕ) → is_owned (put_state Free list m) b ≡ is_owned m b
  pub settle : (m : Blocks) (told b : ℕ) → is_owned (blocks_settled told m) b ≡ is_owned m b
  -- only those of the runs where runs get owners or are released
  pub own : (m : Blocks) (list : List Pxd) (b : ℕ) → is_in_list list b ≡ false → is_owned (put_state Owned list m) b ≡ is_owned m b
  pub release : (m : Blocks) (list : List Pxd) (entry b : ℕ) → is_in_list list b ≡ false → is_owned (released list entry m) b ≡ is_owned m b
