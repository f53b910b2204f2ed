-- Buddies: aligned runs of leaves, joined while they are wholly free. (JFS Layout, block map.)
use Rattle.std.specs.Prelude.{◌≡◌, ℕ, zero, suc, ◌+◌, ◌*◌, ◌/◌, ◌^◌, ◌<◌, ◌≤◌, Bool, true, false, ◌==◌, if◌then◌else◌, List, length, Option, Some, None}
use Rattle.jfs_bits.specs.Bits.{all_below}
use Rattle.jfs_buddy.specs.Tree.{first_of, leaves_of, leaf_at, HasMaxima}

-- where the aligned run of 2 ^ k leaves begins that has leaf `v`
abbrev pub start_of : ℕ → ℕ → ℕ
start_of k v = v / 2 ^ k * 2 ^ k

-- each leaf of that run is wholly free, by the leaves' own ranks
unfoldable pub is_whole : (ℕ → ℕ) → ℕ → ℕ → ℕ → Bool
is_whole own whole k v = all_below (2 ^ k) (λ i. own (start_of k v + i) == whole)

-- the rank of leaf `v` where runs of at most 2 ^ top leaves are joined: the greatest wholly free aligned run that has the leaf
-- shows its rank at its first leaf and 0 at the others; a leaf that isn't wholly free keeps its own
unfoldable pub joined : (ℕ → ℕ) → ℕ → ℕ → ℕ → ℕ
joined own whole zero v = own v
joined own whole (suc top) v = if is_whole own whole (suc top) v then (if start_of (suc top) v == v then whole + suc top else 0) else joined own whole top v

-- For the prover alone: the greatest whole run that has leaf `v` has 2 ^ k leaves.
pub record Level (own : ℕ → ℕ) (whole top v k : ℕ) : Type 0 where
  pub most : k ≤ top
  pub run : is_whole own whole k v ≡ true
  pub greatest : k < top → is_whole own whole (suc k) v ≡ false

-- a free run of this rank lies at leaf `v`: in the leaf by its own rank, or as the wholly free run of 2 ^ k leaves that begins there
pub record HasRun (own : ℕ → ℕ) (whole rank v : ℕ) : Type 0 where
  pub part : rank ≤ whole → rank ≤ own v
  pub wholes : (k : ℕ) → rank ≡ whole + k → (start_of k v ≡ v) × (is_whole own whole k v ≡ true)

-- the lowest leaf at which a free run of this rank lies; `None` exactly where there is none
abbrev pub IsLowestRun : ℕ → (ℕ → ℕ) → ℕ → ℕ → Option ℕ → Type 0
IsLowestRun height own whole rank None = (v : ℕ) → v < leaves_of height → HasRun own whole rank v → ⊥
IsLowestRun height own whole rank (Some leaf) = (leaf < leaves_of height) × HasRun own whole rank leaf × ((v : ℕ) → v < leaf → HasRun own whole rank v → ⊥)

-- one leaf's own rank replaced
abbrev pub with_own : (ℕ → ℕ) → ℕ → ℕ → ℕ → ℕ
with_own own leaf rank v = if leaf == v then rank else own v

-- For the prover alone: the ranks after the first leaves of the two halves of a run of 2 ^ (k + 1) leaves got others.
abbrev pub HalvesPut : ℕ → ℕ → ℕ → ℕ → (ℕ → ℕ) → (ℕ → ℕ) → Type 0
HalvesPut k leaf left right old new = (v : ℕ) → new v ≡ (if start_of (suc k) leaf + 2 ^ k == v then right else (if start_of (suc k) leaf == v then left else old v))

-- For the prover alone: the first leaves of both halves have this rank.
abbrev pub HalvesShow : ℕ → ℕ → ℕ → (ℕ → ℕ) → Type 0
HalvesShow k leaf rank ranks = (ranks (start_of (suc k) leaf) ≡ rank) × (ranks (start_of (suc k) leaf + 2 ^ k) ≡ rank)

-- the tree of these leaves
pub record IsBuddyTree (height whole : ℕ) (own : ℕ → ℕ) (tree : List ℕ) : Type 0 where
  pub bounded : (v : ℕ) → own v ≤ whole
  pub size : length tree ≡ first_of (suc height)
  pub leaves : (v : ℕ) → v < leaves_of height → leaf_at height tree v ≡ joined own whole (2 * height) v
  pub inner : HasMaxima tree
