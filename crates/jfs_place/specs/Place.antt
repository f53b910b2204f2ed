-- The place of a path's last name on a volume, and what stands there. (POSIX: path resolution.)
use Rattle.std.specs.Prelude.{◌≡◌, ◌⊎◌, ℕ, true, if◌then◌else◌, List, [], ◌∷◌, Option, Some, None, Result, Ok, Err}
use Rattle.jfs_imap.specs.Inodes.{Inodes}
use Rattle.jfs_way.specs.page_tree.specs.Spells.{no_page}
use Rattle.jfs_way.specs.objects.specs.Objects.{has_names}
use Rattle.jfs_plain.specs.Tree.{Tree, root, and_then, place, place_as, place_at, at_place}
use Rattle.jfs_plain.specs.declared.refusal.Refusal.{Refusal}
use Rattle.jfs_plain.specs.declared.refusal.Refusal.TheVariants.{NotFound, NotDir, Exists}
use Rattle.jfs_way.specs.Answer.{is_open, Answers}
use Rattle.jfs_way.specs.Way.{inode_at, name_from}
use Rattle.jfs_way.specs.Walk.{IsThere}
use Rattle.jfs_way.specs.declared.object.Held.{Held}

-- a refusal is the one that is given, or it is open
abbrev pub OrOpen : {X : Type 0} → Result X Refusal → Refusal → Type 0
OrOpen given why = (given ≡ Err why) ⊎ (is_open why ≡ true)

-- ---- on any volume

-- a directory and a name
abbrev pub Spot : Type 0
Spot = Held × List ℕ

abbrev pub if_directory : Held → List ℕ → Result Spot Refusal
if_directory at name = if has_names at.inode then Ok (at, name) else Err NotDir

-- The names before the last one are walked, from an inode on.
abbrev pub place_from : ℕ → (ℕ → List ℕ) → Inodes → Held → List ℕ → List (List ℕ) → Result Spot Refusal
place_from blocks pages inodes at name [] = if_directory at name
place_from blocks pages inodes at name (next ∷ names) = and_then (name_from blocks pages inodes at name) (λ m. place_from blocks pages inodes m next names)

-- The root has no name, so it has no place.
abbrev pub place_on : ℕ → (ℕ → List ℕ) → Inodes → List (List ℕ) → Result Spot Refusal
place_on blocks pages inodes [] = Err Exists
place_on blocks pages inodes (name ∷ names) = and_then (inode_at blocks pages inodes no_page root) (λ at. place_from blocks pages inodes at name names)

abbrev pub MeetsPlace : Result Spot Refusal → Held → List ℕ → Type 0
MeetsPlace given dir name = given ≡ Ok (dir, name)

-- What the name leads to, or nothing where it isn't found.
abbrev pub if_found : Result Held Refusal → Result (Option Held) Refusal
if_found (Ok o) = Ok (Some o)
if_found (Err NotFound) = Ok None
if_found (Err why) = Err why

abbrev pub occupant_at : ℕ → (ℕ → List ℕ) → Inodes → Held → List ℕ → Result (Option Held) Refusal
occupant_at blocks pages inodes dir name = if_found (name_from blocks pages inodes dir name)

abbrev pub MeetsOccupant : Result (Option Held) Refusal → Result (Option Held) Refusal → Type 0
MeetsOccupant given found = Answers given found

-- ---- on a consistent one

-- the place of the path in the tree
abbrev pub IsPlaceOf : Tree → List (List ℕ) → Held → List ℕ → Type 0
IsPlaceOf t path dir name = (place t path ≡ place_as dir.number name) × IsThere t dir.number

-- what stands at a place of the tree; it is refused for faults and want of memory alone
abbrev pub StandsAt : Tree → ℕ → List ℕ → Result (Option Held) Refusal → Type 0
StandsAt t dir name (Ok None) = at_place t (place_at dir name) ≡ None
StandsAt t dir name (Ok (Some o)) = (at_place t (place_at dir name) ≡ Some o.number) × IsThere t o.number
StandsAt t dir name (Err why) = is_open why ≡ true
