-- The ends of both paths of a rename: the object, the directory that has its name, and the one that is to have the new name.
use Rattle.std.specs.Prelude.{◌≡◌, ◌⊎◌, ◌<◌, ℕ, ◌==◌, ◌||◌, Bool, true, false, if◌then◌else◌, List, length, Result, Ok, Err}
use Rattle.jfs_bits.specs.declared.descriptor.Moment.{Moment}
use Rattle.jfs_imap.specs.Inodes.{Inodes}
use Rattle.jfs_plain.specs.Tree.{Tree, walk, root, place, place_as, and_then}
use Rattle.jfs_plain.specs.Step.{Room, rename}
use Rattle.jfs_plain.specs.declared.refusal.Refusal.{Refusal}
use Rattle.jfs_plain.specs.declared.refusal.Refusal.TheVariants.{IntoItself}
use Rattle.jfs_link.specs.objects.specs.Objects.{has_names}
use Rattle.jfs_link.specs.way.specs.Answer.{is_open}
use Rattle.jfs_link.specs.way.specs.Way.{path_of}
use Rattle.jfs_link.specs.way.specs.Walk.{IsThere, IsHeld, IsShown}
use Rattle.jfs_link.specs.way.specs.declared.object.Held.{Held}
use Rattle.jfs_link.specs.steps.specs.Place.{last_of, place_of}
use Rattle.jfs_rename_steps.specs.declared.moving.Moving.{Moving}

-- ---- on any volume

abbrev pub moving_of : Held → Held → Held → Moving
moving_of object source target = record { object = object; source = source; target = target }

-- the root has no name
abbrev pub is_nameless : List (List ℕ) → List (List ℕ) → Bool
is_nameless from to = length from == 0 || length to == 0

abbrev pub HaveNames : List (List ℕ) → List (List ℕ) → Type 0
HaveNames from to = (0 < length from) × (0 < length to)

-- The object is walked to first, and then both places.
abbrev pub placed_of : ℕ → (ℕ → List ℕ) → Inodes → List (List ℕ) → List (List ℕ) → Held → Result Moving Refusal
placed_of blocks pages inodes from to object = if is_nameless from to then Err IntoItself else
    and_then (place_of blocks pages inodes from) (λ source. and_then (place_of blocks pages inodes to) (λ target. Ok (moving_of object source target)))

abbrev pub moving_on : ℕ → (ℕ → List ℕ) → Inodes → List (List ℕ) → List (List ℕ) → Result Moving Refusal
moving_on blocks pages inodes from to = and_then (path_of blocks pages inodes from) (placed_of blocks pages inodes from to)

-- each is where the map of inodes says, and breaks no rule
abbrev pub AreHeld : ℕ → Inodes → Moving → Type 0
AreHeld blocks inodes moving = IsHeld blocks inodes moving.object × IsHeld blocks inodes moving.source × IsHeld blocks inodes moving.target

abbrev pub AreShown : (ℕ → List ℕ) → Moving → Type 0
AreShown pages moving = IsShown pages moving.object × IsShown pages moving.source × IsShown pages moving.target

abbrev pub AreDirectories : Moving → Type 0
AreDirectories moving = (has_names moving.source.inode ≡ true) × (has_names moving.target.inode ≡ true)

-- ---- on a consistent one

-- What they are in a tree.
pub record AreEnds (t : Tree) (from to : List (List ℕ)) (moving : Moving) : Type 0 where
  pub walked : walk t root from ≡ Ok moving.object.number
  pub there : IsThere t moving.object.number
  pub named : is_nameless from to ≡ false
  pub source : place t from ≡ place_as moving.source.number (last_of from)
  pub source_there : IsThere t moving.source.number
  pub target : place t to ≡ place_as moving.target.number (last_of to)
  pub target_there : IsThere t moving.target.number

-- a refusal is the plain step's, whatever the room is and whenever it is asked for; or it is open
abbrev pub RefusesAlways : Tree → List (List ℕ) → List (List ℕ) → Refusal → Type 0
RefusesAlways t from to why = ((room : Room) (now : Moment) → rename room t from to now ≡ Err why) ⊎ (is_open why ≡ true)

abbrev pub FollowsEnds : Tree → List (List ℕ) → List (List ℕ) → Result Moving Refusal → Type 0
FollowsEnds t from to (Ok moving) = AreEnds t from to moving
FollowsEnds t from to (Err why) = RefusesAlways t from to why
