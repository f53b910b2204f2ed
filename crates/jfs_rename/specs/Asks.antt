-- What a rename asks.
use Rattle.std.specs.Prelude.{◌≡◌, ◌⊎◌, ℕ, ◌==◌, Bool, true, false, if◌then◌else◌, List, Option, Some, None, Result, Ok, Err}
use Rattle.jfs_bits.specs.declared.descriptor.Moment.{Moment}
use Rattle.jfs_imap.specs.Inodes.{Inodes}
use Rattle.jfs_bmap.specs.States.{Blocks, unowned_count}
use Rattle.jfs_dtree.specs.Room.{deep_on_way}
use Rattle.jfs_plain.specs.Tree.{Tree, and_then, at_place, place_at, passes}
use Rattle.jfs_plain.specs.Step.{Room, rename, is_short, need_of_name, why_barred, why_kept}
use Rattle.jfs_plain.specs.declared.node.Node.{Node}
use Rattle.jfs_plain.specs.declared.refusal.Refusal.{Refusal}
use Rattle.jfs_plain.specs.declared.refusal.Refusal.TheVariants.{NoSpace, TooDeep}
use Rattle.jfs_plain.specs.declared.reply.Reply.TheVariants.{Done}
use Rattle.jfs_link.specs.objects.specs.Objects.{has_names}
use Rattle.jfs_link.specs.meaning.specs.Readers.{root_of}
use Rattle.jfs_link.specs.way.specs.Answer.{is_open}
use Rattle.jfs_link.specs.way.specs.Walk.{IsThere, IsHeld, IsShown}
use Rattle.jfs_link.specs.way.specs.declared.object.Held.{Held}
use Rattle.jfs_link.specs.steps.specs.Place.{last_of}
use Rattle.jfs_link.specs.claim.specs.Look.{space_for}
use Rattle.jfs_link.specs.place.specs.Place.{occupant_at}
use Rattle.jfs_link.specs.Link.{IfConsistentBy}
use Rattle.jfs_rename_steps.specs.declared.moving.Moving.{Moving}
use Rattle.jfs_rename.specs.Ends.{AreEnds, AreHeld, AreShown, AreDirectories, moving_on}
use Rattle.jfs_rename.specs.Permits.{permitted}
use Rattle.jfs_rename.specs.Through.{inside_of}
use Rattle.jfs_rename.specs.declared.permits.Asked.{Asked}
use Rattle.jfs_rename.specs.declared.permits.Asked.TheVariants.{Same, Free, Over}

-- ---- on any volume

abbrev pub unless_deep : ℕ → (ℕ → List ℕ) → Held → List ℕ → Result (Unit {0}) Refusal
unless_deep blocks pages target name = if deep_on_way blocks pages (root_of target.inode) name then Err (TooDeep target.number) else Ok tt

abbrev pub room_for : ℕ → (ℕ → List ℕ) → Blocks → Held → List ℕ → Result (Unit {0}) Refusal
room_for blocks pages map target name = and_then (space_for (unowned_count map) need_of_name) (λ it. unless_deep blocks pages target name)

abbrev pub changes_nothing : Asked → Bool
changes_nothing Same = true
changes_nothing (Free moving) = false
changes_nothing (Over moving there) = false

-- There has to be room for a change.
abbrev pub with_room : ℕ → (ℕ → List ℕ) → Blocks → Held → List ℕ → Asked → Result Asked Refusal
with_room blocks pages map target name a = if changes_nothing a then Ok a else and_then (room_for blocks pages map target name) (λ it. Ok a)

-- The ends of both paths; whether the new one leads through the object; what stands there; whether the object may go there; and the room.
abbrev pub asked_at : ℕ → (ℕ → List ℕ) → Blocks → ℕ → List (List ℕ) → Moving → Bool → Option Held → Result Asked Refusal
asked_at blocks pages map limit to moving inside found = and_then (permitted blocks limit moving inside found) (with_room blocks pages map moving.target (last_of to))

abbrev pub asked_of : ℕ → (ℕ → List ℕ) → Blocks → Inodes → ℕ → List (List ℕ) → Moving → Result Asked Refusal
asked_of blocks pages map inodes limit to moving = and_then (inside_of blocks pages inodes moving.object to) (λ inside.
    and_then (occupant_at blocks pages inodes moving.target (last_of to)) (asked_at blocks pages map limit to moving inside))

abbrev pub asked : ℕ → (ℕ → List ℕ) → Blocks → Inodes → ℕ → List (List ℕ) → List (List ℕ) → Result Asked Refusal
asked blocks pages map inodes limit from to = and_then (moving_on blocks pages inodes from to) (asked_of blocks pages map inodes limit to)

-- the inodes are where the map of inodes says, and break no rule; they are what stands there
abbrev pub IsAskedOf : ℕ → Inodes → Asked → Type 0
IsAskedOf blocks inodes Same = Unit {0}
IsAskedOf blocks inodes (Free moving) = AreHeld blocks inodes moving × AreDirectories moving
IsAskedOf blocks inodes (Over moving there) = AreHeld blocks inodes moving × AreDirectories moving × IsHeld blocks inodes there

abbrev pub IsAskedOn : (ℕ → List ℕ) → Asked → Type 0
IsAskedOn pages Same = Unit {0}
IsAskedOn pages (Free moving) = AreShown pages moving
IsAskedOn pages (Over moving there) = AreShown pages moving × IsShown pages there

-- ---- on a consistent one

-- there is room for a name in a directory, or the cause why there isn't; or it is open
abbrev pub IsRoomFor : Room → Held → List ℕ → Result (Unit {0}) Refusal → Type 0
IsRoomFor room target name (Ok it) = (is_short room need_of_name ≡ false) × (room.deep target.number name ≡ false)
IsRoomFor room target name (Err why) = ((is_short room need_of_name ≡ true) × (why ≡ NoSpace room.free))
    ⊎ (((is_short room need_of_name ≡ false) × (room.deep target.number name ≡ true) × (why ≡ TooDeep target.number)) ⊎ (is_open why ≡ true))

abbrev pub TellsRoom : ℕ → (ℕ → List ℕ) → Blocks → Held → List ℕ → Result (Unit {0}) Refusal → Type 0
TellsRoom blocks pages map target name result = (inodes : Inodes) → IsHeld blocks inodes target → IsShown pages target → has_names target.inode ≡ true
    → IfConsistentBy blocks pages map inodes (λ room t. IsThere t target.number → IsRoomFor room target name result)

-- An object goes where nothing stands: no cause of the plain step is there.
pub record MayMove (from to : List (List ℕ)) (moving : Moving) (room : Room) (t : Tree) : Type 0 where
  pub ends : AreEnds t from to moving
  pub free : at_place t (place_at moving.target.number (last_of to)) ≡ None
  pub allowed : why_barred (has_names moving.object.inode) (passes t to moving.object.number) (moving.source.number == moving.target.number) moving.target.inode.nlink ≡ None
  pub space : is_short room need_of_name ≡ false
  pub takes_name : room.deep moving.target.number (last_of to) ≡ false

-- It takes the name of another one: no cause of the plain step is there.
pub record MayReplace (from to : List (List ℕ)) (limit : ℕ) (moving : Moving) (there : Held) (room : Room) (t : Tree) : Type 0 where
  pub ends : AreEnds t from to moving
  pub at : at_place t (place_at moving.target.number (last_of to)) ≡ Some there.number
  pub stands : IsThere t there.number
  pub other : (there.number == moving.object.number) ≡ false
  pub old : Node
  pub old_is : t.nodes there.number ≡ Some old
  pub allowed : why_kept limit (has_names moving.object.inode) (passes t to moving.object.number) old ≡ None
  pub space : is_short room need_of_name ≡ false
  pub takes_name : room.deep moving.target.number (last_of to) ≡ false

-- two names of one object: the plain step changes nothing
abbrev pub MayDo : List (List ℕ) → List (List ℕ) → ℕ → Asked → Room → Tree → Type 0
MayDo from to limit Same room t = (now : Moment) → rename room t from to now ≡ Ok (Done, t)
MayDo from to limit (Free moving) room t = MayMove from to moving room t
MayDo from to limit (Over moving there) room t = MayReplace from to limit moving there room t

-- in a room with this greatest size of a file
abbrev pub MayRename : List (List ℕ) → List (List ℕ) → ℕ → Asked → Room → Tree → Type 0
MayRename from to limit a room t = room.limit ≡ limit → MayDo from to limit a room t

-- the refusal is the plain step's, whenever it is asked for; or it is open
abbrev pub RefusesRename : List (List ℕ) → List (List ℕ) → ℕ → Refusal → Room → Tree → Type 0
RefusesRename from to limit why room t = room.limit ≡ limit → ((now : Moment) → rename room t from to now ≡ Err why) ⊎ (is_open why ≡ true)
