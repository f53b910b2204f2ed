-- What a call that reserves blocks does to a volume and its block map; and what a link asks.
use Rattle.std.specs.Prelude.{◌≡◌, ◌⊎◌, ◌<◌, ◌≤◌, ℕ, true, false, if◌then◌else◌, List, [], Result, Ok, Err}
use Rattle.jfs_bits.specs.declared.descriptor.Pxd.{Pxd}
use Rattle.jfs_imap.specs.Inodes.{Inodes}
use Rattle.jfs_bmap.specs.States.{Blocks, Free, state_of, unowned_count}
use Rattle.jfs_lead_steps.specs.dtree.specs.Room.{deep_on_way}
use Rattle.jfs_ranges.specs.declared.edit.Edit.{Edit}
use Rattle.jfs_lead_steps.specs.page_tree.specs.Edit.{count_in}
use Rattle.jfs_lead_steps.specs.page_tree.specs.Fresh.{blocks_of}
use Rattle.jfs_plain.specs.Tree.{Tree, walk, root, new_place, place_as, and_then}
use Rattle.jfs_plain.specs.Step.{Room, Outcome, is_short, is_full, need_of_name}
use Rattle.jfs_plain.specs.declared.refusal.Refusal.{Refusal}
use Rattle.jfs_plain.specs.declared.refusal.Refusal.TheVariants.{IsDir, TooManyLinks, TooDeep}
use Rattle.jfs_lead_steps.specs.objects.specs.Objects.{has_names}
use Rattle.jfs_lead_steps.specs.meaning.specs.Readers.{readers, root_of}
use Rattle.jfs_lead_steps.specs.meaning.specs.Room.{room_on}
use Rattle.jfs_lead_steps.specs.meaning.specs.Consistent.{IsConsistent}
use Rattle.jfs_steps.specs.way.specs.Answer.{is_open}
use Rattle.jfs_steps.specs.way.specs.Way.{path_of}
use Rattle.jfs_steps.specs.way.specs.Volume.{volume_of, PlacesWithin}
use Rattle.jfs_steps.specs.way.specs.Walk.{IsThere, tree_in}
use Rattle.jfs_steps.specs.way.specs.declared.object.Held.{Held}
use Rattle.jfs_steps.specs.After.{after_call, takes}
use Rattle.jfs_steps.specs.Call.{IsDone}
use Rattle.jfs_steps.specs.Place.{last_of, new_place_of}
use Rattle.jfs_claim.specs.Look.{space_for}
use Rattle.jfs_claim.specs.Take.{AreFresh, reserving, Lacks}
use Rattle.jfs_claim.specs.declared.reserve.Want.{Want}
use Rattle.jfs_plain.specs.Step.{link}
use Rattle.jfs_bits.specs.declared.descriptor.Moment.{Moment}
use Rattle.jfs_link.specs.Joins.{Joins, JoinRefused}
use Rattle.jfs_link.specs.declared.asking.Joint.{Joint}
use Rattle.jfs_link.specs.declared.linking.Linked.{Linked}
use Rattle.jfs_link.specs.declared.linking.Linked.TheVariants as linked

-- what is said of the tree and the room of a consistent volume with this block map, whatever its fixed areas and its log are
abbrev pub IfConsistentBy : ℕ → (ℕ → List ℕ) → Blocks → Inodes → (Room → Tree → Type 0) → Type 0
IfConsistentBy blocks pages map inodes fact = PlacesWithin blocks inodes → (area : ℕ → ℕ) → IsConsistent (readers blocks) (volume_of pages area map inodes) → (log_pages : ℕ)
    → fact (room_on (readers blocks) (volume_of pages area map inodes) blocks log_pages) (tree_in blocks pages area map inodes)

-- The call is done on such a volume, and the plain step is that of its room.
abbrev pub IsDoneBy : ℕ → (ℕ → List ℕ) → Blocks → Inodes → (Room → Tree → Outcome) → List Edit → Type 0
IsDoneBy blocks pages map inodes plain tx = PlacesWithin blocks inodes → (area : ℕ → ℕ) → IsConsistent (readers blocks) (volume_of pages area map inodes) → (log_pages : ℕ)
    → IsDone blocks (volume_of pages area map inodes) (after_call blocks tx (volume_of pages area map inodes)) (plain (room_on (readers blocks) (volume_of pages area map inodes) blocks log_pages))

-- Blocks that were free, each once, are reserved beside those before.
pub record ReservesFree (before now : Blocks) (taken : List ℕ) : Type 0 where
  pub free : (b : ℕ) → 0 < count_in b taken → state_of before b ≡ Free
  pub once : (b : ℕ) → count_in b taken ≤ 1
  pub now_is : now ≡ reserving [] taken before

-- They are exactly those that the edits take.
abbrev pub ReservesTaken : Blocks → Blocks → List Edit → Type 0
ReservesTaken before now tx = (taken : List ℕ) × ((b : ℕ) → takes tx b ≡ count_in b taken) × ReservesFree before now taken

-- what a name may need: blocks one by one
abbrev pub want_of_name : Want
want_of_name = record { run = false; blocks = need_of_name }

-- The transaction takes the plain step, and its blocks are reserved; where a commit is due nothing has changed; and a refusal is the plain step's, or it is open.
abbrev pub StepsBy : ℕ → (ℕ → List ℕ) → Blocks → Blocks → Inodes → (Room → Tree → Outcome) → Result Linked Refusal → Type 0
StepsBy blocks pages map now inodes plain (Ok (linked.Done tx)) = IsDoneBy blocks pages map inodes plain tx × ReservesTaken map now tx
StepsBy blocks pages map now inodes plain (Ok linked.NeedsLog) = Unit {0}
StepsBy blocks pages map now inodes plain (Err why) = IfConsistentBy blocks pages map inodes (λ room t. (plain room t ≡ Err why) ⊎ (is_open why ≡ true))

-- On any volume; a commit is due only where fewer blocks are free than a name may need.
abbrev pub MapAfter : Blocks → Blocks → Result Linked Refusal → Type 0
MapAfter before now (Ok (linked.Done tx)) = (taken : List ℕ) × ReservesFree before now taken
MapAfter before now (Ok linked.NeedsLog) = (now ≡ before) × Lacks before want_of_name
MapAfter before now (Err why) = now ≡ before

-- ---- what a link asks

-- Whatever the volume holds: the object and the directory, or the first cause by which it is refused.
abbrev pub unless_full : Held → Result Held Refusal → Result Held Refusal
unless_full object dir = if is_full object.inode.nlink then Err TooManyLinks else dir

abbrev pub unless_deep : ℕ → (ℕ → List ℕ) → List ℕ → Held → Result Held Refusal
unless_deep blocks pages name dir = if deep_on_way blocks pages (root_of dir.inode) name then Err (TooDeep dir.number) else Ok dir

abbrev pub joint_of : Held → Held → Joint
joint_of object dir = record { object = object; dir = dir }

abbrev pub asked_of : ℕ → (ℕ → List ℕ) → Blocks → Inodes → List (List ℕ) → Held → Result Joint Refusal
asked_of blocks pages map inodes to object = if has_names object.inode then Err IsDir else
    and_then (new_place_of blocks pages inodes to) (λ dir. and_then (unless_full object (Ok dir)) (λ dir. and_then (space_for (unowned_count map) need_of_name) (λ it.
    and_then (unless_deep blocks pages (last_of to) dir) (λ dir. Ok (joint_of object dir)))))

abbrev pub asked : ℕ → (ℕ → List ℕ) → Blocks → Inodes → List (List ℕ) → List (List ℕ) → Result Joint Refusal
asked blocks pages map inodes from to = and_then (path_of blocks pages inodes from) (asked_of blocks pages map inodes to)

-- What is asked goes through, and then the two steps are taken, with blocks that had no owners; or a commit is due; or what is asked is refused, or the first step is; or the refusal is open.
abbrev pub LinksAs : ℕ → (ℕ → List ℕ) → Blocks → Inodes → List (List ℕ) → List (List ℕ) → Moment → Result Linked Refusal → Type 0
LinksAs blocks pages map inodes from to now (Ok (linked.Done tx)) = (joint : Joint) × (asked blocks pages map inodes from to ≡ Ok joint) × (free : List Pxd) × AreFresh map need_of_name (blocks_of free) × (left : List Pxd)
    × Joins blocks pages joint.object joint.dir (last_of to) now free left tx
LinksAs blocks pages map inodes from to now (Ok linked.NeedsLog) = (joint : Joint) × (asked blocks pages map inodes from to ≡ Ok joint)
LinksAs blocks pages map inodes from to now (Err why) = (asked blocks pages map inodes from to ≡ Err why)
    ⊎ (((joint : Joint) × (asked blocks pages map inodes from to ≡ Ok joint) × (free : List Pxd) × AreFresh map need_of_name (blocks_of free)
    × JoinRefused blocks pages joint.object joint.dir (last_of to) now free why) ⊎ (is_open why ≡ true))

-- The object and the directory are those of the tree, and there is room.
pub record MayLink (from to : List (List ℕ)) (object dir : Held) (room : Room) (t : Tree) : Type 0 where
  pub walked : walk t root from ≡ Ok object.number
  pub there : IsThere t object.number
  pub placed : new_place t to ≡ place_as dir.number (last_of to)
  pub dir_there : IsThere t dir.number
  pub space : is_short room need_of_name ≡ false
  pub takes_name : room.deep dir.number (last_of to) ≡ false

abbrev pub RefusesLink : List (List ℕ) → List (List ℕ) → Refusal → Room → Tree → Type 0
RefusesLink from to why room t = ((now : Moment) → link room t from to now ≡ Err why) ⊎ (is_open why ≡ true)
