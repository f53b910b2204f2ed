-- What edits of one object do to the tree.
use Rattle.std.specs.Prelude.{◌≡◌, ◌≢◌, ◌≤◌, ◌<◌, ℕ, not, false, List, is_some, Option, Some, None}
use Rattle.jfs_bits.specs.Bits.{count_below}
use Rattle.jfs_bits.specs.declared.descriptor.Moment.{Moment}
use Rattle.jfs_inode.specs.declared.fields.Dinode.{Dinode}
use Rattle.jfs_plain.specs.Tree.{Tree}
use Rattle.jfs_plain.specs.Moves.{Same}
use Rattle.jfs_plain.specs.Plain.{new_tree}
use Rattle.jfs_plain.specs.Step.{Room, PlainStep}
use Rattle.jfs_plain.specs.declared.call.Call.{Call}
use Rattle.jfs_plain.specs.declared.node.Node.{Node}
use Rattle.jfs_plain.specs.declared.reply.Reply.{Reply}
use Rattle.jfs_objects.specs.Readers.{Readers}
use Rattle.jfs_objects.specs.Volume.{Volume, room}
use Rattle.jfs_objects.specs.Objects.{Object, objects, spelled}
use Rattle.jfs_objects.specs.Owners.{Agrees, IsSound}
use Rattle.jfs_objects.specs.Changes.{put, WritesData, SetsObject, DropsObject, AddsExtent}
use Rattle.jfs_meaning.specs.Contents.{byte_in}
use Rattle.jfs_meaning.specs.Node.{node_of, is_symbolic}
use Rattle.jfs_meaning.specs.Tree.{node_on, byte_on, tree_on}
use Rattle.jfs_meaning.specs.Consistent.{IsConsistentTree, IsConsistent}
use Rattle.jfs_meaning.specs.Room.{free_blocks, room_on}

-- One node and its contents are others; all other nodes and contents are as they were.
pub record ChangesOneNode (r : Readers) (v w : Volume) (n : ℕ) (node : Option Node) (bytes : ℕ → ℕ) : Type 0 where
  pub nodes : (k : ℕ) → node_on r w k ≡ put n node (node_on r v) k
  pub contents : (k i : ℕ) → byte_on r w k i ≡ put n bytes (byte_on r v) k i

-- An object that is set is the node that its pages spelled before its inode was put, with the contents of that moment.
abbrev pub SetTreeLaw : Type 0
SetTreeLaw = (r : Readers) (v w : Volume) (n : ℕ) (after : Dinode) (mid : ℕ → List ℕ) (taken freed : List ℕ) → IsSound r v → SetsObject r v w n after mid taken freed
    → ChangesOneNode r v w n (node_of r mid (spelled r mid after)) (byte_in r mid (Some (spelled r mid after)))

abbrev pub DropTreeLaw : Type 0
DropTreeLaw = (r : Readers) (v w : Volume) (n : ℕ) (left : Dinode) (freed : List ℕ) → IsSound r v → DropsObject r v w n left freed → ChangesOneNode r v w n None (λ i. 0)

-- A new inode extent leaves the tree.
abbrev pub ExtentTreeLaw : Type 0
ExtentTreeLaw = (r : Readers) (v w : Volume) (place first : ℕ) → IsSound r v → AddsExtent v w place first → Same (tree_on r v) (tree_on r w)

-- Data that is written leaves all nodes, but for the target of a symbolic link whose data it is, and all other contents.
pub record ChangesContents (r : Readers) (v w : Volume) (n : ℕ) : Type 0 where
  pub others : (k : ℕ) → k ≢ n → node_on r w k ≡ node_on r v k
  pub own : (o : Object) → objects r v n ≡ Some o → is_symbolic o.inode ≡ false → node_on r w n ≡ node_on r v n
  pub contents : (k i : ℕ) → k ≢ n → byte_on r w k i ≡ byte_on r v k i

abbrev pub DataTreeLaw : Type 0
DataTreeLaw = (r : Readers) (v w : Volume) (n : ℕ) → IsSound r v → WritesData r v w n → ChangesContents r v w n

-- Where maps agree, the blocks without an owner are those that aren't in use.
abbrev pub FreeLaw : Type 0
FreeLaw = (r : Readers) (v : Volume) (blocks : ℕ) → Agrees r v → free_blocks r v blocks ≡ count_below blocks (λ b. not (v.used b))

-- The number for a new object is free, and may have a name.
abbrev pub IsFresh : ℕ → Tree → Option ℕ → Type 0
IsFresh most t None = Unit {0}
IsFresh most t (Some n) = (4 ≤ n) × (n < most) × (t.nodes n ≡ None)

-- Where maps agree and no tree breaks a rule, the nodes of the tree are the inodes in use.
abbrev pub NodesLaw : Type 0
NodesLaw = (r : Readers) (v : Volume) (n : ℕ) → IsSound r v → is_some (node_on r v n) ≡ v.in_use n

-- The room of a consistent volume has such a number, or none.
abbrev pub FreshLaw : Type 0
FreshLaw = (r : Readers) (v : Volume) (blocks log_pages : ℕ) → IsConsistent r v → IsFresh (room v) (tree_on r v) (room_on r v blocks log_pages).inode

-- A call keeps a tree consistent.
abbrev pub StepLaw : Type 0
StepLaw = (most : ℕ) (t u : Tree) (room : Room) (call : Call) (now : Moment) (reply : Reply) → IsConsistentTree most t → IsFresh most t room.inode → PlainStep t room call now reply u → IsConsistentTree most u

-- The tree of a new volume is consistent.
abbrev pub NewTreeLaw : Type 0
NewTreeLaw = (most : ℕ) (now : Moment) (t : Tree) → 4 ≤ most → Same (new_tree now) t → IsConsistentTree most t
