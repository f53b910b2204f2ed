-- Who owns a block, and of what kind the owner is. (JFS: metadata is logged; data of regular files is written in place, and isn't.)
use Rattle.std.specs.Prelude.{ℕ, zero, suc, ◌+◌, ◌==◌, Bool, true, false, nat_lt, if◌then◌else◌, Option, Some, None}
use Rattle.jfs_inode.specs.Rules.{type_of}
use Rattle.jfs_objects.specs.Readers.{Readers}
use Rattle.jfs_objects.specs.Volume.{Volume, room}
use Rattle.jfs_objects.specs.Objects.{Object, objects}
use Rattle.jfs_objects.specs.Owners.{tree_held, data_held, attributes_held, extents_have}

pub data Owner : Type 0 where
  -- a fixed area: superblocks, the aggregate's inodes, maps
  Area : Owner
  -- an inode extent
  Inodes : Owner
  -- the trees of an inode, of which the block is a page
  Tree : ℕ → Owner
  -- a regular file, whose data it is
  Data : ℕ → Owner
  -- an inode whose attributes or long target it has: nothing writes these in place
  Still : ℕ → Owner

abbrev pub is_regular_file : Object → Bool
is_regular_file o = type_of o.inode == 0x8000

-- how often a block is a page of an object's trees
unfoldable pub has_page : Readers → Option Object → ℕ → ℕ
has_page r None b = 0
has_page r (Some o) b = tree_held r o b

-- how often it is data of a regular file
unfoldable pub has_data : Readers → Option Object → ℕ → ℕ
has_data r None b = 0
has_data r (Some o) b = if is_regular_file o then data_held r o b else 0

-- how often it is what an object has otherwise: attributes, and the extents of a long target
unfoldable pub has_still : Readers → Option Object → ℕ → ℕ
has_still r None b = 0
has_still r (Some o) b = (if is_regular_file o then 0 else data_held r o b) + attributes_held o b

-- how often an owner has a block
abbrev pub has : Readers → Volume → Owner → ℕ → ℕ
has r v Area b = v.area b
has r v Inodes b = extents_have v.extents b
has r v (Tree n) b = has_page r (objects r v n) b
has r v (Data n) b = has_data r (objects r v n) b
has r v (Still n) b = has_still r (objects r v n) b

-- ---- the owner

-- the owner where it is there, else the next one
abbrev pub or_else : ℕ → Owner → Option Owner → Option Owner
or_else count x next = if nat_lt 0 count then Some x else next

abbrev pub owner_in : Readers → Option Object → ℕ → ℕ → Option Owner → Option Owner
owner_in r o n b next = or_else (has_page r o b) (Tree n) (or_else (has_data r o b) (Data n) (or_else (has_still r o b) (Still n) next))

-- the owner among the first inodes
unfoldable pub owner_below : ℕ → Readers → Volume → ℕ → Option Owner
owner_below zero r v b = None
owner_below (suc n) r v b = owner_in r (objects r v n) n b (owner_below n r v b)

-- the owner of a block, where it has one
unfoldable pub owner_of : Readers → Volume → ℕ → Option Owner
owner_of r v b = or_else (v.area b) Area (or_else (extents_have v.extents b) Inodes (owner_below (room v) r v b))

-- ---- what becomes of it

-- What the log keeps safe: areas, inodes and tree pages. Data, attributes, targets and blocks without an owner aren't.
abbrev pub is_logged : Option Owner → Bool
is_logged None = false
is_logged (Some Area) = true
is_logged (Some Inodes) = true
is_logged (Some (Tree n)) = true
is_logged (Some (Data n)) = false
is_logged (Some (Still n)) = false
