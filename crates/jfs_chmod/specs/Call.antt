-- The change of a mode.
use Rattle.std.specs.Prelude.{◌≡◌, ℕ, ◌+◌, ◌-◌, ◌%◌, List, [], Ok}
use Rattle.jfs_bits.specs.declared.descriptor.Moment.{Moment}
use Rattle.jfs_inode.specs.declared.fields.Dinode.{Dinode}
use Rattle.jfs_imap.specs.Inodes.{Inodes}
use Rattle.jfs_ranges.specs.declared.edit.Edit.{Edit}
use Rattle.jfs_steps.specs.way.specs.Way.{path_of}
use Rattle.jfs_steps.specs.way.specs.declared.object.Held.{Held}
use Rattle.jfs_steps.specs.Put.{AddsInode, TellsLines}

-- The inode with other permission bits, changed now. They are the low twelve.
abbrev pub with_mode : Dinode → ℕ → Moment → Dinode
with_mode d mode now = record d { mode = d.mode - d.mode % 4096 + mode; ctime = now }

-- The transaction puts the inode at the end of a path with other permission bits, and a new time, and tells exactly the lines that change, whatever the volume holds.
abbrev pub SetsMode : ℕ → (ℕ → List ℕ) → Inodes → List (List ℕ) → ℕ → Moment → List Edit → Type 0
SetsMode blocks pages inodes path mode now tx = (at : Held) × (path_of blocks pages inodes path ≡ Ok at) × AddsInode blocks pages at.page at.number (with_mode at.inode mode now) [] tx × TellsLines blocks pages at.page [] tx
