-- What the transaction of a link is.
use Rattle.std.specs.Prelude.{ℕ, ◌+◌, List}
use Rattle.jfs_bits.specs.declared.descriptor.Moment.{Moment}
use Rattle.jfs_bits.specs.declared.descriptor.Pxd.{Pxd}
use Rattle.jfs_inode.specs.declared.fields.Dinode.{Dinode}
use Rattle.jfs_ranges.specs.declared.edit.Edit.{Edit}
use Rattle.jfs_plain.specs.declared.refusal.Refusal.{Refusal}
use Rattle.jfs_steps.specs.way.specs.declared.object.Held.{Held}
use Rattle.jfs_steps.specs.Gains.{GainsName, GainRefused}
use Rattle.jfs_steps.specs.Put.{AddsInode, TellsLines}
use Rattle.jfs_steps.specs.declared.gain.Gain.{Gain}

-- the inode with one link more, changed now
abbrev pub one_more : Dinode → Moment → Dinode
one_more d now = record d { nlink = d.nlink + 1; ctime = now }

-- The directory gains a name for the object, and keeps its links.
abbrev pub gain_of : Held → Held → Moment → Gain
gain_of object dir now = record { inode = object.number; links = dir.inode.nlink; now = now }

-- It gains the name, and then the object's inode is put with one link more: exactly the lines that change.
pub record Joins (blocks : ℕ) (pages : ℕ → List ℕ) (object dir : Held) (name : List ℕ) (now : Moment) (free left : List Pxd) (tx : List Edit) : Type 0 where
  pub named : List Edit
  pub gains : GainsName blocks pages dir name (gain_of object dir now) free left named
  pub puts : AddsInode blocks pages object.page object.number (one_more object.inode now) named tx
  pub lines : TellsLines blocks pages object.page named tx

abbrev pub JoinRefused : ℕ → (ℕ → List ℕ) → Held → Held → List ℕ → Moment → List Pxd → Refusal → Type 0
JoinRefused blocks pages object dir name now free = GainRefused blocks pages dir name (gain_of object dir now) free
