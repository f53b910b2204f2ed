-- A name goes, and the object that it names has one link less, or goes with it.
use Rattle.std.specs.Prelude.{◌⊎◌, ℕ, List, [], Err}
use Rattle.jfs_bits.specs.declared.descriptor.Moment.{Moment}
use Rattle.jfs_ranges.specs.declared.edit.Edit.{Edit}
use Rattle.jfs_plain.specs.declared.refusal.Refusal.{Refusal}
use Rattle.jfs_loss.specs.steps.specs.Put.{AddsInode, TellsLines}
use Rattle.jfs_loss.specs.Inodes.{fallen, gone}
use Rattle.jfs_loss.specs.Frees.{FreesObject}
use Rattle.jfs_loss.specs.Loses.{LosesName}
use Rattle.jfs_loss.specs.Causes.{MeetsTree, lost_from}
use Rattle.jfs_loss.specs.way.specs.Answer.{Answers}
use Rattle.jfs_loss.specs.way.specs.declared.object.Held.{Held}
use Rattle.jfs_unlink.specs.declared.ends.Ends.{Ends}

-- The transaction frees all that the object has, takes the name away, and puts the object's inode without links.
pub record DropsNamed (blocks : ℕ) (pages : ℕ → List ℕ) (e : Ends) (name : List ℕ) (links : ℕ) (now : Moment) (tx : List Edit) : Type 0 where
  pub freed : List Edit
  pub lost : List Edit
  pub frees : FreesObject blocks pages e.at.inode freed
  pub loses : LosesName blocks pages e.dir name links now freed lost
  pub puts : AddsInode blocks pages e.at.page e.at.number (gone e.at.inode) lost tx
  pub lines : TellsLines blocks pages e.at.page lost tx

-- It takes the name away, and puts the object's inode with one link less.
pub record LeavesNamed (blocks : ℕ) (pages : ℕ → List ℕ) (e : Ends) (name : List ℕ) (now : Moment) (tx : List Edit) : Type 0 where
  pub lost : List Edit
  pub loses : LosesName blocks pages e.dir name e.dir.inode.nlink now [] lost
  pub puts : AddsInode blocks pages e.at.page e.at.number (fallen e.at.inode now) lost tx
  pub lines : TellsLines blocks pages e.at.page lost tx

-- Why neither is done: the object's tree, or the directory.
abbrev pub StaysNamed : ℕ → (ℕ → List ℕ) → Ends → List ℕ → Refusal → Type 0
StaysNamed blocks pages e name why = MeetsTree {T = Held} blocks pages e.at (Err why) ⊎ Answers (lost_from blocks pages e.dir name) (Err why)
