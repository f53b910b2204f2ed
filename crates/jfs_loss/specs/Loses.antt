-- A directory loses a name.
use Rattle.std.specs.Prelude.{◌≡◌, ℕ, ◌-◌, List, length, Ok}
use Rattle.jfs_bits.specs.declared.descriptor.Moment.{Moment}
use Rattle.jfs_bits.specs.declared.rule.PageKind.TheVariants.{Dtree}
use Rattle.jfs_ranges.specs.declared.edit.Edit.{Edit}
use Rattle.jfs_lead_steps.specs.page_tree.specs.Changes.{TellsGone}
use Rattle.jfs_lead_steps.specs.dtree.specs.Parent.{parent_of}
use Rattle.jfs_lead_steps.specs.dtree.specs.Removing.{RemovesName}
use Rattle.jfs_lead_steps.specs.meaning.specs.Readers.{root_of}
use Rattle.jfs_steps.specs.Put.{AddsInode, TellsLines}
use Rattle.jfs_steps.specs.way.specs.declared.object.Held.{Held}
use Rattle.jfs_loss.specs.Inodes.{frees_in, lessened}
use Rattle.jfs_loss.specs.Causes.{lost_from}

-- The name was taken out of the directory's tree, and then its inode was put: the lines that change, what frees the tree's pages that are no more, and the lines of the inode's page that change.
pub record LosesName (blocks : ℕ) (pages : ℕ → List ℕ) (dir : Held) (name : List ℕ) (links : ℕ) (now : Moment) (tx later : List Edit) : Type 0 where
  pub root : List ℕ
  pub mid : List Edit
  pub inode : ℕ
  pub width : length root ≡ 288
  pub parent : parent_of root ≡ parent_of (root_of dir.inode)
  pub found : lost_from blocks pages dir name ≡ Ok inode
  pub removes : RemovesName blocks pages name (root_of dir.inode) root tx mid inode
  pub tells : TellsGone blocks Dtree pages tx mid
  pub size : length dir.inode.rest ≡ 384
  pub puts : AddsInode blocks pages dir.page dir.number (lessened dir.inode root links (frees_in mid - frees_in tx) now) mid later
  pub lines : TellsLines blocks pages dir.page mid later
