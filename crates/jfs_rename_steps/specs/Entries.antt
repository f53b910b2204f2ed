-- A directory gains a name, leads one to another inode, or loses one; then its inode is put.
use Rattle.std.specs.Prelude.{◌≡◌, ◌⊎◌, ℕ, ◌-◌, true, List, [], length, Err}
use Rattle.jfs_bits.specs.Field.{put_bytes}
use Rattle.jfs_bits.specs.declared.descriptor.Moment.{Moment}
use Rattle.jfs_bits.specs.declared.descriptor.Pxd.{Pxd}
use Rattle.jfs_bits.specs.declared.rule.PageKind.TheVariants.{Dtree}
use Rattle.jfs_inode.specs.declared.fields.Dinode.{Dinode}
use Rattle.jfs_ranges.specs.declared.edit.Edit.{Edit}
use Rattle.jfs_ranges.specs.Laid.{put_tx}
use Rattle.jfs_loss.specs.page_tree.specs.Changes.{TellsTaken, TellsGone}
use Rattle.jfs_loss.specs.page_tree.specs.Fresh.{blocks_of}
use Rattle.jfs_dtree.specs.Parent.{parent_of}
use Rattle.jfs_dtree.specs.Spells.{broken_for, TellsWay}
use Rattle.jfs_dtree.specs.Adding.{AddsName}
use Rattle.jfs_dtree.specs.Removing.{RemovesName, MissesName}
use Rattle.jfs_dtree.specs.Replacing.{ReplacesName, ChangesOnePlace}
use Rattle.jfs_dtree.specs.declared.error.DtError.{DtError}
use Rattle.jfs_plain.specs.declared.refusal.Refusal.{Refusal}
use Rattle.jfs_loss.specs.meaning.specs.Readers.{root_of}
use Rattle.jfs_loss.specs.way.specs.Answer.{is_open, names_refusal}
use Rattle.jfs_loss.specs.way.specs.declared.object.Held.{Held}
use Rattle.jfs_loss.specs.steps.specs.Gains.{entry_of}
use Rattle.jfs_loss.specs.steps.specs.Put.{AddsInode, TellsLines}
use Rattle.jfs_loss.specs.steps.specs.declared.gain.Gain.{Gain}
use Rattle.jfs_loss.specs.lead_steps.specs.Balance.{own_after}
use Rattle.jfs_loss.specs.Inodes.{frees_in}
use Rattle.jfs_rename_steps.specs.declared.entries.Entered.{Entered}

-- the directory's inode with another root, so many blocks and so many links, written now
abbrev pub turned : Dinode → List ℕ → ℕ → ℕ → Moment → Dinode
turned d root own links now = record d { rest = put_bytes 96 root d.rest; nblocks = own; nlink = links; mtime = now; ctime = now }

-- Its tree gets the name, by edits of its pages that take free blocks in their order, and then its inode gets the root that the tree has then, and so many links.
pub record GainsEntry (blocks : ℕ) (pages : ℕ → List ℕ) (dir : Held) (name : List ℕ) (gain : Gain) (free left : List Pxd) (after : Entered) : Type 0 where
  pub root : List ℕ
  pub mid : List Edit
  pub width : length root ≡ 288
  pub size : length dir.inode.rest ≡ 384
  pub parent : parent_of root ≡ parent_of (root_of dir.inode)
  pub adds : AddsName blocks pages (entry_of name gain) (root_of dir.inode) root (blocks_of free) (blocks_of left) [] mid
  pub taken : TellsTaken blocks Dtree pages (blocks_of free) (blocks_of left) [] mid
  pub inode_is : after.inode ≡ turned dir.inode root (own_after dir.inode.nblocks mid) gain.links gain.now
  pub puts : AddsInode blocks pages dir.page dir.number after.inode mid after.tx
  pub lines : TellsLines blocks pages dir.page mid after.tx

-- The name leads to inode n in its place, and then the directory's inode gets the root that the tree has then; it keeps its links.
pub record LeadsEntry (blocks : ℕ) (pages : ℕ → List ℕ) (dir : Held) (name : List ℕ) (n : ℕ) (now : Moment) (tx later : List Edit) (after : Dinode) : Type 0 where
  pub root : List ℕ
  pub mid : List Edit
  pub old : ℕ
  pub width : length root ≡ 288
  pub size : length dir.inode.rest ≡ 384
  pub parent : parent_of root ≡ parent_of (root_of dir.inode)
  pub replaces : ReplacesName blocks pages name n (root_of dir.inode) root tx mid old
  pub edits : ChangesOnePlace blocks pages (root_of dir.inode) root tx mid
  pub inode_is : after ≡ turned dir.inode root dir.inode.nblocks dir.inode.nlink now
  pub puts : AddsInode blocks pages dir.page dir.number after mid later
  pub lines : TellsLines blocks pages dir.page mid later

-- On top of a transaction the directory's tree loses the name, and then its inode gets the root that the tree has then, so many links, and one block fewer for each page that is freed.
pub record LosesEntry (blocks : ℕ) (pages : ℕ → List ℕ) (dir : Held) (name : List ℕ) (links : ℕ) (now : Moment) (tx later : List Edit) : Type 0 where
  pub root : List ℕ
  pub mid : List Edit
  pub inode : ℕ
  pub width : length root ≡ 288
  pub size : length dir.inode.rest ≡ 384
  pub parent : parent_of root ≡ parent_of (root_of dir.inode)
  pub removes : RemovesName blocks (put_tx blocks tx pages) name (root_of dir.inode) root tx mid inode
  pub gone : TellsGone blocks Dtree (put_tx blocks tx pages) tx mid
  pub puts : AddsInode blocks pages dir.page dir.number (turned dir.inode root (dir.inode.nblocks - (frees_in mid - frees_in tx)) links now) mid later
  pub lines : TellsLines blocks pages dir.page mid later

-- Why it keeps the name: a page on the name's way breaks a rule, the first one; or the name isn't there, as the transaction leaves the pages; or it is open.
abbrev pub LossRefused : ℕ → (ℕ → List ℕ) → Held → List ℕ → List Edit → Refusal → Type 0
LossRefused blocks pages dir name tx why = (is_open why ≡ true) ⊎ ((e : DtError) × (why ≡ names_refusal dir.number dir.page e)
    × MissesName blocks (put_tx blocks tx pages) name (root_of dir.inode) e × TellsWay {T = ℕ} (broken_for blocks (put_tx blocks tx pages) (root_of dir.inode) name) (Err e))
