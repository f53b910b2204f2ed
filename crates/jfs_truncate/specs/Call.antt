-- What a truncate meets, and what its data and its transaction do.
use Rattle.std.specs.Prelude.{◌≡◌, ◌⊎◌, ℕ, true, nat_lt, min, max, if◌then◌else◌, List, [], length, Option, Some, None, Result, Ok, Err}
use Rattle.jfs_bits.specs.declared.descriptor.Moment.{Moment}
use Rattle.jfs_bits.specs.declared.extent.Xad.{Xad}
use Rattle.jfs_inode.specs.declared.fields.Dinode.{Dinode}
use Rattle.jfs_imap.specs.Inodes.{Inodes}
use Rattle.jfs_read.specs.bmap.specs.States.{Blocks}
use Rattle.jfs_ranges.specs.declared.edit.Edit.{Edit}
use Rattle.jfs_xtree.specs.CutMet.{met_extents, FreesOnce}
use Rattle.jfs_xtree.specs.Cutting.{CutsExtents, TellsCut}
use Rattle.jfs_xtree.specs.Spells.{spells_extents}
use Rattle.jfs_data_steps.specs.objects.specs.Objects.{has_names}
use Rattle.jfs_read.specs.meaning.specs.Contents.{is_regular}
use Rattle.jfs_read.specs.meaning.specs.Readers.{readers, root_of}
use Rattle.jfs_read.specs.meaning.specs.Tree.{tree_on}
use Rattle.jfs_read.specs.meaning.specs.Consistent.{IsConsistent}
use Rattle.jfs_plain.specs.Tree.{Tree, and_then}
use Rattle.jfs_plain.specs.Step.{Outcome}
use Rattle.jfs_plain.specs.CallStep.{LeavesRest}
use Rattle.jfs_plain.specs.declared.call.Call.TheVariants as calls
use Rattle.jfs_plain.specs.declared.refusal.Refusal.{Refusal}
use Rattle.jfs_plain.specs.declared.refusal.Refusal.TheVariants.{IsDir, NotFile, FileTooBig}
use Rattle.jfs_read.specs.way.specs.Answer.{is_open}
use Rattle.jfs_read.specs.way.specs.Volume.{volume_of, PlacesWithin}
use Rattle.jfs_read.specs.way.specs.Walk.{IfConsistent, tree_in}
use Rattle.jfs_read.specs.way.specs.Way.{path_of, if_unbroken}
use Rattle.jfs_read.specs.way.specs.declared.object.Held.{Held}
use Rattle.jfs_data_steps.specs.lead_steps.specs.Balance.{own_after}
use Rattle.jfs_data_steps.specs.loss.specs.Causes.{if_met}
use Rattle.jfs_data_steps.specs.steps.specs.Call.{IsDone}
use Rattle.jfs_data_steps.specs.steps.specs.Laws.{IsFair, TakesAndFrees}
use Rattle.jfs_data_steps.specs.steps.specs.Put.{AddsInode, TellsLines}
use Rattle.jfs_data_steps.specs.After.{with_data, after_writes}
use Rattle.jfs_data_steps.specs.File.{resized}
use Rattle.jfs_data_steps.specs.Laws.{PutsOwn}
use Rattle.jfs_truncate.specs.Tail.{blocks_for, tail_way, tail_block, IsTail}
use Rattle.jfs_truncate.specs.declared.change.Truncated.{Truncated}

-- ---- whatever the volume holds

-- why a file isn't given a size: a regular file is wanted, whose size is at most the limit, before and after
abbrev pub why_kept : Dinode → ℕ → ℕ → Option Refusal
why_kept d size limit = if has_names d then Some IsDir else (if is_regular d then (if nat_lt limit (max d.size size) then Some FileTooBig else None) else Some NotFile)

abbrev pub unless : Option Refusal → Held → Result Held Refusal
unless None at = Ok at
unless (Some why) at = Err why

-- what is told of that
abbrev pub IsAllowed : {T : Type 0} → Dinode → ℕ → ℕ → Result T Refusal → Type 0
IsAllowed d size limit (Ok it) = why_kept d size limit ≡ None
IsAllowed d size limit (Err why) = why_kept d size limit ≡ Some why

-- The bytes before the nearer of both ends stay. The way to the block in which they end is read first, and then all that the cut behind them meets.
abbrev pub cut_from : ℕ → (ℕ → List ℕ) → ℕ → Held → Result Held Refusal
cut_from blocks pages size at = if_unbroken at.page (tail_way blocks pages at.inode (min at.inode.size size)) (if_met at (met_extents blocks pages (blocks_for (min at.inode.size size)) (root_of at.inode)))

abbrev pub truncate_of : ℕ → (ℕ → List ℕ) → Inodes → List (List ℕ) → ℕ → ℕ → Result Held Refusal
truncate_of blocks pages inodes path size limit = and_then (path_of blocks pages inodes path) (λ at. and_then (unless (why_kept at.inode size limit) at) (cut_from blocks pages size))

-- The file is cut, or why it isn't: the first page that breaks a rule, and then its tree spells no list; or it is open.
abbrev pub MeetsCut : {T : Type 0} → ℕ → (ℕ → List ℕ) → ℕ → Held → Result T Refusal → Type 0
MeetsCut blocks pages size at (Ok it) = cut_from blocks pages size at ≡ Ok at
MeetsCut blocks pages size at (Err why) = ((cut_from blocks pages size at ≡ Err why) × ((es : List Xad) → spells_extents blocks pages (root_of at.inode) ≡ Ok es → ⊥)) ⊎ (is_open why ≡ true)

-- The transaction cuts the file's tree behind the bytes that stay, and puts the inode with this size, the blocks that are left to it, and the time.
pub record Resizes (blocks : ℕ) (pages : ℕ → List ℕ) (at : Held) (size : ℕ) (now : Moment) (tx : List Edit) : Type 0 where
  pub root : List ℕ
  pub cut : List Edit
  pub width : length root ≡ 288
  pub rest : length at.inode.rest ≡ 384
  pub cuts : CutsExtents blocks pages (blocks_for (min at.inode.size size)) (root_of at.inode) root [] cut
  pub tells : TellsCut blocks pages [] cut
  pub once : FreesOnce blocks pages (blocks_for (min at.inode.size size)) (root_of at.inode) [] cut
  pub puts : AddsInode blocks pages at.page at.number (resized at.inode root size (own_after at.inode.nblocks cut) now) cut tx
  pub lines : TellsLines blocks pages at.page cut tx

-- the file at the end of a path gets this size
pub record Truncates (blocks : ℕ) (pages : ℕ → List ℕ) (inodes : Inodes) (path : List (List ℕ)) (size limit : ℕ) (now : Moment) (out : Truncated) : Type 0 where
  pub at : Held
  pub walked : path_of blocks pages inodes path ≡ Ok at
  pub met : truncate_of blocks pages inodes path size limit ≡ Ok at
  pub resizes : Resizes blocks pages at size now out.tx
  pub tail : IsTail pages (min at.inode.size size) (tail_block blocks pages at.inode (min at.inode.size size)) out.blocks

-- ---- on a consistent volume

-- The data is put, the transaction follows, and both take the plain step of a consistent volume's tree, whatever block map it has of the file system part's blocks; a refusal is the plain step's, or it is open.
abbrev pub StepsWith : ℕ → (ℕ → List ℕ) → Inodes → (Tree → Outcome) → Result Truncated Refusal → Type 0
StepsWith blocks pages inodes plain (Ok out) = PlacesWithin blocks inodes → (area : ℕ → ℕ) (map : Blocks) → length map.states ≡ blocks → IsConsistent (readers blocks) (volume_of pages area map inodes)
    → IsDone blocks (volume_of pages area map inodes) (after_writes blocks out.blocks out.tx (volume_of pages area map inodes)) plain
StepsWith blocks pages inodes plain (Err why) = IfConsistent blocks pages inodes (λ t. (plain t ≡ Err why) ⊎ (is_open why ≡ true))

-- The transaction takes no block and adds no inode extent.
abbrev pub TakesNone : List Edit → Type 0
TakesNone tx = (freed : List ℕ) × TakesAndFrees tx [] freed

-- On a consistent volume the transaction frees blocks in use alone, each once.
abbrev pub FreesOnceOn : ℕ → (ℕ → List ℕ) → Inodes → Truncated → Type 0
FreesOnceOn blocks pages inodes out = PlacesWithin blocks inodes → (area : ℕ → ℕ) (map : Blocks) → length map.states ≡ blocks → IsConsistent (readers blocks) (volume_of pages area map inodes)
    → IsFair out.tx (volume_of pages area map inodes).used

-- On a consistent volume the data alone, before the transaction, leaves all objects, and all bytes but those from the new end to the end of its block; and the volume is consistent then. It goes into a block of the file's own.
pub record StartsIn (blocks : ℕ) (pages : ℕ → List ℕ) (area : ℕ → ℕ) (map : Blocks) (inodes : Inodes) (path : List (List ℕ)) (size : ℕ) (out : Truncated) : Type 0 where
  pub leaves : LeavesRest (tree_in blocks pages area map inodes) (calls.Truncate path size) (tree_on (readers blocks) (with_data out.blocks (volume_of pages area map inodes)))
  pub consistent : IsConsistent (readers blocks) (with_data out.blocks (volume_of pages area map inodes))
  pub own : PutsOwn blocks (volume_of pages area map inodes) out.blocks

abbrev pub StartsOn : ℕ → (ℕ → List ℕ) → Inodes → List (List ℕ) → ℕ → Truncated → Type 0
StartsOn blocks pages inodes path size out = PlacesWithin blocks inodes → (area : ℕ → ℕ) (map : Blocks) → length map.states ≡ blocks → IsConsistent (readers blocks) (volume_of pages area map inodes) → StartsIn blocks pages area map inodes path size out
