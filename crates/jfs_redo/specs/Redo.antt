-- A volume that was redone by its log.
use Rattle.std.specs.Prelude.{◌≡◌, ◌<◌, ◌≤◌, ◌⊎◌, ◌+◌, ◌-◌, ◌/◌, ℕ, suc, ⊤, Bool, true, List, length, map, drop, Option, Some, None, Result, Ok, Err}
use Rattle.jfs_bits.specs.Count.{Rose}
use Rattle.jfs_disk.specs.Image.{Image, page_of}
use Rattle.jfs_disk.specs.declared.disk.DiskError.{DiskError}
use Rattle.jfs_disk.specs.declared.disk.DiskError.TheVariants.{Failed, Memory as NoMemory}
use Rattle.jfs_disk.specs.declared.disk.Part.TheVariants.{Whole}
use Rattle.jfs_ranges.specs.declared.edit.Edit.{Edit}
use Rattle.jfs_records.specs.Redo.{all_of}
use Rattle.jfs_bits.specs.Piece.{puts}
use Rattle.jfs_super.specs.Super.{super_of, pieces}
use Rattle.jfs_super.specs.Rules.{blocks_of}
use Rattle.jfs_super.specs.declared.fields.Super.{Super}
use Rattle.jfs_super.specs.declared.fields.TheConstants.VolumeState.{CLEAN}
use Rattle.jfs_bmap.specs.MapFile.{IsMapPage, is_in_use, pages_of}
use Rattle.jfs_bmap.specs.Set.{taken_at}
use Rattle.jfs_imap.specs.Inodes.{Inodes, inodes_of, IsInodePage}
use Rattle.jfs_redo_steps.specs.objects.specs.Contents.{block_of}
use Rattle.jfs_redo_steps.specs.objects.specs.Image.{file_extents}
use Rattle.jfs_redo_steps.specs.steps.specs.After.{used_after, extents_after}
use Rattle.jfs_mount_maps.specs.mount_rules.specs.Subject.{Subject, subject_of, volume}
use Rattle.jfs_mount_maps.specs.mount_rules.specs.Mount.{broken_maps, iags}
use Rattle.jfs_mount_maps.specs.sets.specs.Sets.{extent_from}
use Rattle.jfs_redo_steps.specs.Pages.{ArePagesRedone}
use Rattle.jfs_redo_steps.specs.Inodes.{AreInodesInUse}
use Rattle.jfs_redo.specs.Log.{IsLogOf, AreCommitted}
use Rattle.jfs_redo.specs.Put.{IsLast, ArePut, InBytes, place_if}
use Rattle.jfs_redo.specs.Plan.{IsPlanOf}
use Rattle.jfs_redo.specs.declared.plan.Plan.{Plan}
use Rattle.jfs_redo.specs.declared.error.Redone.{Redone}
use Rattle.jfs_redo.specs.declared.error.RedoError.{RedoError}
use Rattle.jfs_redo.specs.declared.error.RedoError.TheVariants.{Disk, ForeignLog, BadLog, BadImage, Memory}

-- ---- the places of both maps' pages

-- the block of page `k` of the block map's file, of those in use; and of the inode map's, whose first page is the control page
abbrev pub block_map_place : Subject → ℕ → Option ℕ
block_map_place s k = place_if (is_in_use (blocks_of s.super) k) (block_of (file_extents s.readers s.page 2) k)

abbrev pub inode_map_place : Subject → ℕ → Option ℕ
inode_map_place s k = block_of (file_extents s.readers s.page 16) k

-- a block is the place of a page of either map
abbrev pub IsMapPlace : Subject → ℕ → Type 0
IsMapPlace s p = ((k : ℕ) × (k < pages_of (blocks_of s.super)) × (block_map_place s k ≡ Some p)) ⊎ ((k : ℕ) × (k ≤ iags s) × (inode_map_place s k ≡ Some p))

-- Which page of both maps stands there, once all are written, the block map's first: the last one that has the place.
pub record IsBlockMapPlace (s : Subject) (k p : ℕ) : Type 0 where
  pub low : k < pages_of (blocks_of s.super)
  pub is : block_map_place s k ≡ Some p
  pub last : IsLast (pages_of (blocks_of s.super)) (block_map_place s) k p
  pub apart : (j : ℕ) → j ≤ iags s → inode_map_place s j ≡ Some p → ⊥

pub record IsInodeMapPlace (s : Subject) (k p : ℕ) : Type 0 where
  pub low : k ≤ iags s
  pub is : inode_map_place s k ≡ Some p
  pub last : IsLast (suc (iags s)) (inode_map_place s) k p

-- ---- a volume that is redone

-- The pages are what the transactions make of them, edit by edit; then the maps' pages follow from the blocks in use after all of them and from the inodes' link counts; then the superblock says, in its place, that the volume is clean. Nothing else changes.
pub record IsRedone (s : Super) (txs : List (List Edit)) (old new : Image) : Type 0 where
  -- the image once its pages are redone
  pub redone : Image
  pub pages : ArePagesRedone (blocks_of s) (all_of txs) old redone
  -- the blocks in use then
  pub taken : ℕ → Bool
  pub taken_are : (b : ℕ) → b < blocks_of s → taken b ≡ used_after (all_of txs) (volume (subject_of s (page_of old))).used b
  pub taken_past : (b : ℕ) → blocks_of s ≤ b → taken b ≡ true
  -- the inode extents, and the inodes in use
  pub set : List ℕ
  pub in_use : AreInodesInUse (page_of redone) (extents_after (all_of txs) (volume (subject_of s (page_of old))).extents) set
  -- the image once both maps are written
  pub mapped : Image
  pub others : (p : ℕ) → (IsMapPlace (subject_of s (page_of old)) p → ⊥) → page_of mapped p ≡ page_of redone p
  pub block_map : (k p : ℕ) → IsBlockMapPlace (subject_of s (page_of old)) k p → InBytes (IsMapPage (blocks_of s) s.agsize taken) k (page_of mapped p)
  pub inode_map : (k p : ℕ) → IsInodeMapPlace (subject_of s (page_of old)) k p
      → InBytes (IsInodePage (inodes_of set (map extent_from (extents_after (all_of txs) (volume (subject_of s (page_of old))).extents)) (iags (subject_of s (page_of old))) s.agsize ((blocks_of s + s.agsize - 1) / s.agsize))) k (page_of mapped p)
  -- the superblock, over what stands on its page
  pub rest : (p : ℕ) → (p ≡ 8 → ⊥) → page_of new p ≡ page_of mapped p
  pub fields : page_of new 8 ≡ puts (pieces (record s { state = CLEAN })) (page_of mapped 8)
  pub superblock : super_of (page_of new 8) ≡ record s { state = CLEAN }

-- ---- what is answered

-- The volume is redone by the transactions of its log; else the first rule that the log breaks, or then the maps.
abbrev pub RedoIs : Super → Image → Image → Result Redone RedoError → Type 0
RedoIs s old new (Ok done) = (txs : List (List Edit)) × AreCommitted s.logpxd.len (blocks_of s) (drop s.logpxd.addr old) txs × (done.transactions ≡ length txs) × (broken_maps (subject_of s (page_of old)) ≡ None) × IsRedone s txs old new
RedoIs s old new (Err (ForeignLog label)) = IsLogOf s.logpxd.len (blocks_of s) (drop s.logpxd.addr old) (Err (ForeignLog label))
RedoIs s old new (Err (BadLog address rule)) = IsLogOf s.logpxd.len (blocks_of s) (drop s.logpxd.addr old) (Err (BadLog address rule))
RedoIs s old new (Err (BadImage bad)) = ((txs : List (List Edit)) × AreCommitted s.logpxd.len (blocks_of s) (drop s.logpxd.addr old) txs) × (broken_maps (subject_of s (page_of old)) ≡ Some bad)
RedoIs s old new (Err (Disk fault)) = ⊤
RedoIs s old new (Err Memory) = ⊤

-- A fault is the whole disk's, whose count rose; a refusal comes without one.
abbrev pub IsRedoCause : {T : Type 0} → ℕ → ℕ → Result T RedoError → Type 0
IsRedoCause before now (Ok it) = now ≡ before
IsRedoCause before now (Err (Disk fault)) = Rose before now × (fault ≡ record { part = Whole; count = now })
IsRedoCause before now (Err (ForeignLog label)) = now ≡ before
IsRedoCause before now (Err (BadLog address rule)) = now ≡ before
IsRedoCause before now (Err (BadImage bad)) = now ≡ before
IsRedoCause before now (Err Memory) = before ≤ now

-- the volume was refused: nothing is written
abbrev pub IsRefusal : RedoError → Type 0
IsRefusal (ForeignLog label) = ⊤
IsRefusal (BadLog address rule) = ⊤
IsRefusal (BadImage bad) = ⊤
IsRefusal (Disk fault) = ⊥
IsRefusal Memory = ⊥

-- the pages behind the file system part, with the log, stay
abbrev pub StaysBehind : ℕ → Image → Image → Type 0
StaysBehind blocks old new = (p : ℕ) → blocks ≤ p → page_of new p ≡ page_of old p

-- ---- the parts of redo, for the prover

-- what is to be done, or the first rule on the maps that is broken
abbrev pub PlanIs : Subject → List (List Edit) → Result Plan RedoError → Type 0
PlanIs s txs (Ok plan) = IsPlanOf s txs plan
PlanIs s txs (Err (BadImage bad)) = broken_maps s ≡ Some bad
PlanIs s txs (Err (Disk fault)) = ⊤
PlanIs s txs (Err Memory) = ⊤
PlanIs s txs (Err (ForeignLog label)) = ⊥
PlanIs s txs (Err (BadLog address rule)) = ⊥

-- both maps' pages are put, of these inodes
pub record MapsAreWritten (blocks : ℕ) (plan : Plan) (inodes : Inodes) (old new : Image) : Type 0 where
  pub between : Image
  pub block_map : ArePut (pages_of blocks) (λ k. place_if (is_in_use blocks k) (block_of plan.maps.block_map k)) (InBytes (IsMapPage blocks plan.blocks.agsize (taken_at plan.blocks.owned))) old between
  pub inode_map : ArePut (suc plan.maps.inodes.iags) (block_of plan.maps.inodes.extents) (InBytes (IsInodePage inodes)) between new

-- the pages are redone, and then both maps are put
pub record IsRestored (blocks agsize : ℕ) (txs : List (List Edit)) (plan : Plan) (old new : Image) : Type 0 where
  pub redone : Image
  pub pages : ArePagesRedone blocks (all_of txs) old redone
  pub set : List ℕ
  pub in_use : AreInodesInUse (page_of redone) plan.places.items set
  pub maps : MapsAreWritten blocks plan (inodes_of set (map extent_from plan.places.items) plan.maps.inodes.iags agsize ((blocks + agsize - 1) / agsize)) redone new

abbrev pub disk_error : DiskError → ℕ → RedoError
disk_error Failed count = Disk (record { part = Whole; count = count })
disk_error NoMemory count = Memory
