-- What a crash leaves in the midst of a redo, and what may be redone again.
use Rattle.std.specs.Prelude.{◌≡◌, ◌⊎◌, ◌<◌, ◌≤◌, ◌+◌, ◌-◌, ◌/◌, nat_lt, ℕ, suc, Bool, true, false, if◌then◌else◌, List, length, map, drop, Option, Some, None, Result, Ok, Err}
use Rattle.jfs_disk.specs.Image.{Image, page_of, ArePages}
use Rattle.jfs_disk.specs.Crash.{DiskState, AllSince}
use Rattle.jfs_disk.specs.Moment.{now_of}
use Rattle.jfs_ranges.specs.declared.edit.Edit.{Edit}
use Rattle.jfs_ranges.specs.Apply.{touches_tx}
use Rattle.jfs_records.specs.Redo.{all_of, chosen}
use Rattle.jfs_super.specs.Rules.{IsAccepted, blocks_of}
use Rattle.jfs_super.specs.declared.fields.Super.{Super}
use Rattle.jfs_bmap.specs.MapFile.{IsMapPage, is_in_use, pages_of}
use Rattle.jfs_bmap.specs.Set.{taken_at}
use Rattle.jfs_imap.specs.Inodes.{Inodes, inodes_of, IsInodePage}
use Rattle.jfs_redo_steps.specs.objects.specs.Contents.{block_of}
use Rattle.jfs_redo_steps.specs.objects.specs.Image.{file_walk}
use Rattle.jfs_redo_steps.specs.objects.specs.Objects.{met}
use Rattle.jfs_redo_steps.specs.objects.specs.Volume.{home}
use Rattle.jfs_redo_steps.specs.steps.specs.After.{used_after, extents_after}
use Rattle.jfs_mount_maps.specs.mount_rules.specs.Subject.{Subject, subject_of, volume}
use Rattle.jfs_mount_maps.specs.mount_rules.specs.Mount.{broken_maps, iags}
use Rattle.jfs_mount_maps.specs.sets.specs.Sets.{extent_from}
use Rattle.jfs_redo_steps.specs.Pages.{redone_page}
use Rattle.jfs_redo_steps.specs.Inodes.{AreInodesInUse}
use Rattle.jfs_redo.specs.Log.{AreCommitted}
use Rattle.jfs_redo.specs.Put.{InBytes, place_if}
use Rattle.jfs_redo.specs.Mixed.{IsMixed, AreMixed}
use Rattle.jfs_redo.specs.Redo.{block_map_place, inode_map_place, IsMapPlace, IsRedone, IsRefusal, RedoIs}
use Rattle.jfs_redo.specs.declared.error.Redone.{Redone}
use Rattle.jfs_redo.specs.declared.error.RedoError.{RedoError}
use Rattle.jfs_redo.specs.declared.plan.Plan.{Plan}

-- ---- what redo writes

-- the blocks in use after all transactions; one past the volume's end counts as taken
abbrev pub taken_then : Super → List (List Edit) → Image → ℕ → Bool
taken_then s txs old b = if nat_lt b (blocks_of s) then used_after (all_of txs) (volume (subject_of s (page_of old))).used b else true

-- the inode extents then, and the inodes with these bits
abbrev pub extents_then : Super → List (List Edit) → Image → List (Option ℕ)
extents_then s txs old = extents_after (all_of txs) (volume (subject_of s (page_of old))).extents

abbrev pub inodes_then : Super → List (List Edit) → Image → List ℕ → Inodes
inodes_then s txs old set = inodes_of set (map extent_from (extents_then s txs old)) (iags (subject_of s (page_of old))) s.agsize ((blocks_of s + s.agsize - 1) / s.agsize)

-- A page of a map, written to its place: that of the blocks in use, or of the inodes in use in pages that are redone.
abbrev pub IsBlockMapPageAt : Super → List (List Edit) → Image → ℕ → List ℕ → Type 0
IsBlockMapPageAt s txs old p page = (k : ℕ) × (k < pages_of (blocks_of s)) × (block_map_place (subject_of s (page_of old)) k ≡ Some p) × InBytes (IsMapPage (blocks_of s) s.agsize (taken_then s txs old)) k page

abbrev pub IsInodeMapPageAt : Super → List (List Edit) → Image → ℕ → List ℕ → Type 0
IsInodeMapPageAt s txs old p page =
    (k : ℕ) × (k ≤ iags (subject_of s (page_of old))) × (inode_map_place (subject_of s (page_of old)) k ≡ Some p)
    × ((set : List ℕ) × AreInodesInUse (redone_page (blocks_of s) (all_of txs) old) (extents_then s txs old) set × InBytes (IsInodePage (inodes_then s txs old set)) k page)

-- What redo may write to page p before it writes page 8: what the transactions make of it, or a page of a map that has its place there.
abbrev pub Writes : Super → List (List Edit) → Image → ℕ → List ℕ → Type 0
Writes s txs old p page = (page ≡ redone_page (blocks_of s) (all_of txs) old p) ⊎ (IsBlockMapPageAt s txs old p page ⊎ IsInodeMapPageAt s txs old p page)

-- Partly redone: each sector of the volume's pages is as it was, or as redo writes it. All that lies behind them, with the log, is as it was.
abbrev pub IsPartlyRedone : Super → List (List Edit) → Image → Image → Type 0
IsPartlyRedone s txs old left = IsMixed (blocks_of s) (Writes s txs old) old left

-- ---- the moments of a redo

-- Nothing was written; or at each moment a crash leaves the volume partly redone, or as it is once all is redone.
abbrev pub IsRedoneMeanwhile : Super → Image → List DiskState → List DiskState → Type 0
IsRedoneMeanwhile s old before past =
    (past ≡ before)
    ⊎ ((txs : List (List Edit)) × AreCommitted s.logpxd.len (blocks_of s) (drop s.logpxd.addr old) txs × (broken_maps (subject_of s (page_of old)) ≡ None)
    × AllSince (λ left. IsPartlyRedone s txs old left ⊎ IsRedone s txs old left) past (now_of before))

-- ---- a redo that is made again

-- Pages that tell where the maps are: the superblock's, those of the aggregate's inodes 2 and 16, and those of these two inodes' extent trees.
abbrev pub LocatesMaps : Subject → ℕ → Type 0
LocatesMaps s p = (p ≡ 8) ⊎ ((p ≡ 11) ⊎ ((p ≡ 13) ⊎ ((0 < met (file_walk s.readers s.page 2) p) ⊎ (0 < met (file_walk s.readers s.page 16) p))))

-- The maps stand apart: each of their pages has a place of its own, where no page stands that locates them and no inode, and no line of the log is one of it; and redo leaves the pages that locate them. (A consistent volume has one owner
-- for each block, and no file call logs a page of the maps or changes one of their trees. The log's rules keep it off the first 16 pages.)
pub record MapsStandApart (s : Super) (txs : List (List Edit)) (old : Image) : Type 0 where
  pub blocks : (j k p : ℕ) → block_map_place (subject_of s (page_of old)) j ≡ Some p → block_map_place (subject_of s (page_of old)) k ≡ Some p → j ≡ k
  pub inodes : (j k p : ℕ) → inode_map_place (subject_of s (page_of old)) j ≡ Some p → inode_map_place (subject_of s (page_of old)) k ≡ Some p → j ≡ k
  pub both : (j k p : ℕ) → block_map_place (subject_of s (page_of old)) j ≡ Some p → inode_map_place (subject_of s (page_of old)) k ≡ Some p → ⊥
  pub located : (p : ℕ) → IsMapPlace (subject_of s (page_of old)) p → LocatesMaps (subject_of s (page_of old)) p → ⊥
  pub homes : (n p : ℕ) → home (extents_then s txs old) n ≡ Some p → IsMapPlace (subject_of s (page_of old)) p → ⊥
  pub logged : (p : ℕ) → 16 ≤ p → IsMapPlace (subject_of s (page_of old)) p → touches_tx p (all_of txs) ≡ false
  pub stays : (p : ℕ) → 16 ≤ p → LocatesMaps (subject_of s (page_of old)) p → redone_page (blocks_of s) (all_of txs) old p ≡ page_of old p

-- what a redo answers of a volume that was partly redone by these transactions: it is refused by nothing; answered ok, it counts them, and the volume is what they make of it as it was
abbrev pub EndsAll : Super → List (List Edit) → Image → Image → Result Redone RedoError → Type 0
EndsAll s txs old new (Ok done) = (done.transactions ≡ length txs) × IsRedone s txs old new
EndsAll s txs old new (Err why) = IsRefusal why → ⊥

-- A volume that a crash left partly redone is taken up again: its superblock and its log are as they were, no rule on its maps is broken, and what redo makes of it is what redo makes of the volume as it was.
pub record IsTakenUp (s : Super) (txs : List (List Edit)) (old left : Image) : Type 0 where
  pub superblock : page_of left 8 ≡ page_of old 8
  pub log : drop s.logpxd.addr left ≡ drop s.logpxd.addr old
  pub unbroken : broken_maps (subject_of s (page_of left)) ≡ None
  pub same : (new : Image) → IsRedone s txs left new → IsRedone s txs old new
  pub ends : (new : Image) (answer : Result Redone RedoError) → RedoIs s left new answer → EndsAll s txs old new answer
  -- and if that redo is stopped too, the volume is still one that the first one may have left
  pub apart : MapsStandApart s txs left
  pub stopped : (next : Image) → IsPartlyRedone s txs left next → IsPartlyRedone s txs old next

abbrev pub StoppedRedo : Type 0
StoppedRedo = (s : Super) (txs : List (List Edit)) (old left : Image) → ArePages (length old) old → IsAccepted s (length old) → AreCommitted s.logpxd.len (blocks_of s) (drop s.logpxd.addr old) txs
    → broken_maps (subject_of s (page_of old)) ≡ None → MapsStandApart s txs old → IsPartlyRedone s txs old left → IsTakenUp s txs old left

-- Meanwhile a page changes only where a line of the log counts for some of its bytes (none is left behind the last NoRedo of a page that was freed), where a page of the maps has its place, and page 8.
abbrev pub OthersStay : Type 0
OthersStay = (s : Super) (txs : List (List Edit)) (old left : Image) → ArePages (length old) old → IsAccepted s (length old) → IsPartlyRedone s txs old left ⊎ IsRedone s txs old left
    → (p : ℕ) → ((i : ℕ) → chosen p i (all_of txs) ≡ None) → (IsMapPlace (subject_of s (page_of old)) p → ⊥) → (p ≡ 8 → ⊥) → page_of left p ≡ page_of old p

-- ---- for the prover alone: calls that write pages of the maps

-- Where what they put is written by redo, moments stay those of a volume that is partly redone.
abbrev pub KeepsMixed : ℕ → (ℕ → List ℕ → Type 0) → List DiskState → List DiskState → Type 0
KeepsMixed blocks Puts before past =
    (s : Super) (txs : List (List Edit)) (old : Image) (t : ℕ) → ArePages (length old) old → blocks ≤ length old → ((p : ℕ) (page : List ℕ) → Puts p page → Writes s txs old p page)
    → AreMixed blocks (Writes s txs old) old t before → AreMixed blocks (Writes s txs old) old t past

-- a page with these bytes, in its place; and any of the first `n` pages of a file
abbrev pub PutsPage : Option ℕ → (List ℕ → Type 0) → ℕ → List ℕ → Type 0
PutsPage place Is p page = (place ≡ Some p) × Is page

abbrev pub PutsFile : ℕ → (ℕ → Option ℕ) → (ℕ → List ℕ → Type 0) → ℕ → List ℕ → Type 0
PutsFile n place Is p page = (k : ℕ) × (k < n) × (place k ≡ Some p) × Is k page

-- any page of both maps
abbrev pub PutsMaps : ℕ → Plan → Inodes → ℕ → List ℕ → Type 0
PutsMaps blocks plan inodes p page =
    PutsFile (pages_of blocks) (λ k. place_if (is_in_use blocks k) (block_of plan.maps.block_map k)) (InBytes (IsMapPage blocks plan.blocks.agsize (taken_at plan.blocks.owned))) p page
    ⊎ PutsFile (suc plan.maps.inodes.iags) (block_of plan.maps.inodes.extents) (InBytes (IsInodePage inodes)) p page
