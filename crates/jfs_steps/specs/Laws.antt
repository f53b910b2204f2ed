-- What holds of the volume after a transaction.
use Rattle.std.specs.Prelude.{◌≡◌, ◌<◌, ◌≤◌, ℕ, ◌+◌, Bool, true, false, List, [], ◌∷◌, ◌++◌, is_some, Option}
use Rattle.jfs_ranges.specs.declared.edit.Edit.{Edit}
use Rattle.jfs_ranges.specs.declared.edit.Edit.TheVariants.{Lines, NoRedo, Alloc, Free}
use Rattle.jfs_ranges.specs.Laid.{put_tx}
use Rattle.jfs_way.specs.page_tree.specs.Edit.{count_in}
use Rattle.jfs_way.specs.objects.specs.Volume.{Volume}
use Rattle.jfs_way.specs.objects.specs.Objects.{objects}
use Rattle.jfs_way.specs.objects.specs.Owners.{bit}
use Rattle.jfs_way.specs.objects.specs.Changes.{Takes}
use Rattle.jfs_way.specs.meaning.specs.Readers.{readers}
use Rattle.jfs_steps.specs.After.{is_extent, used_after, extents_after, after_call, takes, frees}

-- ---- one transaction after another

abbrev pub AppendLaw : Type 0
AppendLaw = (blocks : ℕ) (tx more : List Edit) (v : Volume) → after_call blocks (tx ++ more) v ≡ after_call blocks more (after_call blocks tx v)

-- ---- the blocks in use

-- Edits that take free blocks and free blocks in use leave so many in use as they take and free.
pub record IsFair (tx : List Edit) (used : ℕ → Bool) : Type 0 where
  pub fresh : (b : ℕ) → 0 < takes tx b → used b ≡ false
  pub owned : (b : ℕ) → 0 < frees tx b → used b ≡ true
  pub once : (b : ℕ) → takes tx b + frees tx b ≤ 1

abbrev pub CountLaw : Type 0
CountLaw = (tx : List Edit) (used : ℕ → Bool) → IsFair tx used → (b : ℕ) → bit (used_after tx used b) + frees tx b ≡ bit (used b) + takes tx b

-- Blocks are taken and freed so often by edits, and no new inode extent is among these.
pub record TakesAndFrees (tx : List Edit) (taken freed : List ℕ) : Type 0 where
  pub taken_are : (b : ℕ) → takes tx b ≡ count_in b taken
  pub freed_are : (b : ℕ) → frees tx b ≡ count_in b freed
  pub extents_stay : (extents : List (Option ℕ)) → extents_after tx extents ≡ extents

-- One step of a call: its edits take free blocks and free blocks in use, each once; so the volume after it has taken and freed these.
abbrev pub StepLaw : Type 0
StepLaw = (tx : List Edit) (v w : Volume) (taken freed : List ℕ) → TakesAndFrees tx taken freed → IsFair tx v.used → w.used ≡ used_after tx v.used → Takes v w taken freed

-- ---- edits of pages alone

-- none of these edits takes or frees a block, and none is a new inode extent
abbrev pub LeavesSets : List Edit → Type 0
LeavesSets [] = Unit {0}
LeavesSets (Lines page kind first bytes ∷ tx) = (is_extent kind first bytes ≡ false) × LeavesSets tx
LeavesSets (NoRedo page ∷ tx) = LeavesSets tx
LeavesSets (Alloc run ∷ tx) = ⊥
LeavesSets (Free run ∷ tx) = ⊥

pub record ChangesPagesAlone (tx : List Edit) : Type 0 where
  pub used : (used : ℕ → Bool) → used_after tx used ≡ used
  pub extents : (extents : List (Option ℕ)) → extents_after tx extents ≡ extents
  pub takes_none : (b : ℕ) → takes tx b ≡ 0
  pub frees_none : (b : ℕ) → frees tx b ≡ 0

abbrev pub LinesLaw : Type 0
LinesLaw = (tx : List Edit) → LeavesSets tx → ChangesPagesAlone tx

-- ---- a volume that is the one after a transaction

-- It has the pages, extents and blocks in use, and its inodes in use are its objects.
pub record IsAfter (blocks : ℕ) (tx : List Edit) (v w : Volume) : Type 0 where
  pub page : w.page ≡ put_tx blocks tx v.page
  pub extents : w.extents ≡ extents_after tx v.extents
  pub area : w.area ≡ v.area
  pub used : (b : ℕ) → w.used b ≡ used_after tx v.used b
  pub in_use : (n : ℕ) → w.in_use n ≡ is_some (objects (readers blocks) w n)

abbrev pub AfterLaw : Type 0
AfterLaw = (blocks : ℕ) (tx : List Edit) (v w : Volume) → IsAfter blocks tx v w → w ≡ after_call blocks tx v
