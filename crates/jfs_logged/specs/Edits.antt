-- Parts of a transaction that each change one object, or add an inode extent.
use Rattle.std.specs.Prelude.{◌≡◌, ℕ, true, List, [], Some}
use Rattle.jfs_bits.specs.declared.rule.PageKind.TheVariants as kinds
use Rattle.jfs_inode.specs.declared.fields.Dinode.{Dinode}
use Rattle.jfs_ranges.specs.declared.edit.Edit.{Edit}
use Rattle.jfs_ranges.specs.Apply.{apply_tx}
use Rattle.jfs_tree.specs.Tell.{IsRuns}
use Rattle.jfs_recovery.specs.objects.specs.Readers.{Readers}
use Rattle.jfs_recovery.specs.objects.specs.Volume.{Volume, home}
use Rattle.jfs_recovery.specs.objects.specs.Objects.{objects, spelled}
use Rattle.jfs_recovery.specs.objects.specs.Owners.{IsSound}
use Rattle.jfs_recovery.specs.objects.specs.Changes.{SetsObject, DropsObject, AddsExtent}
use Rattle.jfs_recovery.specs.kinds.specs.Laws.{KeepsKinds}
use Rattle.jfs_logged.specs.Kinds.{HasTrees}
use Rattle.jfs_logged.specs.Own.{LogsPart}
use Rattle.jfs_logged.specs.Stages.{TellsStage}

-- An object is set, goes, or an inode extent is added: where it tells its stage, it logs what matters.
pub record EditsLaw : Type 0 where
  pub sets : (r : Readers) (v w : Volume) (n : ℕ) (after : Dinode) (mid : ℕ → List ℕ) (taken freed : List ℕ) (tx : List Edit) → IsSound r v → SetsObject r v w n after mid taken freed
      → KeepsKinds r v w (objects r v n) (Some (spelled r mid after)) → TellsStage r v w tx → LogsPart r v w tx
  pub drops : (r : Readers) (v w : Volume) (n : ℕ) (left : Dinode) (freed : List ℕ) (tx : List Edit) → IsSound r v → DropsObject r v w n left freed → TellsStage r v w tx → LogsPart r v w tx
  pub adds : (r : Readers) (v w : Volume) (place first : ℕ) (tx : List Edit) → IsSound r v → AddsExtent v w place first → TellsStage r v w tx → LogsPart r v w tx

-- ---- an inode alone

-- An object's inode is written, by the runs of its page, and its trees stay.
pub record WritesInode (r : Readers) (v w : Volume) (n p : ℕ) (d set : Dinode) (old new : List ℕ) (tx : List Edit) : Type 0 where
  pub at : home v.extents n ≡ Some p
  pub was : objects r v n ≡ Some (spelled r v.page d)
  pub sets : SetsObject r v w n set v.page [] []
  pub trees : HasTrees (spelled r v.page d) (spelled r v.page set)
  pub pages : (q : ℕ) → v.used q ≡ true → w.used q ≡ true → w.page q ≡ apply_tx q tx (v.page q)
  pub runs : IsRuns p kinds.Inode old new 0 tx

abbrev pub InodeLaw : Type 0
InodeLaw = (r : Readers) (v w : Volume) (n p : ℕ) (d set : Dinode) (old new : List ℕ) (tx : List Edit) → IsSound r v → WritesInode r v w n p d set old new tx → LogsPart r v w tx
