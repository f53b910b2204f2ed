-- Parts of a transaction that change an object's tree and then its inode, or by which an object goes.
use Rattle.std.specs.Prelude.{◌≡◌, ◌⊎◌, ◌<◌, ℕ, true, false, List, ◌++◌, Some}
use Rattle.jfs_inode.specs.declared.fields.Dinode.{Dinode}
use Rattle.jfs_ranges.specs.declared.edit.Edit.{Edit}
use Rattle.jfs_ranges.specs.Apply.{apply_tx}
use Rattle.jfs_tree.specs.Edit.{count_in}
use Rattle.jfs_tree.specs.Tell.{is_in}
use Rattle.jfs_recovery.specs.records.specs.Redo.{closes_in}
use Rattle.jfs_recovery.specs.objects.specs.Readers.{Readers}
use Rattle.jfs_recovery.specs.objects.specs.Volume.{Volume, home}
use Rattle.jfs_recovery.specs.objects.specs.Objects.{objects, spelled}
use Rattle.jfs_recovery.specs.objects.specs.Owners.{IsSound}
use Rattle.jfs_recovery.specs.objects.specs.Changes.{SetsObject, DropsObject}
use Rattle.jfs_recovery.specs.kinds.specs.Owner.{has_page, has_still}
use Rattle.jfs_recovery.specs.kinds.specs.Laws.{KeepsKinds}
use Rattle.jfs_halves.specs.Marks.{frees_page}
use Rattle.jfs_logged.specs.Logged.{LeavesPage}
use Rattle.jfs_logged.specs.Own.{LogsPart}
use Rattle.jfs_logged.specs.Stages.{ArePageRuns}
use Rattle.jfs_logged.specs.Trees.{TellsPages}

-- An object is set by the edits of a call on its tree, and then by the runs of its inode's page.
pub record WritesTree (r : Readers) (v w : Volume) (n : ℕ) (tree inode : List Edit) : Type 0 where
  pub page : ℕ
  pub set : Dinode
  pub mid : ℕ → List ℕ
  pub taken : List ℕ
  pub freed : List ℕ
  pub at : home v.extents n ≡ Some page
  pub sets : SetsObject r v w n set mid taken freed
  pub kinds : KeepsKinds r v w (objects r v n) (Some (spelled r mid set))
  pub pages : (q : ℕ) → v.used q ≡ true → w.used q ≡ true → w.page q ≡ apply_tx q (tree ++ inode) (v.page q)
  pub runs : ArePageRuns page inode
  -- no block comes into use for attributes or a target
  pub none_still : (q : ℕ) → v.used q ≡ false → has_still r (Some (spelled r mid set)) q ≡ 0
  -- the pages that are told, of which some are told whole, and those that are freed with a NoRedo
  pub told : List ℕ
  pub gone : List ℕ
  pub changed : List ℕ
  pub new : ℕ → List ℕ
  pub tells : TellsPages told gone changed v.page new tree
  pub new_is : (q : ℕ) → 0 < count_in q changed → new q ≡ mid q
  -- A tree page that comes is told whole, one that goes is freed so, and nothing else is.
  pub come : (q : ℕ) → v.used q ≡ false → 0 < has_page r (Some (spelled r mid set)) q → (is_in q told ≡ true) × (0 < count_in q changed)
  pub go : (q : ℕ) → w.used q ≡ false → 0 < has_page r (objects r v n) q → 0 < count_in q gone
  pub gone_are : (q : ℕ) → 0 < count_in q gone → (w.used q ≡ false) × (0 < has_page r (objects r v n) q)
  -- A page that is no tree page then, and isn't freed so, isn't told, or has the bytes it had.
  pub others : (q : ℕ) → has_page r (Some (spelled r mid set)) q ≡ 0 → count_in q gone ≡ 0 → (count_in q changed ≡ 0) ⊎ ((is_in q told ≡ false) × (new q ≡ v.page q))

-- An object goes by edits that free all that it has, and then by the runs of its inode's page. Its tree pages are freed with a NoRedo, no other page has one, and each page is left.
pub record DropsTree (r : Readers) (v w : Volume) (n : ℕ) (frees inode : List Edit) : Type 0 where
  pub page : ℕ
  pub left : Dinode
  pub freed : List ℕ
  pub at : home v.extents n ≡ Some page
  pub drops : DropsObject r v w n left freed
  pub pages : (q : ℕ) → v.used q ≡ true → w.used q ≡ true → w.page q ≡ apply_tx q (frees ++ inode) (v.page q)
  pub runs : ArePageRuns page inode
  pub go : (q : ℕ) → 0 < has_page r (objects r v n) q → frees_page q frees ≡ true
  pub stay : (q : ℕ) → has_page r (objects r v n) q ≡ 0 → closes_in q frees ≡ false
  pub leaves : (q : ℕ) → LeavesPage q frees

-- So they log what matters.
pub record TreesLaw : Type 0 where
  pub writes : (r : Readers) (v w : Volume) (n : ℕ) (tree inode : List Edit) → IsSound r v → WritesTree r v w n tree inode → LogsPart r v w (tree ++ inode)
  pub drops : (r : Readers) (v w : Volume) (n : ℕ) (frees inode : List Edit) → IsSound r v → DropsTree r v w n frees inode → LogsPart r v w (frees ++ inode)
