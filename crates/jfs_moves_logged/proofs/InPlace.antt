-- An inode that changes in its slot, with its trees as they were, on top of part of a transaction.
use Rattle.std.proofs.Common.{◌≡◌, ◌≢◌, ◌+◌, ℕ, Bool, true, List, [], Option, Some, refl, sym, ap, ◌∙◌, subst}
use Rattle.jfs_inode.specs.declared.fields.Dinode.{Dinode}
use Rattle.jfs_ranges.specs.declared.edit.Edit.{Edit}
use Rattle.jfs_ranges.specs.Apply.{apply_tx}
use Rattle.jfs_ranges.specs.Laid.{put_tx}
use Rattle.jfs_tree.specs.Edit.{count_in}
use Rattle.jfs_rename.specs.rename_steps.proofs.Stage.{lines_used, lines_extents}
use Rattle.jfs_rename.specs.unlink.specs.loss.specs.lead_steps.proofs.Again.{again}
use Rattle.jfs_rename.specs.unlink.specs.loss.specs.lead_steps.proofs.InPlace.{sets_in_place}
use Rattle.jfs_rename.specs.unlink.specs.loss.specs.objects.specs.Readers.{Readers}
use Rattle.jfs_rename.specs.unlink.specs.loss.specs.objects.specs.Volume.{Volume, home}
use Rattle.jfs_rename.specs.unlink.specs.loss.specs.objects.specs.Objects.{objects, spelled, is_live}
use Rattle.jfs_rename.specs.unlink.specs.loss.specs.objects.specs.Owners.{bit}
use Rattle.jfs_rename.specs.unlink.specs.loss.specs.objects.specs.Laws.{ChangesOne}
use Rattle.jfs_rename.specs.unlink.specs.loss.specs.objects.specs.Changes.{PutsInode, SetsObject}
use Rattle.jfs_rename.specs.unlink.specs.loss.specs.objects.proofs.Set.{object_is_set}
use Rattle.jfs_rename.specs.unlink.specs.loss.specs.objects.proofs.Sums.{put_other}
use Rattle.jfs_rename.specs.unlink.specs.loss.specs.meaning.specs.Readers.{readers}
use Rattle.jfs_rename.specs.unlink.specs.loss.specs.steps.specs.Put.{AddsInode, TellsLines}
use Rattle.jfs_names_logged.proofs.After.{put_onto}
use Rattle.jfs_names_logged.specs.calls_logged.specs.Calls.{ArePages}
use Rattle.jfs_names_logged.specs.calls_logged.specs.logged.specs.Kinds.{HasTrees}
use Rattle.jfs_names_logged.specs.calls_logged.specs.logged.specs.Own.{LogsPart}
use Rattle.jfs_names_logged.specs.calls_logged.specs.logged.proofs.Edited.{inode_law}
use Rattle.jfs_moves_logged.proofs.Come.{Come, pages_are}

-- what an inode keeps that changes so
pub record KeepsTrees (blocks : ℕ) (m : ℕ) (d set : Dinode) : Type 0 where
  pub live : is_live m set ≡ true
  pub trees : (page : ℕ → List ℕ) → HasTrees (spelled (readers blocks) page d) (spelled (readers blocks) page set)
  pub acl : set.acl ≡ d.acl
  pub ea : set.ea ≡ d.ea

module _ (blocks : ℕ) (v : Volume) (are : ArePages blocks v.page) (owed : List ℕ) (tx : List Edit) (w : Volume) (c : Come blocks v owed tx w) (m page : ℕ) (d set : Dinode) (later : List Edit) (at : home v.extents m ≡ Some page)
    (here : objects (readers blocks) w m ≡ Some (spelled (readers blocks) w.page d)) (keeps : KeepsTrees blocks m d set) (puts : AddsInode blocks v.page page m set tx later) (lines : TellsLines blocks v.page page tx later) where
  abbrev r : Readers
  r = readers blocks

  abbrev pub in_place_volume : Volume
  in_place_volume = record w { page = put_tx blocks later v.page }

  at_now : home w.extents m ≡ Some page
  at_now = ap (λ (places : List (Option ℕ)). home places m) c.extents ∙ at

  puts_here : PutsInode w.page in_place_volume.page w.extents m set
  puts_here = subst (λ (old : ℕ → List ℕ). PutsInode old in_place_volume.page w.extents m set) (pages_are blocks v are owed tx w c) (puts w.extents at_now)

  sets : SetsObject r w in_place_volume m set w.page [] []
  sets = sets_in_place r w in_place_volume c.sound m d set here keeps.live (keeps.trees w.page).names (keeps.trees w.page).extents keeps.acl keeps.ea puts_here refl refl refl (λ k. refl)

  one : ChangesOne r w in_place_volume m (Some (spelled r w.page set))
  one = (object_is_set r w in_place_volume m set w.page [] [] c.sound sets).0

  pub in_place_come : Come blocks v owed later in_place_volume
  in_place_come = record {
    sound = one.sound;
    page = λ b. refl;
    extents = c.extents;
    area = c.area;
    used = λ b. c.used b ∙ sym (ap (λ (u : ℕ → Bool). bit (u b) + count_in b owed) (lines_used blocks v.page page tx later v.used lines));
    within = c.within;
    stay = lines_extents blocks v.page page tx later v.extents lines ∙ c.stay;
  }

  pub in_place_logged : LogsPart r w in_place_volume lines.0
  in_place_logged = inode_law r w in_place_volume m page d set (put_tx blocks tx v.page page) (put_tx blocks later v.page page) lines.0 c.sound (record {
    at = at_now;
    was = here;
    sets = sets;
    trees = keeps.trees w.page;
    pages = λ q was now. ap (λ (all : List Edit). put_tx blocks all v.page q) lines.1 ∙ put_onto blocks v.page tx lines.0 q (c.within q was) ∙ ap (apply_tx q lines.0) (sym (c.page q));
    runs = lines.2;
  })

  -- the others are as they were
  pub in_place_other : (k : ℕ) (e : Dinode) → k ≢ m → objects r w k ≡ Some (spelled r w.page e) → objects r in_place_volume k ≡ Some (spelled r in_place_volume.page e)
  in_place_other k e apart was = (again r in_place_volume w.page k e (one.objects_are k ∙ put_other m (Some (spelled r w.page set)) (objects r w) k apart ∙ was)).0
