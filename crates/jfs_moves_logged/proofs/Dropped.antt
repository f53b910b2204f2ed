-- An object goes with all that it has, whose blocks edits before have freed.
use Rattle.std.proofs.Common.{◌≡◌, ◌≢◌, ◌<◌, ◌≤◌, ◌+◌, ◌==◌, ◌||◌, not, nat_lt, ℕ, Bool, true, false, List, [], ◌++◌, length, Option, Some, None, refl, sym, ap, ◌∙◌, subst, arith}
use Rattle.std.proofs.lemmas.Bool.Decides.{nat_tests}
use Rattle.jfs_bits.specs.declared.rule.PageKind.TheVariants as kinds
use Rattle.jfs_inode.specs.declared.fields.Dinode.{Dinode}
use Rattle.jfs_ranges.specs.declared.edit.Edit.{Edit}
use Rattle.jfs_ranges.specs.Apply.{apply_tx}
use Rattle.jfs_ranges.specs.Laid.{put_tx, applied_length}
use Rattle.jfs_ranges.proofs.OnTop.{applied_onto}
use Rattle.jfs_tree.specs.Edit.{count_in}
use Rattle.jfs_rename.specs.rename_steps.proofs.Stage.{lines_used, lines_extents}
use Rattle.jfs_rename.specs.unlink.specs.loss.specs.Inodes.{gone}
use Rattle.jfs_rename.specs.unlink.specs.loss.specs.lead_steps.proofs.Again.{again}
use Rattle.jfs_rename.specs.unlink.specs.loss.specs.objects.specs.Readers.{Readers}
use Rattle.jfs_rename.specs.unlink.specs.loss.specs.objects.specs.Volume.{Volume, home}
use Rattle.jfs_rename.specs.unlink.specs.loss.specs.objects.specs.Objects.{objects, spelled, is_live}
use Rattle.jfs_rename.specs.unlink.specs.loss.specs.objects.specs.Owners.{bit, holds}
use Rattle.jfs_rename.specs.unlink.specs.loss.specs.objects.specs.Laws.{ChangesOne}
use Rattle.jfs_rename.specs.unlink.specs.loss.specs.objects.specs.Changes.{put, PutsInode, DropsObject}
use Rattle.jfs_rename.specs.unlink.specs.loss.specs.objects.proofs.Drop.{object_goes}
use Rattle.jfs_rename.specs.unlink.specs.loss.specs.objects.proofs.Sums.{put_other}
use Rattle.jfs_rename.specs.unlink.specs.loss.specs.meaning.specs.Readers.{readers}
use Rattle.jfs_rename.specs.unlink.specs.loss.specs.steps.specs.After.{used_after}
use Rattle.jfs_rename.specs.unlink.specs.loss.specs.steps.specs.Put.{AddsInode, TellsLines}
use Rattle.jfs_rename.specs.unlink.specs.loss.specs.steps.proofs.Puts.{put_within}
use Rattle.jfs_names_logged.proofs.After.{put_onto}
use Rattle.jfs_names_logged.proofs.Frees.{FreesTree}
use Rattle.jfs_names_logged.specs.calls_logged.specs.Calls.{ArePages}
use Rattle.jfs_names_logged.specs.calls_logged.specs.logged.specs.recovery.specs.kinds.specs.Owner.{has_page}
use Rattle.jfs_names_logged.specs.calls_logged.specs.logged.specs.Own.{LogsPart}
use Rattle.jfs_names_logged.specs.calls_logged.specs.logged.specs.Written.{DropsTree}
use Rattle.jfs_names_logged.specs.calls_logged.specs.logged.proofs.Staged.{runs_law}
use Rattle.jfs_names_logged.specs.calls_logged.specs.logged.proofs.Written.{trees_law}
use Rattle.jfs_moves_logged.proofs.Come.{Come, pages_are, is_true}

module _ (blocks : ℕ) (v : Volume) (are : ArePages blocks v.page) (owed : List ℕ) (tx : List Edit) (w : Volume) (c : Come blocks v owed tx w) (k page : ℕ) (d : Dinode) (first last : List Edit) (at : home v.extents k ≡ Some page) (late : 4 ≤ k)
    (all : (b : ℕ) → count_in b owed ≡ holds (readers blocks) (objects (readers blocks) w k) b) (frees_tree : FreesTree (has_page (readers blocks) (objects (readers blocks) w k)) first)
    (puts : AddsInode blocks v.page page k (gone d) tx last) (lines : TellsLines blocks v.page page tx last) where
  abbrev r : Readers
  r = readers blocks

  abbrev pub dropped_volume : Volume
  dropped_volume = record w { page = put_tx blocks last v.page; used = used_after last v.used; in_use = put k false w.in_use }

  at_now : home w.extents k ≡ Some page
  at_now = ap (λ (places : List (Option ℕ)). home places k) c.extents ∙ at

  dropped_used : (b : ℕ) → bit (dropped_volume.used b) + count_in b owed ≡ bit (w.used b)
  dropped_used b = let u = ap (λ (u : ℕ → Bool). bit (u b)) (lines_used blocks v.page page tx last v.used lines) in let z = c.used b in omega (arith, u, z)

  dead : is_live k (gone d) ≡ false
  dead = not_low k late
    where
      not_low : (j : ℕ) → 4 ≤ j → (nat_lt j 4 || not (0 == 0)) ≡ false
      not_low j l = grind (arith, nat_tests, l)

  drops : DropsObject r w dropped_volume k (gone d) owed
  drops = record {
    dead = dead;
    all = all;
    puts = subst (λ (old : ℕ → List ℕ). PutsInode old dropped_volume.page w.extents k (gone d)) (pages_are blocks v are owed tx w c) (puts w.extents at_now);
    used = dropped_used;
    extents = refl;
    area = refl;
    in_use = λ j. refl;
  }

  one : ChangesOne r w dropped_volume k None
  one = object_goes r w dropped_volume k (gone d) owed c.sound drops

  -- what frees the object leaves the pages
  size : (q : ℕ) → q < blocks → length (w.page q) ≡ 4096
  size q l = ap (λ (x : List ℕ). length x) (c.page q ∙ put_within blocks tx v.page q l) ∙ applied_length q tx (v.page q) ∙ are.sizes q l

  stays : (q : ℕ) → q < blocks → apply_tx q first (w.page q) ≡ w.page q
  stays q l = frees_tree.leaves q (w.page q) (size q l)

  pages_on : (q : ℕ) → q < blocks → dropped_volume.page q ≡ apply_tx q lines.0 (w.page q)
  pages_on q l = ap (λ (e : List Edit). put_tx blocks e v.page q) lines.1 ∙ put_onto blocks v.page tx lines.0 q l ∙ ap (apply_tx q lines.0) (sym (c.page q))

  drops_tree : DropsTree r w dropped_volume k first lines.0
  drops_tree = record {
    page = page;
    left = gone d;
    freed = owed;
    at = at_now;
    drops = drops;
    pages = λ q was now. pages_on q (c.within q was) ∙ ap (apply_tx q lines.0) (sym (stays q (c.within q was))) ∙ sym (applied_onto q first lines.0 (w.page q));
    runs = runs_law page kinds.Inode (put_tx blocks tx v.page page) (put_tx blocks last v.page page) 0 lines.0 lines.2;
    go = frees_tree.go;
    stay = frees_tree.stay;
    leaves = frees_tree.leaves;
  }

  pub dropped_logged : LogsPart r w dropped_volume (first ++ lines.0)
  dropped_logged = trees_law.drops r w dropped_volume k first lines.0 c.sound drops_tree

  pub dropped_come : Come blocks v [] last dropped_volume
  dropped_come = record {
    sound = one.sound;
    page = λ b. refl;
    extents = c.extents;
    area = c.area;
    used = λ b. omega arith;
    within = λ b h. c.within b (is_true (dropped_volume.used b) (w.used b) (let u = dropped_used b in omega (arith, u)) h);
    stay = lines_extents blocks v.page page tx last v.extents lines ∙ c.stay;
  }

  -- no block comes
  pub dropped_none : (b : ℕ) → dropped_volume.used b ≡ true → w.used b ≡ true
  dropped_none b h = is_true (dropped_volume.used b) (w.used b) (let u = dropped_used b in omega (arith, u)) h

  pub dropped_other : (j : ℕ) (e : Dinode) → j ≢ k → objects r w j ≡ Some (spelled r w.page e) → objects r dropped_volume j ≡ Some (spelled r dropped_volume.page e)
  dropped_other j e apart had = (again r dropped_volume w.page j e (one.objects_are j ∙ put_other k None (objects r w) j apart ∙ had)).0
