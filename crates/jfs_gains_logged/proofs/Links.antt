-- A directory gains a name, and the object that it leads to gets one more link.
use Rattle.std.proofs.Common.{◌≡◌, ◌≢◌, ◌+◌, ◌==◌, ◌||◌, not, nat_lt, ne_eqb, ℕ, Bool, true, false, List, [], ◌++◌, Option, Some, refl, sym, ap, ◌∙◌, subst, arith}
use Rattle.jfs_bits.specs.declared.descriptor.Moment.{Moment}
use Rattle.jfs_bits.specs.declared.rule.PageKind.TheVariants as kinds
use Rattle.jfs_imap.specs.Inodes.{Inodes}
use Rattle.jfs_inode.specs.declared.fields.Dinode.{Dinode}
use Rattle.jfs_ranges.specs.declared.edit.Edit.{Edit}
use Rattle.jfs_ranges.specs.Laid.{put_tx}
use Rattle.jfs_create.specs.bmap.specs.States.{Blocks}
use Rattle.jfs_create.specs.link.specs.Joins.{one_more}
use Rattle.jfs_create.specs.link.specs.lead_steps.proofs.Again.{again}
use Rattle.jfs_create.specs.link.specs.lead_steps.proofs.InPlace.{sets_in_place, counted_names, counted_extents}
use Rattle.jfs_create.specs.link.specs.objects.specs.Readers.{Readers}
use Rattle.jfs_create.specs.link.specs.objects.specs.Volume.{Volume}
use Rattle.jfs_create.specs.link.specs.objects.specs.Objects.{objects, spelled, is_live}
use Rattle.jfs_create.specs.link.specs.objects.specs.Laws.{ChangesOne}
use Rattle.jfs_create.specs.link.specs.objects.specs.Changes.{PutsInode, SetsObject}
use Rattle.jfs_create.specs.link.specs.objects.proofs.Set.{object_is_set}
use Rattle.jfs_create.specs.link.specs.objects.proofs.Sums.{put_other}
use Rattle.jfs_create.specs.link.specs.meaning.specs.Readers.{readers}
use Rattle.jfs_create.specs.link.specs.steps.specs.After.{used_after, extents_after, after_call}
use Rattle.jfs_create.specs.link.specs.steps.specs.Laws.{ChangesPagesAlone}
use Rattle.jfs_create.specs.link.specs.steps.specs.Put.{AddsInode, TellsLines}
use Rattle.jfs_create.specs.link.specs.steps.proofs.After.{used_onto, extents_onto, lines_alone, runs_leave, after_is}
use Rattle.jfs_create.specs.link.specs.way.specs.Volume.{volume_of}
use Rattle.jfs_create.specs.link.specs.way.specs.declared.object.Held.{Held}
use Rattle.jfs_names_logged.specs.calls_logged.specs.Found.{IsFound}
use Rattle.jfs_names_logged.specs.calls_logged.specs.logged.specs.Own.{LogsItsOwn, LogsPart}
use Rattle.jfs_names_logged.specs.calls_logged.specs.logged.specs.Kinds.{HasTrees}
use Rattle.jfs_names_logged.specs.calls_logged.specs.logged.proofs.Edited.{inode_law}
use Rattle.jfs_names_logged.specs.calls_logged.specs.logged.proofs.Joined.{join_law}
use Rattle.jfs_names_logged.proofs.After.{put_onto}
use Rattle.jfs_gains_logged.proofs.Gains.{Gaining}
use Rattle.jfs_gains_logged.proofs.Gains as gains

-- ---- lines of an inode's page leave the blocks in use and the inode extents

module _ (blocks : ℕ) (pages : ℕ → List ℕ) (page : ℕ) (tx later : List Edit) (tells : TellsLines blocks pages page tx later) where
  alone : ChangesPagesAlone tells.0
  alone = lines_alone tells.0 (runs_leave page kinds.Inode (put_tx blocks tx pages page) (put_tx blocks later pages page) 0 tells.0 tells.2)

  pub lines_used : (used : ℕ → Bool) → used_after later used ≡ used_after tx used
  lines_used used = ap (λ (all : List Edit). used_after all used) tells.1 ∙ used_onto tx tells.0 used ∙ alone.used (used_after tx used)

  pub lines_extents : (extents : List (Option ℕ)) → extents_after later extents ≡ extents_after tx extents
  lines_extents extents = ap (λ (all : List Edit). extents_after all extents) tells.1 ∙ extents_onto tx tells.0 extents ∙ alone.extents (extents_after tx extents)

-- ---- the object

module _ (blocks : ℕ) (pages : ℕ → List ℕ) (area : ℕ → ℕ) (bm : Blocks) (inodes : Inodes) (x : Gaining blocks pages area bm inodes) (object : Held) (found : IsFound blocks pages area bm inodes object) (other : object.number ≢ x.dir.number)
    (now : Moment) (tx : List Edit) (adds : AddsInode blocks pages object.page object.number (one_more object.inode now) x.tx tx) (lines : TellsLines blocks pages object.page x.tx tx) where
  abbrev r : Readers
  r = readers blocks

  abbrev v : Volume
  v = volume_of pages area bm inodes

  abbrev v1 : Volume
  v1 = gains.v1 blocks pages area bm inodes x

  abbrev m : ℕ
  m = object.number

  abbrev md : Dinode
  md = object.inode

  abbrev set : Dinode
  set = one_more md now

  abbrev own : List Edit
  own = gains.tree blocks pages area bm inodes x ++ gains.inode blocks pages area bm inodes x

  abbrev last : List Edit
  last = lines.0

  abbrev w : Volume
  w = record v1 { page = put_tx blocks tx pages }

  tx_is : tx ≡ own ++ last
  tx_is = lines.1 ∙ ap (λ (e : List Edit). e ++ last) (gains.tx_is blocks pages area bm inodes x)

  one : ChangesOne r v v1 x.dir.number (Some (spelled r (put_tx blocks x.gains.mid pages) (gains.set blocks pages area bm inodes x)))
  one = gains.one_changes blocks pages area bm inodes x

  was_now : objects r v1 m ≡ Some (spelled r v1.page md)
  was_now = (again r v1 pages m md (one.objects_are m ∙ put_other x.dir.number (Some (spelled r (put_tx blocks x.gains.mid pages) (gains.set blocks pages area bm inodes x))) (objects r v) m other ∙ found.was)).0

  live : is_live m set ≡ true
  live = by (nat_lt m 4) md.nlink
    where
      not_zero : (k : ℕ) → not (k + 1 == 0) ≡ true
      not_zero k = ap not (ne_eqb (k + 1) 0 (λ e. absurd (omega (arith, e))))

      by : (low : Bool) (k : ℕ) → (low || not (k + 1 == 0)) ≡ true
      by true k = refl
      by false k = not_zero k

  puts : PutsInode v1.page w.page v1.extents m set
  puts = adds v.extents found.home_is

  two : SetsObject r v1 w m set v1.page [] []
  two = sets_in_place r v1 w one.sound m md set was_now live (counted_names blocks v1.page md (md.nlink + 1) now) (counted_extents blocks v1.page md (md.nlink + 1) now) refl refl puts refl refl refl (λ k. refl)

  trees : HasTrees (spelled r v1.page md) (spelled r v1.page set)
  unfolding spelled
  trees = record { names = refl; extents = refl; regular = refl }

  last_logged : LogsPart r v1 w last
  last_logged = inode_law r v1 w m object.page md set (put_tx blocks x.tx pages object.page) (put_tx blocks tx pages object.page) last one.sound (record {
    at = found.home_is;
    was = was_now;
    sets = two;
    trees = trees;
    pages = λ q was now. ap (λ (e : List Edit). put_tx blocks e pages q) lines.1 ∙ put_onto blocks pages x.tx last q (gains.then_below blocks pages area bm inodes x q was);
    runs = lines.2;
  })

  is_after : w ≡ after_call blocks tx v
  is_after = after_is blocks tx v w (record {
    page = refl;
    extents = sym (lines_extents blocks pages object.page x.tx tx lines v.extents ∙ (gains.moves blocks pages area bm inodes x).extents_stay v.extents);
    area = refl;
    used = λ b. sym (ap (λ (u : ℕ → Bool). u b) (lines_used blocks pages object.page x.tx tx lines v.used));
    in_use = (object_is_set r v1 w m set v1.page [] [] one.sound two).0.sound.agrees.inodes;
  })

  pub link_logged : LogsItsOwn r v (after_call blocks tx v) tx
  link_logged = subst (λ (u : Volume). LogsItsOwn r v u tx) is_after (subst (λ (e : List Edit). LogsItsOwn r v w e) (sym tx_is)
      (join_law.all r v v1 w own last (gains.one_logged blocks pages area bm inodes x) last_logged (λ b was now. now)))
