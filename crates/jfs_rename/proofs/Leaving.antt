-- An object leaves its old name, on top of a transaction after which it has the new one.
use Rattle.std.proofs.Common.{◌≡◌, ◌≢◌, ◌≤◌, sym, ap, ◌∙◌, ℕ, ◌+◌, ◌-◌, ◌<◌, Bool, true, List, [], length, map, Option, Some}
use Rattle.jfs_bits.specs.declared.descriptor.Moment.{Moment}
use Rattle.jfs_inode.specs.declared.fields.Dinode.{Dinode}
use Rattle.jfs_imap.specs.Inodes.{Inodes}
use Rattle.jfs_bmap.specs.States.{Blocks}
use Rattle.jfs_name.specs.Directory.{without_name}
use Rattle.jfs_ranges.specs.declared.edit.Edit.{Edit}
use Rattle.jfs_ranges.specs.Laid.{put_tx}
use Rattle.jfs_tree.specs.Edit.{count_in}
use Rattle.jfs_plain.specs.Tree.{Tree}
use Rattle.jfs_plain.specs.Moves.{changed}
use Rattle.jfs_link.specs.objects.specs.Readers.{Readers}
use Rattle.jfs_link.specs.objects.specs.Volume.{Volume, home}
use Rattle.jfs_link.specs.objects.specs.Objects.{objects, spelled, is_live, has_names}
use Rattle.jfs_link.specs.objects.specs.Image.{extent_place}
use Rattle.jfs_link.specs.meaning.specs.Readers.{readers}
use Rattle.jfs_link.specs.way.specs.Volume.{volume_of}
use Rattle.jfs_link.specs.way.specs.Walk.{tree_in}
use Rattle.jfs_link.specs.way.specs.declared.object.Held.{Held}
use Rattle.jfs_link.specs.steps.specs.After.{used_after, frees}
use Rattle.jfs_link.specs.lead_steps.proofs.Again.{again}
use Rattle.jfs_link.specs.lead_steps.proofs.Turned.{turns}
use Rattle.jfs_unlink.specs.loss.specs.Inodes.{frees_in}
use Rattle.jfs_rename_steps.specs.Moves.{Leaves, less_if}
use Rattle.jfs_rename_steps.specs.Objects.{Arrives}
use Rattle.jfs_rename_steps.specs.declared.leaving.Leaving.{Leaving}
use Rattle.jfs_rename_steps.specs.declared.moving.Moving.{Moving}
use Rattle.jfs_rename_steps.proofs.Stage.{Stage, set_stage, set_keeps, loss_stage}
use Rattle.jfs_rename_steps.proofs.Trees.{arrives_as}
use Rattle.jfs_rename.specs.Done.{AreOn}
use Rattle.jfs_rename.specs.Ends.{AreEnds}
use Rattle.jfs_rename.proofs.Freed.{freed, freed_once, freed_used, lines_frees}
use Rattle.jfs_rename.proofs.Freed.{frees_are as freed_are}
use Rattle.jfs_rename.proofs.Ground.{at_m, p_m, changes}

-- the directory that has the old name, as it stands then
abbrev pub source_with : ℕ → ℕ → Dinode → Held
source_with number page d = record { number = number; page = page; inode = d }

abbrev pub leaving_from : Moving → ℕ → Dinode → Bool → Leaving
leaving_from moving page d less = record { object = moving.object; parent = moving.target.number; source = source_with moving.source.number page d; links = less_if less d.nlink }

module _ (blocks : ℕ) (pages : ℕ → List ℕ) (area : ℕ → ℕ) (bm : Blocks) (inodes : Inodes) (moving : Moving) (on : AreOn blocks pages area bm inodes moving) (from to : List (List ℕ))
    (ends : AreEnds (tree_in blocks pages area bm inodes) from to moving) (now : Moment)
    (tx : List Edit) (w : Volume) (u : Tree) (s : Stage blocks (volume_of pages area bm inodes) [] tx w u) (here_m : objects (readers blocks) w moving.object.number ≡ Some (spelled (readers blocks) w.page moving.object.inode))
    (page : ℕ) (d : Dinode) (here_p : objects (readers blocks) w moving.source.number ≡ Some (spelled (readers blocks) w.page d)) where
  abbrev r : Readers
  r = readers blocks

  abbrev v : Volume
  v = volume_of pages area bm inodes

  abbrev m : ℕ
  m = moving.object.number

  abbrev p : ℕ
  p = moving.source.number

  abbrev q : ℕ
  q = moving.target.number

  abbrev places : List (Option ℕ)
  places = map extent_place inodes.extents

  -- it arrives
  module _ (there : List Edit) (a : Arrives blocks pages moving.object q now tx there) where
    abbrev pub arrived_volume : Volume
    arrived_volume = record w { page = put_tx blocks there pages }

    abbrev pub arrived_tree : Tree
    arrived_tree = changed m (arrives_as (has_names moving.object.inode) q now) u

    pub arrived_stage : Stage blocks v [] there arrived_volume arrived_tree
    arrived_stage = set_stage blocks v on.whole [] tx w u s moving.object.page there m moving.object.inode a.inode a.lines (a.puts places (at_m blocks pages area bm inodes moving on from to ends))
        (arrives_as (has_names moving.object.inode) q now) here_m (changes blocks pages area bm inodes moving on from to ends now a.inode a.arrived)

    pub still_p : objects r arrived_volume p ≡ Some (spelled r arrived_volume.page d)
    still_p = (again r arrived_volume w.page p d (set_keeps blocks v on.whole [] tx w u s moving.object.page there m moving.object.inode a.inode a.lines (a.puts places (at_m blocks pages area bm inodes moving on from to ends))
        (arrives_as (has_names moving.object.inode) q now) here_m (changes blocks pages area bm inodes moving on from to ends now a.inode a.arrived) p (p_m blocks pages area bm inodes moving on from to ends) ∙ here_p)).0

  -- and then the old name goes
  module _ (dir : has_names d ≡ true) (less : Bool) (live : is_live p (record d { nlink = less_if less d.nlink }) ≡ true) (few : less_if less d.nlink ≤ 65535) (at_p : home places p ≡ Some page)
      (name : List ℕ) (later : List Edit) (l : Leaves blocks pages (leaving_from moving page d less) name now tx later) where
    abbrev pub left_volume : Volume
    left_volume = record w { page = put_tx blocks later pages; used = used_after later v.used }

    pub left_stage : Stage blocks v [] later left_volume (changed p (turns (without_name name) (less_if less) now) (arrived_tree l.there l.arrives))
    left_stage = loss_stage blocks v on.whole l.there (arrived_volume l.there l.arrives) (arrived_tree l.there l.arrives) (arrived_stage l.there l.arrives) p d (still_p l.there l.arrives) dir l.loses.size
        (less_if less) (d.nblocks - (frees_in l.loses.mid - frees_in l.there)) live few name l.loses.root l.loses.width l.loses.parent now l.loses.mid later l.loses.inode l.loses.removes l.loses.gone (l.loses.puts places at_p) page l.loses.lines

    -- the blocks that go with it were in use, each once
    pub record Freeing (lost : List ℕ) : Type 0 where
      pub frees_are : (b : ℕ) → frees later b ≡ frees tx b + count_in b lost
      pub once : (b : ℕ) → count_in b lost ≤ 1
      pub owned : (b : ℕ) → 0 < count_in b lost → w.used b ≡ true

    pub left_frees : (lost : List ℕ) × Freeing lost
    left_frees = (
      freed blocks v on.whole l.there (arrived_volume l.there l.arrives) (arrived_tree l.there l.arrives) (arrived_stage l.there l.arrives) p d (still_p l.there l.arrives) dir name l.loses.root l.loses.mid l.loses.inode l.loses.removes,
      record {
        frees_are = λ b. lines_frees blocks pages page l.loses.mid later b l.loses.lines
            ∙ freed_are blocks v on.whole l.there (arrived_volume l.there l.arrives) (arrived_tree l.there l.arrives) (arrived_stage l.there l.arrives) p d (still_p l.there l.arrives) dir name l.loses.root l.loses.mid l.loses.inode l.loses.removes b
            ∙ ap (λ (n : ℕ). n + count_in b (freed blocks v on.whole l.there (arrived_volume l.there l.arrives) (arrived_tree l.there l.arrives) (arrived_stage l.there l.arrives) p d (still_p l.there l.arrives) dir name l.loses.root l.loses.mid l.loses.inode l.loses.removes))
            (lines_frees blocks pages moving.object.page tx l.there b l.arrives.lines);
        once = freed_once blocks v on.whole l.there (arrived_volume l.there l.arrives) (arrived_tree l.there l.arrives) (arrived_stage l.there l.arrives) p d (still_p l.there l.arrives) dir name l.loses.root l.loses.mid l.loses.inode l.loses.removes;
        owned = freed_used blocks v on.whole l.there (arrived_volume l.there l.arrives) (arrived_tree l.there l.arrives) (arrived_stage l.there l.arrives) p d (still_p l.there l.arrives) dir name l.loses.root l.loses.mid l.loses.inode l.loses.removes;
      },
    )
