-- An object arrives in a directory, and then the one that it leaves loses its old name.
use Rattle.std.proofs.Common.{◌≡◌, ◌≢◌, ℕ, Bool, true, false, List, [], ◌++◌, append_assoc, Some, refl, sym, ap, ◌∙◌, subst}
use Rattle.jfs_bits.specs.declared.descriptor.Moment.{Moment}
use Rattle.jfs_bits.specs.Field.{put_bytes}
use Rattle.jfs_inode.specs.declared.fields.Dinode.{Dinode}
use Rattle.jfs_ranges.specs.declared.edit.Edit.{Edit}
use Rattle.jfs_rename.specs.rename_steps.specs.Moves.{Leaves}
use Rattle.jfs_rename.specs.rename_steps.specs.Objects.{HasArrived}
use Rattle.jfs_rename.specs.rename_steps.specs.declared.leaving.Leaving.{Leaving}
use Rattle.jfs_rename.specs.unlink.specs.loss.specs.lead_steps.proofs.InPlace.{counted_names, counted_extents, moved_names, moved_extents}
use Rattle.jfs_rename.specs.unlink.specs.loss.specs.objects.specs.Readers.{Readers}
use Rattle.jfs_rename.specs.unlink.specs.loss.specs.objects.specs.Volume.{Volume, home}
use Rattle.jfs_rename.specs.unlink.specs.loss.specs.objects.specs.Objects.{objects, spelled, is_live, has_names}
use Rattle.jfs_rename.specs.unlink.specs.loss.specs.meaning.specs.Readers.{readers}
use Rattle.jfs_names_logged.specs.calls_logged.specs.Calls.{ArePages}
use Rattle.jfs_names_logged.specs.calls_logged.specs.logged.specs.recovery.specs.kinds.specs.Owner.{is_regular_file}
use Rattle.jfs_names_logged.specs.calls_logged.specs.logged.specs.Own.{LogsPart}
use Rattle.jfs_names_logged.specs.calls_logged.specs.logged.proofs.Joined.{join_law, never}
use Rattle.jfs_moves_logged.proofs.Come.{Come}
use Rattle.jfs_moves_logged.proofs.InPlace.{KeepsTrees, in_place_volume, in_place_come, in_place_logged, in_place_other}
use Rattle.jfs_moves_logged.proofs.Lost.{lost_edits, lost_is, lost_volume, lost_come, lost_logged, lost_none}

-- ---- what has arrived

same_type : (blocks : ℕ) (page : ℕ → List ℕ) (d : Dinode) (rest : List ℕ) (links : ℕ) (now : Moment) → is_regular_file (spelled (readers blocks) page (record d { rest = rest; nlink = links; ctime = now })) ≡ is_regular_file (spelled (readers blocks) page d)
unfolding spelled
same_type blocks page d rest links now = refl

-- so many links, and a time of the last change
pub counted_keeps : (blocks m : ℕ) (d : Dinode) (links : ℕ) (now : Moment) → is_live m (record d { nlink = links }) ≡ true → KeepsTrees blocks m d (record d { nlink = links; ctime = now })
counted_keeps blocks m d links now live = record {
  live = live;
  trees = λ page. record { names = counted_names blocks page d links now; extents = counted_extents blocks page d links now; regular = same_type blocks page d d.rest links now };
  acl = refl;
  ea = refl;
}

pub arrived_keeps : (blocks m : ℕ) (d : Dinode) (parent : ℕ) (now : Moment) (set : Dinode) → is_live m d ≡ true → HasArrived (has_names d) d parent now set → KeepsTrees blocks m d set
arrived_keeps blocks m d parent now set live h = by (has_names d) refl h
  where
    by : (x : Bool) → has_names d ≡ x → HasArrived x d parent now set → KeepsTrees blocks m d set
    by true dir (root, names, size, is) = subst (KeepsTrees blocks m d) (sym is) (record {
      live = live;
      trees = λ page. record {
        names = moved_names blocks page d root parent now dir size names.width names.parent_is (names.node blocks);
        extents = moved_extents blocks page d root parent now dir size names.width names.parent_is (names.node blocks);
        regular = same_type blocks page d (put_bytes 96 root d.rest) d.nlink now;
      };
      acl = refl;
      ea = refl;
    })
    by false file is = subst (KeepsTrees blocks m d) (sym is) (counted_keeps blocks m d d.nlink now live)

-- ---- both steps

module _ (blocks : ℕ) (v : Volume) (are : ArePages blocks v.page) (tx : List Edit) (w : Volume) (c : Come blocks v [] tx w) (leaving : Leaving) (name : List ℕ) (now : Moment) (later : List Edit) (x : Leaves blocks v.page leaving name now tx later)
    (at_m : home v.extents leaving.object.number ≡ Some leaving.object.page) (here_m : objects (readers blocks) w leaving.object.number ≡ Some (spelled (readers blocks) w.page leaving.object.inode)) (live_m : is_live leaving.object.number leaving.object.inode ≡ true)
    (at_p : home v.extents leaving.source.number ≡ Some leaving.source.page) (here_p : objects (readers blocks) w leaving.source.number ≡ Some (spelled (readers blocks) w.page leaving.source.inode)) (dir : has_names leaving.source.inode ≡ true)
    (live_p : is_live leaving.source.number (record leaving.source.inode { nlink = leaving.links }) ≡ true) (apart : leaving.source.number ≢ leaving.object.number) where
  abbrev r : Readers
  r = readers blocks

  pub keeps : KeepsTrees blocks leaving.object.number leaving.object.inode x.arrives.inode
  keeps = arrived_keeps blocks leaving.object.number leaving.object.inode leaving.parent now x.arrives.inode live_m x.arrives.arrived

  abbrev w1 : Volume
  w1 = in_place_volume blocks v are [] tx w c leaving.object.number leaving.object.page leaving.object.inode x.arrives.inode x.there at_m here_m keeps x.arrives.puts x.arrives.lines

  pub c1 : Come blocks v [] x.there w1
  c1 = in_place_come blocks v are [] tx w c leaving.object.number leaving.object.page leaving.object.inode x.arrives.inode x.there at_m here_m keeps x.arrives.puts x.arrives.lines

  first_logged : LogsPart r w w1 x.arrives.lines.0
  first_logged = in_place_logged blocks v are [] tx w c leaving.object.number leaving.object.page leaving.object.inode x.arrives.inode x.there at_m here_m keeps x.arrives.puts x.arrives.lines

  pub still_p : objects r w1 leaving.source.number ≡ Some (spelled r w1.page leaving.source.inode)
  still_p = in_place_other blocks v are [] tx w c leaving.object.number leaving.object.page leaving.object.inode x.arrives.inode x.there at_m here_m keeps x.arrives.puts x.arrives.lines leaving.source.number leaving.source.inode apart here_p

  abbrev last : List Edit
  last = lost_edits blocks v are x.there w1 c1 leaving.source at_p still_p dir name leaving.links live_p now later x.loses

  abbrev pub left_volume : Volume
  left_volume = lost_volume blocks v are x.there w1 c1 leaving.source at_p still_p dir name leaving.links live_p now later x.loses

  abbrev pub left_edits : List Edit
  left_edits = x.arrives.lines.0 ++ last

  pub left_is : later ≡ tx ++ left_edits
  left_is = lost_is blocks v are x.there w1 c1 leaving.source at_p still_p dir name leaving.links live_p now later x.loses ∙ ap (λ (all : List Edit). all ++ last) x.arrives.lines.1 ∙ append_assoc tx x.arrives.lines.0 last

  pub left_come : Come blocks v [] later left_volume
  left_come = lost_come blocks v are x.there w1 c1 leaving.source at_p still_p dir name leaving.links live_p now later x.loses

  -- no block comes
  pub left_none : (b : ℕ) → left_volume.used b ≡ true → w.used b ≡ true
  left_none b h = lost_none blocks v are x.there w1 c1 leaving.source at_p still_p dir name leaving.links live_p now later x.loses b h

  pub left_logged : LogsPart r w left_volume left_edits
  left_logged = join_law.parts r w w1 left_volume x.arrives.lines.0 last first_logged (lost_logged blocks v are x.there w1 c1 leaving.source at_p still_p dir name leaving.links live_p now later x.loses) (λ b was now. was) (λ b free there. never (w.used b) there free)
