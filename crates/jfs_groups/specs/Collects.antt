-- What a leader knows between taking a group and writing it.
use Rattle.std.specs.Prelude.{◌≡◌, List, length, Option}
use Rattle.jfs_logpages.specs.declared.group_text.GroupText.{GroupText}
use Rattle.jfs_records.specs.Records.{Noted}
use Rattle.jfs_turns.specs.Lists.{Base, IsPrefix}
use Rattle.jfs_turns.specs.declared.view.View.{View}
use Rattle.jfs_groups.specs.Group.{IsGroupOf}
use Rattle.jfs_groups.specs.Points.{syncs, IsMarked}
use Rattle.jfs_groups.specs.Start.{LogStart}

module _ {E : Type 0} where
  -- the bounds are the log side's own counts
  abbrev pub IsExact : View E → Type 0
  IsExact v = (v.durable ≡ v.log_durable) × (v.stable ≡ v.log_stable)

  -- the log side's counts and its syncpoints are as they were
  abbrev pub KeepsLog : View E → View E → Type 0
  KeepsLog v w = (w.log_durable ≡ v.log_durable) × (w.log_stable ≡ v.log_stable) × (w.log_points ≡ v.log_points)

  -- its counts are, and its list, and no more is taken; a mark may stand behind its syncpoints
  abbrev pub KeepsCounts : View E → View E → Type 0
  KeepsCounts v w = (w.log_durable ≡ v.log_durable) × (w.log_stable ≡ v.log_stable) × (w.log_list ≡ v.log_list) × (w.taken ≡ v.taken) × IsMarked v.log_points w.log_points

  -- the whole list that the volume had is taken, and the group holds what wasn't taken before
  pub record Collects (logs : E → Option (List Noted)) (start : Base → LogStart) (v w : View E) (text : GroupText) : Type 0 where
    pub keeps : KeepsLog v w
    pub all : w.taken ≡ length w.list
    pub log : w.log_list ≡ w.list
    pub before : IsPrefix v.log_list w.list
    pub group : IsGroupOf logs (start v.base).ring w.list v.taken (syncs v.log_points) text
