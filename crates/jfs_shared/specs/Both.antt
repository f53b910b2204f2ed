-- A volume and its log, as whoever has both turns holds them.
use Rattle.std.specs.Prelude.{◌≡◌, ◌≤◌, ◌⊎◌, ◌++◌, ◌∷◌, [], ℕ, suc, List, length, None, Result, Ok, Err}
use Rattle.jfs_disk.specs.declared.disk.Disk.{Ghosts}
use Rattle.jfs_disk.specs.declared.disk.Fault.{Fault}
use Rattle.jfs_logpages.specs.declared.fault.LogFault.{LogFault}
use Rattle.jfs_turns.specs.Lists.{Base, IsPrefix}
use Rattle.jfs_turns.specs.Standing.{Standing}
use Rattle.jfs_groups.specs.Points.{halt_mark}
use Rattle.jfs_groups.specs.declared.log.SharedLog.{SharedLog}
use Rattle.jfs_kept_history.specs.legal.specs.served.specs.volume_calls.specs.Together as calls
use Rattle.jfs_shared.specs.Entries.{Recorded}
use Rattle.jfs_shared.specs.declared.shared.SharedVolume.{SharedVolume}

-- what both stand for: one base, the volume's list and the log's, how many entries groups have taken, are acknowledged and are durable, the syncpoints, and how many the volume knows to be stable and are stable
pub record Seen : Type 0 where
  pub base : Base
  pub list : List Recorded
  pub log_list : List Recorded
  pub taken : ℕ
  pub told : ℕ
  pub durable : ℕ
  pub points : List ℕ
  pub known : ℕ
  pub stable : ℕ

-- the same syncpoints, and behind them a mark that the log has halted, or none
abbrev pub MayBeMarked : List ℕ → List ℕ → Type 0
MayBeMarked points later = (later ≡ points) ⊎ (later ≡ points ++ halt_mark ∷ [])

module _ {V L : Type 0} (of_volume : Standing V Recorded) (of_log : Standing L Recorded) where
  -- The log's list is a front of the volume's, and nothing is acknowledged that isn't durable.
  pub record AreOf (n : Seen) (x : V) (y : L) : Type 0 where
    pub volume : of_volume x n.base n.list n.taken n.told n.points n.known
    pub log : of_log y n.base n.log_list n.taken n.durable n.points n.stable
    pub front : IsPrefix n.log_list n.list
    pub told_within : n.told ≤ n.durable

  abbrev pub AreTogether : V → L → Type 0
  AreTogether x y = (n : Seen) × AreOf n x y

  -- ---- a commit

  -- all entries are taken, durable and acknowledged
  abbrev pub Committed : Seen → V → L → Type 0
  Committed n x y = of_volume x n.base n.list (length n.list) (length n.list) n.points n.known × of_log y n.base n.list (length n.list) (length n.list) n.points n.stable

  -- All are taken, and no more is durable or acknowledged. There is a mark where the volume counts one more.
  abbrev pub Lost : Seen → V → L → Type 0
  Lost n x y = (points : List ℕ) × MayBeMarked n.points points × of_volume x n.base n.list (length n.list) n.told points n.known × of_log y n.base n.list (length n.list) n.durable points n.stable

  -- on the way: all are taken and durable
  abbrev pub Written : Seen → V → L → Type 0
  Written n x y = of_volume x n.base n.list (length n.list) n.told n.points n.known × of_log y n.base n.list (length n.list) (length n.list) n.points n.stable

  abbrev pub WriteIs : V → L → V → L → Result (Unit {0}) LogFault → Type 0
  WriteIs x y x' y' (Ok done) = (n : Seen) → AreOf n x y → Written n x' y'
  WriteIs x y x' y' (Err why) = (n : Seen) → AreOf n x y → Lost n x' y'

  abbrev pub CommitIs : V → L → V → L → Result (Unit {0}) LogFault → Type 0
  CommitIs x y x' y' (Ok done) = (n : Seen) → AreOf n x y → Committed n x' y'
  CommitIs x y x' y' (Err why) = (n : Seen) → AreOf n x y → Lost n x' y'

  -- ---- a syncpoint

  -- the same, with one syncpoint more, at which all entries were durable; all of them are stable, and known to be
  abbrev pub Pointed : Seen → V → L → Type 0
  Pointed n x y =
      of_volume x n.base n.list (length n.list) (length n.list) (n.points ++ length n.list ∷ []) (suc (length n.points))
      × of_log y n.base n.list (length n.list) (length n.list) (n.points ++ length n.list ∷ []) (suc (length n.points))

  -- All entries are taken. More of them may be durable and acknowledged. There may be a syncpoint more, at which all entries were durable and which isn't stable, and behind it a mark that the log has halted.
  pub record PartlyPointed (n : Seen) (x : V) (y : L) : Type 0 where
    pub told_now : ℕ
    pub durable_now : ℕ
    pub points_now : List ℕ
    pub volume : of_volume x n.base n.list (length n.list) told_now points_now n.known
    pub log : of_log y n.base n.list (length n.list) durable_now points_now n.stable
    pub told_grows : n.told ≤ told_now
    pub durable_grows : n.durable ≤ durable_now
    pub told_within : told_now ≤ durable_now
    pub durable_within : durable_now ≤ length n.list
    pub points_grow : MayBeMarked n.points points_now ⊎ MayBeMarked (n.points ++ length n.list ∷ []) points_now

  abbrev pub PointIs : V → L → V → L → Result (Unit {0}) Fault → Type 0
  PointIs x y x' y' (Ok done) = (n : Seen) → AreOf n x y → Pointed n x' y'
  PointIs x y x' y' (Err fault) = (n : Seen) → AreOf n x y → PartlyPointed n x' y'

-- so the calls of one client may have them
abbrev pub TogetherLaw : {D : Type 0} (d : Ghosts D) → Standing (SharedVolume D) Recorded → Standing (SharedLog D d) Recorded → Type 0
TogetherLaw {D} d of_volume of_log = (n : Seen) (x : SharedVolume D) (y : SharedLog D d) → AreOf of_volume of_log n x y → y.side.halted ≡ None → calls.AreTogether x.volume (calls.log_parts d y.side)
