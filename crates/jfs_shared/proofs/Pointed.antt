-- A syncpoint behind a commit: what volume and log stand for on the way.
use Rattle.std.specs.Prelude.{OnOk}
use Rattle.std.proofs.Common.{◌≡◌, ◌≤◌, ℕ, ◌+◌, List, [], length, None, Result, Ok, Err, refl, inl, sym, ap, subst, ◌∙◌, arith, append-nil}
use Rattle.jfs_bits.specs.Count.{Rose}
use Rattle.jfs_disk.specs.Crash.{DiskState, last_of}
use Rattle.jfs_disk.specs.Moment.{IsResting}
use Rattle.jfs_disk.specs.declared.disk.Disk.{Ghosts}
use Rattle.jfs_disk.specs.declared.disk.Fault.{Fault}
use Rattle.jfs_groups.specs.Points.{syncs}
use Rattle.jfs_groups.specs.declared.log.SharedLog.{SharedLog}
use Rattle.jfs_kept_history.specs.legal.specs.served.specs.call.specs.halves.specs.Parts.{Parts}
use Rattle.jfs_kept_history.specs.legal.specs.served.specs.call.specs.volume.specs.Settles.{Settles, StaysShown}
use Rattle.jfs_kept_history.specs.legal.specs.served.specs.call.specs.volume.specs.map_files.specs.declared.map_file.MapFiles.{MapFiles}
use Rattle.jfs_kept_history.specs.legal.specs.served.specs.call.specs.volume.specs.pages.specs.Dirty.{dirty_of}
use Rattle.jfs_kept_history.specs.legal.specs.served.specs.call.specs.volume.specs.pages.specs.declared.dirty.Dirty.{Dirty}
use Rattle.jfs_kept_history.specs.legal.specs.served.specs.unmount.specs.Unmount.{IsAllHome}
use Rattle.jfs_volume_calls.specs.Written.{LeavesMaps}
use Rattle.jfs_kept_history.specs.legal.specs.served.specs.crash_core.specs.Step.{halted_by}
use Rattle.jfs_shared.specs.Base.{start_of}
use Rattle.jfs_shared.specs.Both.{Seen, AreOf, Lost, Committed, Pointed, PartlyPointed, PointIs}
use Rattle.jfs_shared.specs.Home.{IsSettled}
use Rattle.jfs_shared.specs.Settled.{KeepsHistory, SettlesHistory, MaySettle, PointBehind, RestsBehind, LeavesPages}
use Rattle.jfs_shared.specs.Shared.{standing, log_standing}
use Rattle.jfs_shared.specs.declared.shared.SharedVolume.{SharedVolume}
use Rattle.jfs_shared.proofs.Stands.{home_stands, home_settles as settles_home, stopped_stands}
use Rattle.jfs_shared.proofs.Text.{reaches, nothing_waits}

-- all entries are durable and acknowledged
abbrev pub settled : Seen → Seen
settled n = record n { log_list = n.list; taken = length n.list; told = length n.list; durable = length n.list }

module _ {D : Type 0} (d : Ghosts D) (x : SharedVolume D) (y : SharedLog D d) (runs : y.side.halted ≡ None) (n : Seen) (k : AreOf (standing d) (log_standing d) n x y) where
  durable_within : n.durable ≤ length n.list
  durable_within = let r = k.log.runs runs in let all = r.taken_all in let within = k.volume.taken_within in omega (arith, all, within)

  told_within : n.told ≤ length n.list
  told_within = let a = k.volume.told_within in let b = k.volume.taken_within in omega (arith, a, b)

  -- the commit failed
  pub not_committed : (x' : SharedVolume D) (y' : SharedLog D d) → Lost (standing d) (log_standing d) n x' y' → PartlyPointed (standing d) (log_standing d) n x' y'
  not_committed x' y' lost = record {
    told_now = n.told;
    durable_now = n.durable;
    points_now = lost.0;
    volume = lost.2;
    log = lost.3;
    told_grows = omega arith;
    durable_grows = omega arith;
    told_within = k.told_within;
    durable_within = durable_within;
    points_grow = inl lost.1;
  }

  module _ (x' : SharedVolume D) (y' : SharedLog D d) (c : Committed (standing d) (log_standing d) n x' y') (new : Parts) (is : IsSettled x'.volume new) where
    -- pages went home
    pub home_are : new.faults ≡ x'.volume.faults → new.halted ≡ x'.volume.halted → Settles x'.volume new → StaysShown d.tells x'.volume new → (d.tells → LeavesMaps x'.volume new) → KeepsHistory d.tells d.tells_crashes x'.volume new → AreOf (standing d) (log_standing d) (settled n) (record x' { volume = new }) y'
    home_are faults halted settles shown maps keeps = record {
      volume = home_stands d.tells d.tells_crashes n.base n.list (length n.list) (length n.list) n.points n.known x'.points x'.is_broken_off x'.volume c.0 new is faults halted settles shown maps keeps;
      log = c.1;
      front = ([], append-nil n.list);
      told_within = omega arith;
    }

    -- a SYNCPT may be made then
    pub home_settles : new.halted ≡ x'.volume.halted → Settles x'.volume new → StaysShown d.tells x'.volume new → (d.tells → LeavesMaps x'.volume new) → SettlesHistory d.tells d.tells_crashes x'.volume new → MaySettle d.tells d.tells_crashes (settled n) (record x' { volume = new })
    home_settles halted settles shown maps keeps = settles_home d.tells d.tells_crashes n.base n.list (length n.list) (length n.list) n.points n.known x'.points x'.is_broken_off x'.volume c.0 new is halted settles shown maps keeps

    -- one of them couldn't
    pub not_home : (fault : Fault) → Rose x'.volume.faults new.faults → new.halted ≡ halted_by fault x'.volume.halted → Settles x'.volume new → StaysShown d.tells x'.volume new → (d.tells → LeavesMaps x'.volume new) → KeepsHistory d.tells d.tells_crashes x'.volume new → PartlyPointed (standing d) (log_standing d) n (record x' { volume = new }) y'
    not_home fault rose halts settles shown maps keeps = record {
      told_now = length n.list;
      durable_now = length n.list;
      points_now = n.points;
      volume = stopped_stands d.tells d.tells_crashes n.base n.list (length n.list) (length n.list) n.points n.known x'.points x'.is_broken_off x'.volume c.0 new is fault rose halts settles shown maps keeps;
      log = c.1;
      told_grows = told_within;
      durable_grows = durable_within;
      told_within = omega arith;
      durable_within = omega arith;
      points_grow = inl (inl refl);
    }

    -- ---- a SYNCPT may follow

    pub nothing_left : new.text.bytes ≡ []
    nothing_left = ap (λ (p : Parts). p.text.bytes) is ∙ nothing_waits (start_of n.base).log.ring n.list (length n.list) (syncs n.points) x'.volume.text c.0.text (omega arith) refl

    pub same_end : new.text.place ≡ x.volume.text.place + length x.volume.text.bytes
    same_end =
        let now = reaches (start_of n.base).log.ring n.list (length n.list) (syncs n.points) x'.volume.text c.0.text (omega arith) in
        let before = reaches (start_of n.base).log.ring n.list n.taken (syncs n.points) x.volume.text k.volume.text k.volume.taken_within in
        let none = ap (λ (b : List ℕ). length b) nothing_left in
        omega (arith, now, before, none, ap (λ (p : Parts). p.text.place) is, ap (λ (p : Parts). length p.text.bytes) is)

    pub all_told : new.told ≡ new.appended
    all_told = ap (λ (p : Parts). p.told) is ∙ c.0.told_is ∙ sym (ap (λ (p : Parts). p.appended) is ∙ c.0.appended)

  abbrev pub PointEnds : Result (Unit {0}) Fault → SharedVolume D → SharedLog D d → Type 0
  PointEnds (Ok done) last last_log = Pointed (standing d) (log_standing d) n last last_log
  PointEnds (Err fault) last last_log = PartlyPointed (standing d) (log_standing d) n last last_log

  -- what follows from there is said of both as they were
  pub point_ends : (x' : SharedVolume D) (y' : SharedLog D d) (last : SharedVolume D) (last_log : SharedLog D d) (result : Result (Unit {0}) Fault) → AreOf (standing d) (log_standing d) (settled n) x' y' → MaySettle d.tells d.tells_crashes (settled n) x'
      → PointBehind d x' y' last last_log result → PointEnds result last last_log
  point_ends x' y' last last_log (Ok done) are home point = point (settled n) are home
  point_ends x' y' last last_log (Err fault) are home point =
      let p = point (settled n) are home in record {
        told_now = p.told_now;
        durable_now = p.durable_now;
        points_now = p.points_now;
        volume = p.volume;
        log = p.log;
        told_grows = let g = p.told_grows in omega (arith, g, told_within);
        durable_grows = let g = p.durable_grows in omega (arith, g, durable_within);
        told_within = p.told_within;
        durable_within = p.durable_within;
        points_grow = p.points_grow;
      }

module _ {D : Type 0} (d : Ghosts D) (x : SharedVolume D) (y : SharedLog D d) (runs : y.side.halted ≡ None) where
  pub point_is : (last : SharedVolume D) (last_log : SharedLog D d) (result : Result (Unit {0}) Fault) → ((n : Seen) (k : AreOf (standing d) (log_standing d) n x y) → PointEnds d x y runs n k result last last_log)
      → PointIs (standing d) (log_standing d) x y last last_log result
  point_is last last_log (Ok done) each = λ n k. each n k
  point_is last last_log (Err fault) each = λ n k. each n k

pub committed_told : {D : Type 0} (d : Ghosts D) (n : Seen) (x : SharedVolume D) (y : SharedLog D d) → Committed (standing d) (log_standing d) n x y → x.volume.told ≡ x.volume.appended
committed_told d n x y c = c.0.told_is ∙ sym c.0.appended

-- ---- pages behind a SYNCPT

pub home_behind : (result : Result (Unit {0}) Fault) (mid last : Parts) → IsAllHome mid → OnOk result (LeavesPages mid last) → OnOk result (IsAllHome last)
home_behind (Ok done) mid last home same = record {
  clean = λ p. ap (λ (ds : List Dirty). dirty_of ds p) same.dirty ∙ home.clean p;
  block_map = ap (λ (f : MapFiles). f.blocks.stale) same.files ∙ home.block_map;
  inode_map = ap (λ (f : MapFiles). f.inodes.stale) same.files ∙ home.inode_map;
}
home_behind (Err fault) mid last home same = tt

pub rests_behind : {D : Type 0} (d : Ghosts D) (x : SharedVolume D) (y : SharedLog D d) (result : Result (Unit {0}) Fault) (mid : Parts) (x' last : SharedVolume D) → OnOk result (LeavesPages mid last.volume)
    → ((n : Seen) → AreOf (standing d) (log_standing d) n x y → MaySettle d.tells d.tells_crashes (settled n) (record x' { volume = mid })) → OnOk result (RestsBehind d x y last)
rests_behind d x y (Ok done) mid x' last same settles = λ n k t c checked. subst (λ (past : List DiskState). IsResting (last_of past)) (sym same.past) (settles n k t c checked).settled.rests
rests_behind d x y (Err fault) mid x' last same settles = tt
