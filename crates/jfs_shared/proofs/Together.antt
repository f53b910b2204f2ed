-- A volume's text will stand at its log's end.
use Rattle.std.proofs.Common.{◌≡◌, ℕ, List, length, take, None, sym, ap, ◌∙◌}
use Rattle.std.proofs.Math.Seq.{take-append_seam}
use Rattle.jfs_disk.specs.declared.disk.Disk.{Ghosts}
use Rattle.jfs_groups.specs.Points.{syncs}
use Rattle.jfs_groups.specs.Text.{end_of}
use Rattle.jfs_groups.specs.Log.{IsRunning, data_of}
use Rattle.jfs_groups.specs.declared.log.SharedLog.{SharedLog}
use Rattle.jfs_kept_history.specs.legal.specs.served.specs.volume_calls.specs.Together as calls
use Rattle.jfs_shared.specs.Base.{start_of}
use Rattle.jfs_shared.specs.Both.{Seen, AreOf}
use Rattle.jfs_shared.specs.Shared.{logs_of, standing, log_standing}
use Rattle.jfs_shared.specs.Entries.{Recorded}
use Rattle.jfs_shared.specs.declared.shared.SharedVolume.{SharedVolume}

module _ {D : Type 0} (d : Ghosts D) (n : Seen) (x : SharedVolume D) (y : SharedLog D d) (k : AreOf (standing d) (log_standing d) n x y) (runs : y.side.halted ≡ None) where
  r : IsRunning logs_of d.tells d.tells_crashes (start_of n.base).log.ring (data_of d y) n.log_list n.taken n.durable n.points n.stable
  r = k.log.runs runs

  -- what groups have taken is the log's list
  pub front : take n.taken n.list ≡ n.log_list
  front = ap (λ (m : ℕ). take m n.list) (sym r.taken_all ∙ r.durable_all) ∙ ap (λ (l : List Recorded). take (length n.log_list) l) (sym k.front.1) ∙ take-append_seam n.log_list k.front.0

  pub together : calls.AreTogether x.volume (calls.log_parts d y.side)
  together = record {
    ring = k.log.ring ∙ sym k.volume.text.ring_is;
    place = r.place ∙ sym (k.volume.text.place ∙ ap (λ (l : List Recorded). end_of logs_of (start_of n.base).log.ring l (syncs n.points)) front);
    durable = k.log.count ∙ r.taken_all ∙ sym k.volume.taken_is;
    running = runs;
  }
