-- What a volume and its log stand for behind a commit or a syncpoint, done or failed.
use Rattle.std.proofs.Common.{◌≡◌, ◌≤◌, ◌++◌, ◌∷◌, [], suc, length, refl, sym, ◌∙◌, arith, append-nil}
use Rattle.jfs_disk.specs.declared.disk.Disk.{Ghosts}
use Rattle.jfs_groups.specs.declared.log.SharedLog.{SharedLog}
use Rattle.jfs_shared.specs.Both.{Seen, AreOf, Committed, Lost, Pointed, PartlyPointed}
use Rattle.jfs_shared.specs.Shared.{standing, log_standing}
use Rattle.jfs_shared.specs.declared.shared.SharedVolume.{SharedVolume}
use Rattle.jfs_server.specs.Stopped.{StandsStill}

module _ {D : Type 0} (d : Ghosts D) where
  -- nothing was done
  pub stays : (x : SharedVolume D) (y : SharedLog D d) (n : Seen) → AreOf (standing d) (log_standing d) n x y → StandsStill d n x y
  stays x y n are within = (n, are, refl, refl, omega arith, within)

  pub committed : (x : SharedVolume D) (y : SharedLog D d) (n : Seen) → Committed (standing d) (log_standing d) n x y → StandsStill d n x y
  committed x y n c within = (
    record n { log_list = n.list; taken = length n.list; told = length n.list; durable = length n.list },
    record { volume = c.0; log = c.1; front = ([], append-nil n.list); told_within = omega arith },
    refl,
    refl,
    within,
    omega arith,
  )

  pub lost : (x : SharedVolume D) (y : SharedLog D d) (n : Seen) → n.told ≤ n.durable → Lost (standing d) (log_standing d) n x y → StandsStill d n x y
  lost x y n told l within = (
    record n { log_list = n.list; taken = length n.list; points = l.0 },
    record { volume = l.2; log = l.3; front = ([], append-nil n.list); told_within = told },
    refl,
    refl,
    omega arith,
    within,
  )

  pub pointed : (x : SharedVolume D) (y : SharedLog D d) (n : Seen) → Pointed (standing d) (log_standing d) n x y → StandsStill d n x y
  pointed x y n point within = (
    record { base = n.base; list = n.list; log_list = n.list; taken = length n.list; told = length n.list; durable = length n.list; points = n.points ++ length n.list ∷ []; known = suc (length n.points); stable = suc (length n.points) },
    record { volume = point.0; log = point.1; front = ([], append-nil n.list); told_within = omega arith },
    refl,
    refl,
    within,
    omega arith,
  )

  pub partly : (x : SharedVolume D) (y : SharedLog D d) (n : Seen) → PartlyPointed (standing d) (log_standing d) n x y → StandsStill d n x y
  partly x y n point within = (
    record { base = n.base; list = n.list; log_list = n.list; taken = length n.list; told = point.told_now; durable = point.durable_now; points = point.points_now; known = n.known; stable = n.stable },
    record { volume = point.volume; log = point.log; front = ([], append-nil n.list); told_within = point.told_within },
    refl,
    refl,
    point.durable_grows,
    point.durable_within,
  )

  -- all entries are durable
  pub all_committed : (x : SharedVolume D) (y : SharedLog D d) (n : Seen) → Committed (standing d) (log_standing d) n x y → y.side.durable ≡ x.volume.appended
  all_committed x y n c = c.1.count ∙ sym c.0.appended

  pub all_pointed : (x : SharedVolume D) (y : SharedLog D d) (n : Seen) → Pointed (standing d) (log_standing d) n x y → y.side.durable ≡ x.volume.appended
  all_pointed x y n c = c.1.count ∙ sym c.0.appended
