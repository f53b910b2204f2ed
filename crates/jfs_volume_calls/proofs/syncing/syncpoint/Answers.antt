use Rattle.std.proofs.Common.{List, [], ◌∷◌, ◌++◌, length, sym, ap, ◌∙◌, subst, append_assoc}
use Rattle.jfs_volume.specs.halves.specs.Change.{Change, Stops, Syncs, after as after_volume}
use Rattle.jfs_volume.specs.halves.specs.Both.{after}
use Rattle.jfs_volume.specs.halves.proofs.Joined.{join}
use Rattle.jfs_volume.specs.halves.specs.Moves.{Moves}
use Rattle.jfs_volume.specs.halves.specs.Parts.{Parts}
use Rattle.jfs_volume.specs.pages.specs.Dirty.{dirty_of}
use Rattle.jfs_volume.specs.Settle.{go_home}
use Rattle.jfs_volume.specs.Written.{writes}
use Rattle.jfs_volume_calls.specs.Together.{log_parts}
use Rattle.jfs_volume_calls.specs.Commit.{committing}
use Rattle.jfs_volume_calls.specs.Syncpoint.{homing, settling, group_fails}
use Rattle.jfs_volume_calls.proofs.Chained.{low_stops, maps_stop, sync_stops, settled_closes, settled_may, syncpoint_ends}
use Rattle.jfs_volume_calls.proofs.Kept.{Stands, anyhow, homed, mapped, pointed, as_kept, kept_home, maps_stand, same_home, same_point, stand_on, written_files}
use Rattle.jfs_volume_calls.proofs.Maps.{all_pages, first_pages, map_written, inodes_written, map_synced, inodes_synced, map_pointed, inodes_pointed}
use Rattle.jfs_volume_calls.proofs.syncing.syncpoint.Goals as goal

pub returns-in-Err-clause-syncpoint : goal.returns-in-Err-clause-syncpoint
returns-in-Err-clause-syncpoint g c seen asked told crashes both s t none = (_, group_fails, c.in-Err.ensures.commit seen asked told crashes both s t none)

pub returns-in-Err-home_all-clause-syncpoint : goal.returns-in-Err-home_all-clause-syncpoint
returns-in-Err-home_all-clause-syncpoint g c seen asked told crashes both s t none =
    let committed = c.in-Ok.ensures.commit seen asked told crashes both s t none in
    let front = committing committed.written (length both.volume.history) committed.pages in
    let stopped = c.in-Err-home_all.ensures.home seen asked told crashes (after both front).volume committed.closes.moves.stands in
    low_stops seen asked c.args.volume.now c.commit.new.volume c.home_all.new.self (log_parts g.D.Disk c.commit.new.log) both c.in-Err-home_all.fault stopped.pages stopped.last stopped.is committed stopped.moves

pub returns-in-Err-home_maps-clause-syncpoint : goal.returns-in-Err-home_maps-clause-syncpoint
returns-in-Err-home_maps-clause-syncpoint g c seen asked told crashes both s t none =
    let committed = c.in-Ok.ensures.commit seen asked told crashes both s t none in
    let front = committing committed.written (length both.volume.history) committed.pages in
    let homes = c.in-Ok-home_all.ensures.home seen asked told crashes (after both front).volume committed.closes.moves.stands in
    let stopped = c.in-Err-home_maps.ensures.home seen asked told crashes (after_volume (after both front).volume (go_home homes.0)) homes.1.stands in
    let home = c.home_all.new.self in
    let new = c.home_maps.new.self in
    let kept = kept_home g.D.Disk.tells c.args.volume.now c.commit.new.volume home c.commit.ensures.files c.home_all.ensures.alone in
    let settles = homed g.D.Disk.tells c.args.volume.now c.commit.new.volume home c.commit.ensures.settles c.home_all.ensures.alone in
    let are = first_pages g.D.Disk.tells c.args.volume.now home settles kept new (map_written home new c.home_maps.ensures.memory) (inodes_written home new c.home_maps.ensures.memory) (stopped.front ++ stopped.next ∷ []) stopped.are in
    maps_stop seen asked c.args.volume.now c.commit.new.volume new (log_parts g.D.Disk c.commit.new.log) both c.in-Err-home_maps.fault homes.0 stopped.front stopped.next stopped.stops.last stopped.stops.is are committed
    (subst (λ (list : List Change). Moves seen asked c.commit.new.volume new (after both front).volume list) (sym (append_assoc (go_home homes.0) (writes stopped.front) (stopped.stops.last ∷ [])))
    (join seen asked c.commit.new.volume home new (after both front).volume (go_home homes.0) (writes stopped.front ++ stopped.stops.last ∷ []) homes.1 stopped.stops.moves))

pub returns-in-Err-sync_low-clause-syncpoint : goal.returns-in-Err-sync_low-clause-syncpoint
returns-in-Err-sync_low-clause-syncpoint g c seen asked told crashes both s t none =
    let committed = c.in-Ok.ensures.commit seen asked told crashes both s t none in
    let front = committing committed.written (length both.volume.history) committed.pages in
    let homes = c.in-Ok-home_all.ensures.home seen asked told crashes (after both front).volume committed.closes.moves.stands in
    let maps = c.in-Ok-home_maps.ensures.home seen asked told crashes (after_volume (after both front).volume (go_home homes.0)) homes.1.stands in
    let home = join seen asked c.commit.new.volume c.home_all.new.self c.home_maps.new.self (after both front).volume (go_home homes.0) (writes maps.pages) homes.1 maps.moves in
    let fault = c.in-Err-sync_low.fault in
    let m = c.in-Err-sync_low.ensures.sync seen asked told crashes (after_volume (after both front).volume (homing homes.0 maps.pages)) home.stands in
    let kept = kept_home g.D.Disk.tells c.args.volume.now c.commit.new.volume c.home_all.new.self c.commit.ensures.files c.home_all.ensures.alone in
    let settles = homed g.D.Disk.tells c.args.volume.now c.commit.new.volume c.home_all.new.self c.commit.ensures.settles c.home_all.ensures.alone in
    let are = all_pages g.D.Disk.tells c.args.volume.now c.home_all.new.self settles kept c.sync_low.new.self (map_synced g.D.Disk.tells c.home_all.new.self c.home_maps.new.self c.sync_low.new.self c.home_maps.ensures.memory c.sync_low.ensures.alone)
    (inodes_synced g.D.Disk.tells c.home_all.new.self c.home_maps.new.self c.sync_low.new.self c.home_maps.ensures.memory c.sync_low.ensures.alone) maps.pages maps.are in
    sync_stops seen asked c.args.volume.now c.commit.new.volume c.sync_low.new.self (log_parts g.D.Disk c.commit.new.log) both fault homes.0 maps.pages are committed
    (join seen asked c.commit.new.volume c.home_maps.new.self c.sync_low.new.self (after both front).volume (homing homes.0 maps.pages) (Stops fault ∷ []) home m)

pub returns-clause-syncpoint : goal.returns-clause-syncpoint
returns-clause-syncpoint g c seen asked told crashes both s t none =
    let committed = c.in-Ok.ensures.commit seen asked told crashes both s t none in
    let front = committing committed.written (length both.volume.history) committed.pages in
    let mid = c.commit.new.volume in
    let low = c.sync_low.new.self in
    let l = log_parts g.D.Disk c.commit.new.log in
    let homes = c.in-Ok-home_all.ensures.home seen asked told crashes (after both front).volume committed.closes.moves.stands in
    let maps = c.in-Ok-home_maps.ensures.home seen asked told crashes (after_volume (after both front).volume (go_home homes.0)) homes.1.stands in
    let home = join seen asked mid c.home_all.new.self c.home_maps.new.self (after both front).volume (go_home homes.0) (writes maps.pages) homes.1 maps.moves in
    let m = c.in-Ok-sync_low.ensures.sync seen asked told crashes (after_volume (after both front).volume (homing homes.0 maps.pages)) home.stands in
    let two = join seen asked mid c.home_maps.new.self low (after both front).volume (homing homes.0 maps.pages) (Syncs ∷ []) home m in
    let settled = settled_closes seen asked mid low l (after both front) homes.0 maps.pages committed.closes.moves.log_stands committed.closes.closed two in
    let memory = c.home_maps.ensures.memory in
    let may = settled_may seen asked low (after both front) homes.0 maps.pages settled.moves.stands
    (c.sync_low.ensures.counts.told ∙ ap (λ (p : Parts). p.told) memory ∙ c.home_all.ensures.counts.told ∙ c.in-Ok.ensures.told.0
    ∙ sym (c.sync_low.ensures.counts.appended ∙ ap (λ (p : Parts). p.appended) memory ∙ c.home_all.ensures.counts.appended))
    (λ q. rw c.sync_low.ensures.kept (ap (λ (p : Parts). dirty_of p.dirty q) memory ∙ c.in-Ok-home_all.ensures.clean q)) in
    let home_parts = c.home_all.new.self in
    let kept = kept_home g.D.Disk.tells c.args.volume.now mid home_parts c.commit.ensures.files c.home_all.ensures.alone in
    let settles = homed g.D.Disk.tells c.args.volume.now mid home_parts c.commit.ensures.settles c.home_all.ensures.alone in
    let are = all_pages g.D.Disk.tells c.args.volume.now home_parts settles kept c.write_point.new.volume (map_pointed g.D.Disk.tells home_parts c.home_maps.new.self low c.write_point.new.volume memory c.sync_low.ensures.alone c.write_point.ensures.parts)
    (inodes_pointed g.D.Disk.tells home_parts c.home_maps.new.self low c.write_point.new.volume memory c.sync_low.ensures.alone c.write_point.ensures.parts) maps.pages maps.are in
    syncpoint_ends seen asked c.args.volume.now mid low c.write_point.new.volume l (log_parts g.D.Disk c.write_point.new.log) both homes.0 maps.pages committed settled c.write_point.result
    (c.write_point.ensures.point seen asked told crashes (after (after both front) (settling homes.0 maps.pages)) settled.moves.stands settled.moves.log_stands settled.closed may) are

pub returns-in-Err-home_all-clause-settles : goal.returns-in-Err-home_all-clause-settles
returns-in-Err-home_all-clause-settles g c = homed g.D.Disk.tells c.args.volume.now c.commit.new.volume c.home_all.new.self c.commit.ensures.settles c.home_all.ensures.alone

pub returns-in-Err-home_maps-clause-settles : goal.returns-in-Err-home_maps-clause-settles
returns-in-Err-home_maps-clause-settles g c = mapped c.args.volume.now c.home_all.new.self c.home_maps.new.self
    (homed g.D.Disk.tells c.args.volume.now c.commit.new.volume c.home_all.new.self c.commit.ensures.settles c.home_all.ensures.alone) c.home_maps.ensures.memory

pub returns-in-Err-sync_low-clause-settles : goal.returns-in-Err-sync_low-clause-settles
returns-in-Err-sync_low-clause-settles g c = homed g.D.Disk.tells c.args.volume.now c.home_maps.new.self c.sync_low.new.self
    (mapped c.args.volume.now c.home_all.new.self c.home_maps.new.self (homed g.D.Disk.tells c.args.volume.now c.commit.new.volume c.home_all.new.self c.commit.ensures.settles c.home_all.ensures.alone) c.home_maps.ensures.memory)
    c.sync_low.ensures.alone

pub returns-clause-settles : goal.returns-clause-settles
returns-clause-settles g c = pointed c.args.volume.now c.sync_low.new.self c.write_point.new.volume
    (homed g.D.Disk.tells c.args.volume.now c.home_maps.new.self c.sync_low.new.self
    (mapped c.args.volume.now c.home_all.new.self c.home_maps.new.self (homed g.D.Disk.tells c.args.volume.now c.commit.new.volume c.home_all.new.self c.commit.ensures.settles c.home_all.ensures.alone) c.home_maps.ensures.memory)
    c.sync_low.ensures.alone) c.write_point.ensures.parts

pub returns-in-Err-clause-shown : goal.returns-in-Err-clause-shown
returns-in-Err-clause-shown g c = Stands.shown (as_kept g.D.Disk.tells c.args.volume.now c.commit.new.volume c.commit.ensures.files)

pub returns-in-Err-clause-leaves : goal.returns-in-Err-clause-leaves
returns-in-Err-clause-leaves g c = Stands.leaves (as_kept g.D.Disk.tells c.args.volume.now c.commit.new.volume c.commit.ensures.files)

pub returns-in-Err-home_all-clause-shown : goal.returns-in-Err-home_all-clause-shown
returns-in-Err-home_all-clause-shown g c = Stands.shown (as_kept g.D.Disk.tells c.args.volume.now c.home_all.new.self (kept_home g.D.Disk.tells c.args.volume.now c.commit.new.volume c.home_all.new.self c.commit.ensures.files c.home_all.ensures.alone))

pub returns-in-Err-home_all-clause-leaves : goal.returns-in-Err-home_all-clause-leaves
returns-in-Err-home_all-clause-leaves g c = Stands.leaves (as_kept g.D.Disk.tells c.args.volume.now c.home_all.new.self (kept_home g.D.Disk.tells c.args.volume.now c.commit.new.volume c.home_all.new.self c.commit.ensures.files c.home_all.ensures.alone))

pub returns-in-Err-home_maps-clause-shown : goal.returns-in-Err-home_maps-clause-shown
returns-in-Err-home_maps-clause-shown g c = Stands.shown (maps_stand g.D.Disk.tells c.args.volume.now c.home_all.new.self c.home_maps.new.self (kept_home g.D.Disk.tells c.args.volume.now c.commit.new.volume c.home_all.new.self c.commit.ensures.files c.home_all.ensures.alone) c.home_maps.ensures.places c.home_maps.ensures.shows)

pub returns-in-Err-home_maps-clause-leaves : goal.returns-in-Err-home_maps-clause-leaves
returns-in-Err-home_maps-clause-leaves g c = Stands.leaves (maps_stand g.D.Disk.tells c.args.volume.now c.home_all.new.self c.home_maps.new.self (kept_home g.D.Disk.tells c.args.volume.now c.commit.new.volume c.home_all.new.self c.commit.ensures.files c.home_all.ensures.alone) c.home_maps.ensures.places c.home_maps.ensures.shows)

pub returns-in-Err-sync_low-clause-shown : goal.returns-in-Err-sync_low-clause-shown
returns-in-Err-sync_low-clause-shown g c = Stands.shown (stand_on g.D.Disk.tells c.args.volume.now c.home_maps.new.self c.sync_low.new.self (maps_stand g.D.Disk.tells c.args.volume.now c.home_all.new.self c.home_maps.new.self (kept_home g.D.Disk.tells c.args.volume.now c.commit.new.volume c.home_all.new.self c.commit.ensures.files c.home_all.ensures.alone) c.home_maps.ensures.places c.home_maps.ensures.shows) (same_home g.D.Disk.tells c.home_maps.new.self c.sync_low.new.self c.sync_low.ensures.alone))

pub returns-in-Err-sync_low-clause-leaves : goal.returns-in-Err-sync_low-clause-leaves
returns-in-Err-sync_low-clause-leaves g c = Stands.leaves (stand_on g.D.Disk.tells c.args.volume.now c.home_maps.new.self c.sync_low.new.self (maps_stand g.D.Disk.tells c.args.volume.now c.home_all.new.self c.home_maps.new.self (kept_home g.D.Disk.tells c.args.volume.now c.commit.new.volume c.home_all.new.self c.commit.ensures.files c.home_all.ensures.alone) c.home_maps.ensures.places c.home_maps.ensures.shows) (same_home g.D.Disk.tells c.home_maps.new.self c.sync_low.new.self c.sync_low.ensures.alone))

pub returns-clause-shown : goal.returns-clause-shown
returns-clause-shown g c = Stands.shown (stand_on g.D.Disk.tells c.args.volume.now c.sync_low.new.self c.write_point.new.volume (stand_on g.D.Disk.tells c.args.volume.now c.home_maps.new.self c.sync_low.new.self (maps_stand g.D.Disk.tells c.args.volume.now c.home_all.new.self c.home_maps.new.self (kept_home g.D.Disk.tells c.args.volume.now c.commit.new.volume c.home_all.new.self c.commit.ensures.files c.home_all.ensures.alone) c.home_maps.ensures.places c.home_maps.ensures.shows) (same_home g.D.Disk.tells c.home_maps.new.self c.sync_low.new.self c.sync_low.ensures.alone)) (same_point g.D.Disk.tells c.sync_low.new.self c.write_point.new.volume c.write_point.ensures.parts))

pub returns-clause-leaves : goal.returns-clause-leaves
returns-clause-leaves g c = Stands.leaves (stand_on g.D.Disk.tells c.args.volume.now c.sync_low.new.self c.write_point.new.volume (stand_on g.D.Disk.tells c.args.volume.now c.home_maps.new.self c.sync_low.new.self (maps_stand g.D.Disk.tells c.args.volume.now c.home_all.new.self c.home_maps.new.self (kept_home g.D.Disk.tells c.args.volume.now c.commit.new.volume c.home_all.new.self c.commit.ensures.files c.home_all.ensures.alone) c.home_maps.ensures.places c.home_maps.ensures.shows) (same_home g.D.Disk.tells c.home_maps.new.self c.sync_low.new.self c.sync_low.ensures.alone)) (same_point g.D.Disk.tells c.sync_low.new.self c.write_point.new.volume c.write_point.ensures.parts))

pub returns-clause-maps : goal.returns-clause-maps
returns-clause-maps g c = anyhow c.write_point.result (λ t. record {
  files = written_files g.D.Disk.tells c.args.volume.now c.home_all.new.self c.home_maps.new.self c.sync_low.new.self c.write_point.new.volume
      (kept_home g.D.Disk.tells c.args.volume.now c.commit.new.volume c.home_all.new.self c.commit.ensures.files c.home_all.ensures.alone) c.in-Ok-home_maps.ensures.written (same_home g.D.Disk.tells c.home_maps.new.self c.sync_low.new.self c.sync_low.ensures.alone)
      (same_point g.D.Disk.tells c.sync_low.new.self c.write_point.new.volume c.write_point.ensures.parts);
  leaves = Stands.leaves (stand_on g.D.Disk.tells c.args.volume.now c.sync_low.new.self c.write_point.new.volume (stand_on g.D.Disk.tells c.args.volume.now c.home_maps.new.self c.sync_low.new.self (maps_stand g.D.Disk.tells c.args.volume.now c.home_all.new.self c.home_maps.new.self (kept_home g.D.Disk.tells c.args.volume.now c.commit.new.volume c.home_all.new.self c.commit.ensures.files c.home_all.ensures.alone) c.home_maps.ensures.places c.home_maps.ensures.shows) (same_home g.D.Disk.tells c.home_maps.new.self c.sync_low.new.self c.sync_low.ensures.alone)) (same_point g.D.Disk.tells c.sync_low.new.self c.write_point.new.volume c.write_point.ensures.parts)) t;
})
