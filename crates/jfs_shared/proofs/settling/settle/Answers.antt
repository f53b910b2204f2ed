use Rattle.std.proofs.Common.{refl, Err}
use Rattle.jfs_volume_calls.proofs.Kept.{Stands, homed, mapped, group_settles, group_pages, as_kept, kept_home, maps_stand, same_home, stand_on}
use Rattle.jfs_shared.proofs.Homed.{homes, maps, onward, home_of}
use Rattle.jfs_shared.proofs.Settled as settled
use Rattle.jfs_shared.proofs.settling.settle.Goals as goal

-- ---- the parts

pub returns-in-Err-clause-parts : goal.returns-in-Err-clause-parts
returns-in-Err-clause-parts g c = homes c.args.volume.now c.home_all.new.self c.home_all.ensures.alone.parts

pub returns-in-Err-home_maps-clause-parts : goal.returns-in-Err-home_maps-clause-parts
returns-in-Err-home_maps-clause-parts g c = onward c.args.volume.now c.home_all.new.self c.home_maps.new.self (homes c.args.volume.now c.home_all.new.self c.home_all.ensures.alone.parts) (maps c.home_all.new.self c.home_maps.new.self c.home_maps.ensures.memory)

pub returns-clause-parts : goal.returns-clause-parts
returns-clause-parts g c = onward c.args.volume.now c.home_maps.new.self c.sync_low.new.self
    (onward c.args.volume.now c.home_all.new.self c.home_maps.new.self (homes c.args.volume.now c.home_all.new.self c.home_all.ensures.alone.parts) (maps c.home_all.new.self c.home_maps.new.self c.home_maps.ensures.memory))
    (homes c.home_maps.new.self c.sync_low.new.self c.sync_low.ensures.alone.parts)

-- ---- what stays

pub returns-in-Err-clause-settles : goal.returns-in-Err-clause-settles
returns-in-Err-clause-settles g c = homed g.D.Disk.tells c.args.volume.now c.args.volume.now c.home_all.new.self (group_settles c.args.volume.now c.args.volume.now refl) c.home_all.ensures.alone

pub returns-in-Err-home_maps-clause-settles : goal.returns-in-Err-home_maps-clause-settles
returns-in-Err-home_maps-clause-settles g c = mapped c.args.volume.now c.home_all.new.self c.home_maps.new.self
    (homed g.D.Disk.tells c.args.volume.now c.args.volume.now c.home_all.new.self (group_settles c.args.volume.now c.args.volume.now refl) c.home_all.ensures.alone) c.home_maps.ensures.memory

pub returns-clause-settles : goal.returns-clause-settles
returns-clause-settles g c = homed g.D.Disk.tells c.args.volume.now c.home_maps.new.self c.sync_low.new.self
    (mapped c.args.volume.now c.home_all.new.self c.home_maps.new.self (homed g.D.Disk.tells c.args.volume.now c.args.volume.now c.home_all.new.self (group_settles c.args.volume.now c.args.volume.now refl) c.home_all.ensures.alone) c.home_maps.ensures.memory)
    c.sync_low.ensures.alone

pub returns-in-Err-clause-shown : goal.returns-in-Err-clause-shown
returns-in-Err-clause-shown g c = Stands.shown (as_kept g.D.Disk.tells c.args.volume.now c.home_all.new.self (kept_home g.D.Disk.tells c.args.volume.now c.args.volume.now c.home_all.new.self (group_pages g.D.Disk.tells c.args.volume.now c.args.volume.now refl) c.home_all.ensures.alone))

pub returns-in-Err-clause-leaves : goal.returns-in-Err-clause-leaves
returns-in-Err-clause-leaves g c = Stands.leaves (as_kept g.D.Disk.tells c.args.volume.now c.home_all.new.self (kept_home g.D.Disk.tells c.args.volume.now c.args.volume.now c.home_all.new.self (group_pages g.D.Disk.tells c.args.volume.now c.args.volume.now refl) c.home_all.ensures.alone))

pub returns-in-Err-home_maps-clause-shown : goal.returns-in-Err-home_maps-clause-shown
returns-in-Err-home_maps-clause-shown g c = Stands.shown (maps_stand g.D.Disk.tells c.args.volume.now c.home_all.new.self c.home_maps.new.self (kept_home g.D.Disk.tells c.args.volume.now c.args.volume.now c.home_all.new.self (group_pages g.D.Disk.tells c.args.volume.now c.args.volume.now refl) c.home_all.ensures.alone) c.home_maps.ensures.places c.home_maps.ensures.shows)

pub returns-in-Err-home_maps-clause-leaves : goal.returns-in-Err-home_maps-clause-leaves
returns-in-Err-home_maps-clause-leaves g c = Stands.leaves (maps_stand g.D.Disk.tells c.args.volume.now c.home_all.new.self c.home_maps.new.self (kept_home g.D.Disk.tells c.args.volume.now c.args.volume.now c.home_all.new.self (group_pages g.D.Disk.tells c.args.volume.now c.args.volume.now refl) c.home_all.ensures.alone) c.home_maps.ensures.places c.home_maps.ensures.shows)

pub returns-clause-shown : goal.returns-clause-shown
returns-clause-shown g c = Stands.shown (stand_on g.D.Disk.tells c.args.volume.now c.home_maps.new.self c.sync_low.new.self (maps_stand g.D.Disk.tells c.args.volume.now c.home_all.new.self c.home_maps.new.self (kept_home g.D.Disk.tells c.args.volume.now c.args.volume.now c.home_all.new.self (group_pages g.D.Disk.tells c.args.volume.now c.args.volume.now refl) c.home_all.ensures.alone) c.home_maps.ensures.places c.home_maps.ensures.shows) (same_home g.D.Disk.tells c.home_maps.new.self c.sync_low.new.self c.sync_low.ensures.alone))

pub returns-clause-leaves : goal.returns-clause-leaves
returns-clause-leaves g c = Stands.leaves (stand_on g.D.Disk.tells c.args.volume.now c.home_maps.new.self c.sync_low.new.self (maps_stand g.D.Disk.tells c.args.volume.now c.home_all.new.self c.home_maps.new.self (kept_home g.D.Disk.tells c.args.volume.now c.args.volume.now c.home_all.new.self (group_pages g.D.Disk.tells c.args.volume.now c.args.volume.now refl) c.home_all.ensures.alone) c.home_maps.ensures.places c.home_maps.ensures.shows) (same_home g.D.Disk.tells c.home_maps.new.self c.sync_low.new.self c.sync_low.ensures.alone))

-- ---- what keeps it

pub returns-in-Err-clause-history : goal.returns-in-Err-clause-history
returns-in-Err-clause-history g c = settled.homes g.D.Disk.tells g.D.Disk.tells_crashes c.args.volume.now c.home_all.new.self (Err c.in-Err.fault) c.requires.told c.in-Err.ensures.home c.home_all.ensures.alone c.in-Err.ensures.halts

pub returns-in-Err-home_maps-clause-history : goal.returns-in-Err-home_maps-clause-history
returns-in-Err-home_maps-clause-history g c =
    settled.maps g.D.Disk.tells g.D.Disk.tells_crashes c.args.volume.now c.home_all.new.self c.requires.told c.requires.running c.in-Ok.ensures.home c.home_all.ensures.alone c.in-Ok.ensures.halts
    c.home_maps.new.self (Err c.in-Err-home_maps.fault) c.in-Err-home_maps.ensures.home c.home_maps.ensures.memory c.home_maps.ensures.places tt c.in-Err-home_maps.ensures.halts

pub returns-clause-history : goal.returns-clause-history
returns-clause-history g c =
    settled.synced g.D.Disk.tells g.D.Disk.tells_crashes c.args.volume.now c.home_all.new.self c.requires.told c.requires.running c.in-Ok.ensures.home c.home_all.ensures.alone c.in-Ok.ensures.halts c.in-Ok.ensures.clean
    c.home_maps.new.self c.in-Ok-home_maps.ensures.home c.home_maps.ensures.memory c.home_maps.ensures.places c.in-Ok-home_maps.ensures.written c.in-Ok-home_maps.ensures.halts
    c.sync_low.new.self c.sync_low.ensures.alone c.sync_low.result c.sync_low.ensures.sync c.sync_low.ensures.halts

pub returns-clause-settled : goal.returns-clause-settled
returns-clause-settled g c =
    settled.settles g.D.Disk.tells g.D.Disk.tells_crashes c.args.volume.now c.home_all.new.self c.requires.told c.requires.running c.in-Ok.ensures.home c.home_all.ensures.alone c.in-Ok.ensures.halts c.in-Ok.ensures.clean
    c.home_maps.new.self c.in-Ok-home_maps.ensures.home c.home_maps.ensures.memory c.home_maps.ensures.places c.in-Ok-home_maps.ensures.written c.in-Ok-home_maps.ensures.halts
    c.sync_low.new.self c.sync_low.ensures.alone c.sync_low.result c.sync_low.ensures.sync c.sync_low.ensures.halts

-- ---- all is home

pub returns-clause-home : goal.returns-clause-home
returns-clause-home g c = home_of c.home_all.new.self c.home_maps.new.self c.sync_low.new.self c.in-Ok.ensures.clean c.home_maps.ensures.memory c.in-Ok-home_maps.ensures.written c.sync_low.ensures.kept c.sync_low.ensures.alone.parts c.sync_low.result
