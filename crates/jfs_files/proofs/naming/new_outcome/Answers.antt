use Rattle.std.proofs.Common.{refl, subst, Err}
use Rattle.jfs_disk.specs.Image.{page_of}
use Rattle.jfs_chmod.specs.steps.specs.Place.{last_of}
use Rattle.jfs_create.specs.Makes.{plain_of}
use Rattle.jfs_create.specs.Reserved.{IsStopped, StepsInRoom}
use Rattle.jfs_create.specs.declared.reserve.Stop.{Stop}
use Rattle.jfs_files.proofs.Paths.{short_names}
use Rattle.jfs_files.proofs.Links.{maps_after}
use Rattle.jfs_files.proofs.NewObjects.{busy_between}
use Rattle.jfs_files.proofs.Data.{makes_free_none}
use Rattle.jfs_files.proofs.naming.new_outcome.Goals as goal

pub make_object-requires-clause-names : goal.make_object-requires-clause-names
make_object-requires-clause-names g c = rw c.as_slice.ensures (short_names c.args.path.now c.requires.path)

pub returns-in-Ok-clause-maps : goal.returns-in-Ok-clause-maps
returns-in-Ok-clause-maps g c tells = rw c.changed.ensures (maps_after c.args.maps.now _ c.make_object.new.blocks c.in-Ok.tx (c.in-Ok.ensures.made tells).made.reserves refl)

pub returns-in-Ok-clause-frees : goal.returns-in-Ok-clause-frees
returns-in-Ok-clause-frees g c tells =
    let made = (c.in-Ok.ensures.made tells).made in
    rw c.changed.ensures (makes_free_none (g.V.PageView.block_count c.args.view.now) (page_of (g.V.PageView.image c.args.view.now)) (c.in-Ok.ensures.made tells).seen.dir (last_of c.as_slice.result.now) made.plan made.free made.left c.in-Ok.tx made.makes)

pub returns-in-Ok-clause-follows : goal.returns-in-Ok-clause-follows
returns-in-Ok-clause-follows g c tells between area con log_pages limit = rw c.changed.ensures (rw c.as_slice.ensures at (c.in-Ok.ensures.steps tells c.requires.size between.rest between.within area con log_pages))

pub returns-in-Ok-clause-meets : goal.returns-in-Ok-clause-meets
returns-in-Ok-clause-meets g c tells = rw c.changed.ensures ((c.make_object.new.blocks, rw c.as_slice.ensures at (c.in-Ok.ensures.made tells)), refl)

pub returns-in-Err-NeedsLog-clause-follows : goal.returns-in-Err-NeedsLog-clause-follows
returns-in-Err-NeedsLog-clause-follows g c tells between area con log_pages limit =
    let stopped = subst (λ (x : Stop). IsStopped (g.V.PageView.block_count c.args.view.now) (page_of (g.V.PageView.image c.args.view.now)) c.args.maps.now.inodes c.as_slice.result.now c.args.object c.args.now c.args.maps.now.blocks x) c.in-Err-NeedsLog.field-0-is (c.in-Err-NeedsLog.ensures.stopped tells) in
    busy_between (g.V.PageView.block_count c.args.view.now) (page_of (g.V.PageView.image c.args.view.now)) c.args.maps.now c.as_slice.result.now c.args.object c.args.now stopped between.rest.none

pub returns-in-Err-Refused-clause-follows : goal.returns-in-Err-Refused-clause-follows
returns-in-Err-Refused-clause-follows g c tells between area con log_pages limit =
    let steps = subst (λ (x : Stop). StepsInRoom (g.V.PageView.block_count c.args.view.now) (page_of (g.V.PageView.image c.args.view.now)) c.args.maps.now.blocks c.args.maps.now.inodes (λ room t. plain_of c.args.object room t c.as_slice.result.now c.args.now) (Err x)) c.in-Err-Refused.field-0-is (c.in-Err-Refused.ensures.steps tells) in
    rw (c.refused.ensures, c.in-Err-Refused.field-0-is) (rw c.as_slice.ensures at (steps c.requires.size between.rest between.within area con log_pages))

pub returns-in-Err-Refused-clause-meets : goal.returns-in-Err-Refused-clause-meets
returns-in-Err-Refused-clause-meets g c tells =
    let stopped = subst (λ (x : Stop). IsStopped (g.V.PageView.block_count c.args.view.now) (page_of (g.V.PageView.image c.args.view.now)) c.args.maps.now.inodes c.as_slice.result.now c.args.object c.args.now c.args.maps.now.blocks x) c.in-Err-Refused.field-0-is (c.in-Err-Refused.ensures.stopped tells) in
    rw (c.refused.ensures, c.in-Err-Refused.field-0-is) (rw c.as_slice.ensures at stopped)
