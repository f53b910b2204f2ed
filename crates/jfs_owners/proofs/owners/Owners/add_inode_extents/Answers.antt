use Rattle.jfs_owners.proofs.Places.{one_more, none_left}
use Rattle.jfs_owners.proofs.owners.Owners.add_inode_extents.Goals as goal

pub loop-place-init : goal.loop-place-init
loop-place-init c = λ new a. a

pub loop-place-preserved : goal.loop-place-preserved
loop-place-preserved c = λ new a. c.loop-place.invariant new
    (one_more c.args.places.now c.loop-place.place-index _ c.loop-place.self c.add_extent.new.self new c.loop-place-test.true c.add_extent.ensures a)

pub returns : goal.returns
returns c = c.loop-place.invariant c.loop-place.self (none_left c.args.places.now c.loop-place.place-index c.loop-place.self c.loop-place-test.false)
