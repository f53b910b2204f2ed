use Rattle.jfs_refill.proofs.Listed.{put_step}
use Rattle.jfs_refill.proofs.refilling.put_entries.Goals as goal

pub loop-x-preserved : goal.loop-x-preserved
loop-x-preserved c = put_step c.args.bytes.now c.loop-x.bytes c.put_xad.new.bytes c.loop-x.x-index c.loop-x.at _ c.args.list.now c.loop-x-test.true c.requires.within c.loop-x.invariant c.put_xad.ensures.bytes c.put_xad.ensures.read_back
