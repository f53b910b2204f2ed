use Rattle.jfs_bits.proofs.Fields.{range_between}
use Rattle.jfs_readlink.proofs.link.short_target.Goals as goal

pub returns : goal.returns
returns c = rw (c.in_ok-extend_from_slice.ensures.ok, c.new-target.ensures) (range_between c.args.rest.now 128 c.args.size)
