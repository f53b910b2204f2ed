use Rattle.std.proofs.Common.{refl}
use Rattle.jfs_create.proofs.Rests.{target_at}
use Rattle.jfs_create.proofs.new.link_rest.Goals as goal

pub returns : goal.returns
returns c = target_at c.args.target.now c.put_target.new.rest _ c.requires refl c.put_target.ensures
