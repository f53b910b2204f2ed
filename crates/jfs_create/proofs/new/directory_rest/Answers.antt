use Rattle.std.proofs.Common.{refl}
use Rattle.jfs_create.proofs.Rests.{directory_rest}
use Rattle.jfs_create.proofs.new.directory_rest.Goals as goal

pub returns : goal.returns
returns c = directory_rest c.new_root.new.root c.put_array.new.bytes _ c.put_array.ensures.fits refl c.put_array.ensures.bytes c.args.parent c.new_root.ensures.node c.new_root.ensures.parent
