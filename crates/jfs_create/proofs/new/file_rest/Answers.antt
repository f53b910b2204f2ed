use Rattle.std.proofs.Common.{refl}
use Rattle.jfs_create.proofs.Rests.{file_rest}
use Rattle.jfs_create.proofs.new.file_rest.Goals as goal

pub returns : goal.returns
returns c = file_rest c.new_root.new.root c.put_array.new.bytes _ c.put_array.ensures.fits refl c.put_array.ensures.bytes c.new_root.ensures.leaf
