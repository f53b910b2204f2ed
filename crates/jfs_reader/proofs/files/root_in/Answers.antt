use Rattle.jfs_bits.proofs.Parts.{part-is}
use Rattle.jfs_reader.proofs.files.root_in.Goals as goal

pub returns-clause-root : goal.returns-clause-root
returns-clause-root c = part-is c.args.d.now.rest 96 288
