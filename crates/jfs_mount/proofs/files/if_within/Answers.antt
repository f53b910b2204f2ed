use Rattle.std.proofs.Common.{sym, ap, ◌∙◌}
use Rattle.jfs_reader.specs.xtree.specs.Node.{all_within}
use Rattle.jfs_mount.proofs.Within.{lie}
use Rattle.jfs_mount.proofs.files.if_within.Goals as goal

pub returns-then-all_within-clause-within : goal.returns-then-all_within-clause-within
returns-then-all_within-clause-within c = lie c.args.blocks c.args.extents (sym (ap (all_within c.args.blocks) c.as_slice.ensures) ∙ sym c.if-all_within.ensures)
