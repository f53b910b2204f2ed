use Rattle.std.proofs.Common.{arith}
use Rattle.jfs_dmapctl.proofs.Values.{value-read}
use Rattle.jfs_map_rows.proofs.control.set_one.Goals as goal

pub ctl_set-requires-clause-canonical : goal.ctl_set-requires-clause-canonical
ctl_set-requires-clause-canonical c = (0, c.requires.canonical)

pub returns : goal.returns
returns c = (_, c.ctl_set.ensures 0 c.requires.canonical.0 c.requires.canonical.1 (rw (value-read 0 c.args.value (omega arith) c.requires.value) c.requires.value))
