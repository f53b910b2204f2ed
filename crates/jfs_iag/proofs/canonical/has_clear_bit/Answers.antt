use Rattle.std.proofs.Common.{◌∙◌, sym}
use Rattle.jfs_iag.proofs.Maps.{clear-bit}
use Rattle.jfs_iag.proofs.canonical.has_clear_bit.Goals as goal

pub returns : goal.returns
returns c = c.is_some.ensures ∙ sym (clear-bit c.args.word c.lowest_run.result c.lowest_run.ensures)
