use Rattle.jfs_format.specs.Layout.{is_taken_block}
use Rattle.jfs_format.proofs.Blocks.{leaf-value, level-zero}
use Rattle.jfs_format.proofs.block_map.fill_level_zero.Goals as goal

pub ctl_canonical-requires-clause-values : goal.ctl_canonical-requires-clause-values
ctl_canonical-requires-clause-values c v = leaf-value (is_taken_block c.args.l) c.args.l.dmaps c.args.leaves.now c.requires.leaves v

pub returns : goal.returns
returns c = level-zero _ c.args.l c.args.leaves.now c.ctl_canonical.new.page.0 c.requires.layout.1 c.requires.leaves c.ctl_canonical.ensures
