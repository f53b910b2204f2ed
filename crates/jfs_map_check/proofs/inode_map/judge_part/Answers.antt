use Rattle.std.proofs.Common.{◌∙◌}
use Rattle.jfs_map_check.proofs.Iags.{part_decided, part_free, count_most}
use Rattle.jfs_map_check.proofs.inode_map.judge_part.Goals as goal

pub returns-clause-canonical : goal.returns-clause-canonical
returns-clause-canonical c = part_decided c.args.used.now c.args.k c.args.page.now.0 c.judge_iag.result.canonical c.judge_iag.ensures.canonical

pub returns-clause-free : goal.returns-clause-free
returns-clause-free c = c.judge_iag.ensures.free ∙ part_free c.args.used.now c.args.k c.args.page.now.0

pub returns-clause-most : goal.returns-clause-most
returns-clause-most c = (count_most _ 128 _ c.judge_iag.ensures.extents, count_most _ 4096 _ c.judge_iag.ensures.free)
