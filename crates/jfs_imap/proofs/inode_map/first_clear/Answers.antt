use Rattle.std.proofs.Common.{◌∙◌, sym}
use Rattle.std.specs.Prelude.{None}
use Rattle.std.proofs.lemmas.Bool.{true≢false}
use Rattle.jfs_iag.proofs.Maps.{clear-bit}
use Rattle.jfs_imap.proofs.Marks.{lowest-clear}
use Rattle.jfs_imap.proofs.inode_map.first_clear.Goals as goal

pub unreachable-requires : goal.unreachable-requires
unreachable-requires c = true≢false (sym c.requires ∙ clear-bit c.args.word None c.in-None.ensures)

pub returns-clause-free : goal.returns-clause-free
returns-clause-free c = (lowest-clear c.args.word c.in-Some.i c.in-Some.ensures).0

pub returns-clause-before : goal.returns-clause-before
returns-clause-before c = (lowest-clear c.args.word c.in-Some.i c.in-Some.ensures).1
