use Rattle.jfs_logfmt.proofs.Cut.{reads_it, keeps_all}
use Rattle.jfs_logfmt.proofs.reading.read_record_before.Goals as goal

pub returns-clause-whole : goal.returns-clause-whole
returns-clause-whole c = reads_it c.args.blocks c.args.bytes.now c.read_at_end.result c.read_at_end.ensures.start c.read_at_end.ensures.found c.read_at_end.ensures.broken

pub returns-clause-kept : goal.returns-clause-kept
returns-clause-kept c = keeps_all c.args.blocks c.args.bytes.now c.read_at_end.result c.read_at_end.ensures.found
