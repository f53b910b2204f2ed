use Rattle.std.proofs.Common.{◌∙◌}
use Rattle.jfs_logfmt.specs.Written.{text_of}
use Rattle.jfs_logfmt_rows.proofs.written.there_and_back.Goals as goal

pub returns : goal.returns
returns c =
    c.read_record_before.ensures.whole c.args.front.items (text_of c.args.r.now) c.args.r.now (c.as_slice.ensures.value ∙ c.in_ok-write_record.ensures.ok) c.in_ok-write_record.ensures.spells c.requires.sound
